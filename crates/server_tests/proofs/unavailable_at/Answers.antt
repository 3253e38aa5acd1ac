-- `server_tests::unavailable_at` meets its contract.
use Rattle.server_tests.specs.Tests.{unavailable_at}
use Rattle.server_tests.specs.Shorter.{others_wait}
use Rattle.server_tests.proofs.unavailable_at.Goals as goal

pub returns : goal.returns
unfolding unavailable_at
returns c = rw (← others_wait _ _ _ _, ← c.requires.4) (cc)
