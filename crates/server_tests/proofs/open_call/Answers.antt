-- `server_tests::open_call` meets its contract.
use Rattle.server_tests.specs.Tests.{open_call_b}
use Rattle.server_tests.proofs.open_call.Goals as goal

pub returns : goal.returns
unfolding open_call_b
returns c = cc
