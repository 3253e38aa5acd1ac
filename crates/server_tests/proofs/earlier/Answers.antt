-- `server_tests::earlier` meets its contract.
use Rattle.server_tests.specs.Tests.{earlier_b}
use Rattle.server_tests.proofs.earlier.Goals as goal

pub returns : goal.returns
unfolding earlier_b
returns c = cc
