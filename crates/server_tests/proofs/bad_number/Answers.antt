-- `server_tests::bad_number` meets its contract.
use Rattle.server_tests.specs.Tests.{bad_number_b}
use Rattle.server_tests.proofs.bad_number.Goals as goal

pub returns : goal.returns
unfolding bad_number_b
returns c = cc
