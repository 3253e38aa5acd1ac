-- `server_tests::blockers` meets its contract.
use Rattle.server_tests.specs.Blockers.{blockers_b}
use Rattle.server_tests.proofs.blockers.Goals as goal

pub returns : goal.returns
unfolding blockers_b
returns c = cc
