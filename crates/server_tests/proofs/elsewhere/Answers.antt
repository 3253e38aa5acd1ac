-- `server_tests::elsewhere` meets its contract.
use Rattle.server_tests.specs.Words.{only_all}
use Rattle.server_tests.proofs.elsewhere.Goals as goal

pub returns : goal.returns
returns c = only_all _ _ _ c.only_on.ensures c.only_on-2.ensures c.only_on-3.ensures c.only_on-4.ensures
