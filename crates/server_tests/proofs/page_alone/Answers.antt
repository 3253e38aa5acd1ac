-- `server_tests::page_alone` meets its contract.
use Rattle.server_tests.specs.Alone.{alone_none}
use borrow.Author.Rules.{rules}
use Rattle.server_tests.proofs.page_alone.Goals as goal

pub returns-then-elsewhere : goal.returns-then-elsewhere
returns-then-elsewhere c = (search rules, alone_none _ _)
