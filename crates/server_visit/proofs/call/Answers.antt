-- `server_visit::call` meets its contract.
use Rattle.server_visit.specs.Visits.{calls_room, calls_chain}
use borrow.Author.Rules.{rules}
use Rattle.server_visit.proofs.call.Goals as goal

pub call_all-b-requires : goal.call_all-b-requires
call_all-b-requires c = (search rules, search rules, calls_room _ _ _ _ _ c.concerned_set-d.ensures c.requires.2)

pub returns : goal.returns
returns c = calls_chain _ _ _ _ _ c.concerned_set-d.ensures c.call_all-b.ensures c.called.ensures
