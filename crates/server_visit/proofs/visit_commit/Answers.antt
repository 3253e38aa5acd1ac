-- `server_visit::visit_commit` meets its contract.
use mathlib.Core.Path.{refl}
use Rattle.server_actions.specs.Posting.{room_first}
use Rattle.server_actions.specs.Parts.{acts_judge}
use Rattle.server_visit.specs.Visits.{out_by, in_room, in_post, keepers_held, keepers_blockers, keepers_shut, keepers_fault, keepers_room, keepers_chain}
use borrow.Author.Rules.{rules}
use Rattle.server_visit.proofs.visit_commit.Goals as goal

pub fail-requires : goal.fail-requires
fail-requires c = (search rules, search rules, c.requires.2, c.requires.4, c.in-Some.ensures, c.requires.5)

pub returns-in-Some : goal.returns-in-Some
returns-in-Some c = c.fail.ensures

pub ask_keepers-d-requires : goal.ask_keepers-d-requires
ask_keepers-d-requires c = (search rules, search rules, c.requires.2, c.requires.4, room_first _ _ _ (acts_judge _) _ (in_room _ _ _ _ _ (out_by _ _ c.in_default.ensures refl) c.requires.5))

pub judge-requires : goal.judge-requires
judge-requires c = (search rules, search rules, keepers_held _ _ _ _ _ c.ask_keepers-d.ensures c.requires.2, keepers_blockers _ _ _ _ _ c.ask_keepers-d.ensures c.requires.1 c.requires.3, keepers_shut _ _ _ _ _ c.ask_keepers-d.ensures c.requires.4, keepers_fault _ _ _ _ _ c.ask_keepers-d.ensures c.requires.1 c.in_default.ensures, keepers_room _ _ _ _ _ c.ask_keepers-d.ensures (acts_judge _) (in_room _ _ _ _ _ (out_by _ _ c.in_default.ensures refl) c.requires.5))

pub returns : goal.returns
returns c = in_post _ _ _ _ _ (out_by _ _ c.in_default.ensures refl) (keepers_chain _ _ _ _ _ c.ask_keepers-d.ensures (acts_judge _) c.judge.ensures)
