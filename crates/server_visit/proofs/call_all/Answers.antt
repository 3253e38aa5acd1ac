use borrow.Author.Rules.{rules}
use Rattle.server_actions.specs.Posting.{turn_none, turn_room, turn_posted}
use Rattle.server_actions.specs.Parts.{turns_calls}
use Rattle.server_visit.proofs.call_all.Goals as goal

pub loop-j-init : goal.loop-j-init
loop-j-init c = (search rules, search rules, search rules, turn_none (turns_calls _ _ _) _ _ _ _)

pub call_one-e-requires : goal.call_one-e-requires
call_one-e-requires c = (search rules, search rules, search rules, turn_room (turns_calls _ _ _) _ _ _ _ 8 _ c.loop-j.invariant.3 (search rules) c.requires.2)

pub loop-j-preserved : goal.loop-j-preserved
loop-j-preserved c = (search rules, search rules, search rules, turn_posted (turns_calls _ _ _) _ _ _ _ 8 _ c.loop-j.invariant.3 c.call_one-e.ensures)
