use borrow.Author.Rules.{rules}
use Rattle.server_actions.specs.Posting.{turn_none, turn_room, turn_posted}
use Rattle.server_actions.specs.Parts.{turns_asks}
use Rattle.server_visit.specs.Visits.{ask_keeps}
use Rattle.server_visit.proofs.ask_all.Goals as goal

pub loop-p-init : goal.loop-p-init
loop-p-init c = (search rules, search rules, search rules, search rules, c.requires.2, turn_none (turns_asks _ _) _ _ _ _)

pub ask-e-requires : goal.ask-e-requires
ask-e-requires c = (search rules, search rules, search rules, c.loop-p.invariant.4 _ (search rules), turn_room (turns_asks _ _) _ _ _ _ 32 _ c.loop-p.invariant.5 (search rules) c.requires.3)

pub loop-p-preserved : goal.loop-p-preserved
loop-p-preserved c = (search rules, search rules, search rules, search rules, ask_keeps _ _ _ _ _ _ _ c.ask-e.ensures c.loop-p.invariant.4, turn_posted (turns_asks _ _) _ _ _ _ 32 _ c.loop-p.invariant.5 c.ask-e.ensures)
