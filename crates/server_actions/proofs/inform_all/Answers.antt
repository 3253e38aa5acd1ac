use native.Mathlib.Omega.{arith}
use borrow.Author.Rules.{rules}
use Rattle.server_actions.specs.Posting.{turn_none, turn_room, turn_posted, turn_end}
use Rattle.server_actions.specs.Informs.{turns_set}
use Rattle.server_actions.specs.Chains.{informs_room, informs_post}
use Rattle.server_actions.proofs.inform_all.Goals as goal

pub loop-j-init : goal.loop-j-init
loop-j-init c = (search rules, search rules, search rules, search rules, turn_none (turns_set _ _) _ _ _ _)

pub inform-e-requires : goal.inform-e-requires
inform-e-requires c = (search rules, search rules, search rules, turn_room (turns_set _ _) _ _ _ _ 8 _ c.loop-j.invariant.4 (search rules) (informs_room _ _ _ _ _ _ _ c.informed_set-w.ensures c.requires.3))

pub loop-j-preserved : goal.loop-j-preserved
loop-j-preserved c = (search rules, search rules, search rules, search rules, turn_posted (turns_set _ _) _ _ _ _ 8 _ c.loop-j.invariant.4 c.inform-e.ensures)

pub returns : goal.returns
returns c = informs_post _ _ _ _ _ _ _ c.informed_set-w.ensures (turn_end (turns_set _ _) _ _ _ _ 8 _ c.loop-j.invariant.4 (omega arith))
