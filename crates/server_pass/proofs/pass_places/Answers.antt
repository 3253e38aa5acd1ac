use mathlib.Core.Path.{◌∙◌}
use native.Mathlib.Omega.{arith}
use borrow.Author.Rules.{rules}
use Rattle.server_actions.specs.Posting.{turn_none, turn_room, turn_posted, turn_end}
use Rattle.server_pass.specs.Sane.{state_of}
use Rattle.server_pass.specs.Seats.{turns_places, turn_sane}
use Rattle.server_pass.specs.Edges.{noted_none, noted_next, noted_end}
use Rattle.server_pass.proofs.pass_places.Goals as goal

pub loop-n-init : goal.loop-n-init
loop-n-init c = (search rules, search rules, search rules, search rules, search rules, c.requires.2, turn_none (turns_places _) _ _ _ _, noted_none _ _ c.requires.1 _)

pub turn-d-requires : goal.turn-d-requires
turn-d-requires c = (search rules, c.loop-n.invariant.4 ∙ c.requires.1.wide, c.loop-n.invariant.5, turn_room (turns_places _) _ _ _ _ 8 _ c.loop-n.invariant.6 (search rules) c.requires.3)

pub loop-n-preserved : goal.loop-n-preserved
loop-n-preserved c = (search rules, search rules, search rules, search rules, search rules, turn_sane _ _ _ _ _ c.turn-d.ensures.0 c.loop-n.invariant.5, turn_posted (turns_places _) _ _ _ _ 8 _ c.loop-n.invariant.6 c.turn-d.ensures.0, noted_next _ _ _ _ c.requires.0 c.loop-n.invariant.7 (state_of _ _ _ _ c.loop-n.invariant.6) c.turn-d.ensures.1)

pub returns : goal.returns
returns c = (turn_end (turns_places _) _ _ _ _ 8 _ c.loop-n.invariant.6 (omega arith), noted_end _ _ _ _ c.loop-n.invariant.7 (omega arith))
