-- `player::move_down` meets its contract.
use Rattle.std.proofs.Common.{refl, ◌∙◌}
use Rattle.player.specs.Moves.{move_done}
use Rattle.player.proofs.move_down.Goals as goal

pub returns : goal.returns
returns c = (c.copy_within.ensures.after ∙ move_done c.args.input.now c.args.at c.args.len c.requires.0 c.requires.1, refl)
