-- `window::note_value` meets its contract.
use Rattle.window.specs.Window.{noted_value}
use Rattle.window.proofs.note_value.Goals as goal

pub returns : goal.returns
unfolding noted_value
returns c = cc
