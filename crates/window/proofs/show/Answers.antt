-- `window::show` meets its contract.
use Rattle.window.specs.Window.{shown}
use mathlib.Core.Path.{sym}
use Rattle.window.proofs.show.Goals as goal

pub returns : goal.returns
unfolding shown
returns c = (simp (sym c.refusal-n.ensures, sym c.put_u8.ensures) c.note.ensures, c.say_taken.ensures)
