-- `window::say_taken` meets its contract.
use Rattle.window.proofs.say_taken.Goals as goal

pub returns : goal.returns
returns c = rw c.taken-answer.ensures
