-- `words::say` meets its contract.
use Rattle.words.proofs.say.Goals as goal

pub returns : goal.returns
returns c = rw c.from.ensures at c.say_long.ensures
