-- `words::header_words` meets its contract.
use Rattle.words.specs.Words.{words_of}
use Rattle.words.proofs.header_words.Goals as goal

pub returns : goal.returns
unfolding words_of
returns c = c.say_long.ensures
