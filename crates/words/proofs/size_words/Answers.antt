-- `words::size_words` meets its contract.
use native.Mathlib.Omega.{arith}
use Rattle.text.specs.Stores.{put_join}
use Rattle.words.specs.Words.{words_of}
use Rattle.words.specs.Fits.{said_at}
use Rattle.words.proofs.size_words.Goals as goal

pub say_long-requires : goal.say_long-requires
say_long-requires c = omega (arith, said_at _ _ _ _ _ c.say_long-at.ensures)

pub returns : goal.returns
unfolding words_of
returns c = put_join _ _ _ _ c.say_long-at.ensures c.say_long.ensures
