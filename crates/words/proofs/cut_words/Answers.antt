-- `words::cut_words` meets its contract.
use Rattle.text.specs.Stores.{put_join}
use native.Mathlib.Omega.{arith}
use Rattle.words.specs.Words.{words_of}
use Rattle.words.specs.Fits.{number_short, said_at}
use Rattle.words.proofs.cut_words.Goals as goal

pub put_number-requires : goal.put_number-requires
put_number-requires c = omega (arith, said_at _ _ _ _ _ c.say_long-at.ensures, number_short c.args.whole)

pub returns : goal.returns
unfolding words_of
returns c = put_join _ _ _ _ c.say_long-at.ensures c.put_number.ensures.0
