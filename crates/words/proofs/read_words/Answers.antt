-- `words::read_words` meets its contract.
use Rattle.text.specs.Stores.{put_join}
use native.Mathlib.Omega.{arith}
use Rattle.words.specs.Words.{words_of}
use Rattle.words.specs.Fits.{number_short, said_at}
use Rattle.words.proofs.read_words.Goals as goal

pub say_long-at-requires : goal.say_long-at-requires
say_long-at-requires c = omega (arith, said_at _ _ _ _ _ c.say-at.ensures)

pub put_number-requires : goal.put_number-requires
put_number-requires c = omega (arith, said_at _ _ _ _ _ c.say-at.ensures, said_at _ _ _ _ _ c.say_long-at.ensures, number_short c.args.left)

pub returns : goal.returns
unfolding words_of
returns c = put_join _ _ _ _ c.say-at.ensures (put_join _ _ _ _ c.say_long-at.ensures c.put_number.ensures.0)
