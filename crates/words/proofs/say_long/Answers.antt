-- `words::say_long` meets its contract.
use Rattle.text.specs.Stores.{put_join}
use native.Mathlib.Omega.{arith}
use Rattle.words.specs.Words.{numbered}
use Rattle.words.specs.Fits.{number_short}
use Rattle.words.proofs.say_long.Goals as goal

pub put_number-at-requires : goal.put_number-at-requires
put_number-at-requires c = omega (arith, number_short c.args.n)

pub put_text-requires : goal.put_text-requires
put_text-requires c = omega (arith, number_short c.args.n)

pub returns : goal.returns
unfolding numbered
returns c = put_join _ _ _ _ c.put_text-at.ensures.0 (put_join _ _ _ _ c.put_number-at.ensures.0 c.put_text.ensures.0)
