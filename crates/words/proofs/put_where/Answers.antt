-- `words::put_where` meets its contract.
use Rattle.text.specs.Stores.{put_join}
use native.Mathlib.Omega.{arith}
use Rattle.words.specs.Words.{where_of}
use Rattle.words.specs.Fits.{said_at}
use mathlib.Core.Path.{sym}
use Rattle.words.proofs.put_where.Goals as goal

pub say_long-requires : goal.say_long-requires
say_long-requires c = omega (arith, said_at _ _ _ _ _ c.say_long-at.ensures)

pub returns : goal.returns
unfolding where_of
returns c = rw (sym c.placed-place.ensures) (put_join _ _ _ _ c.say_long-at.ensures c.say_long.ensures)
