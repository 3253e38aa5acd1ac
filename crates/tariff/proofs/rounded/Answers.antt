-- `tariff::rounded` meets its contract.
use native.Mathlib.Omega.{arith}
use Rattle.tariff.specs.Facts.{cents_beyond, cents_of_lem, high_beyond, nearest_words}
use Rattle.tariff.proofs.rounded.Goals as goal

pub returns-then-x-gt-HIGH : goal.returns-then-x-gt-HIGH
returns-then-x-gt-HIGH c = let x = c.args.x in cents_beyond _ (high_beyond x.hi x.lo (omega arith))

pub returns-then-q-gt9223372036854775807 : goal.returns-then-q-gt9223372036854775807
returns-then-q-gt9223372036854775807 c = let x = c.args.x in cents_beyond _ (omega (arith, nearest_words x.hi x.lo))

pub returns : goal.returns
returns c = let x = c.args.x in cents_of_lem _ _ (nearest_words x.hi x.lo) (omega arith)
