-- `text::digits` meets its contract.
use Rattle.text.specs.Decimal.{one_digit, digits_of}
use native.Mathlib.Omega.{arith}
use Rattle.text.proofs.digits.Goals as goal

pub returns-then-n-lt10 : goal.returns-then-n-lt10
returns-then-n-lt10 c = (one_digit _ c.if-n-lt10.true, omega arith)

pub returns : goal.returns
returns c = (digits_of _ _ c.ilog10.ensures.power_le c.ilog10.ensures.next_power_gt c.ilog10.ensures.bound, omega (arith, c.ilog10.ensures.bound))
