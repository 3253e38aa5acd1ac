-- `text::put_number` meets its contract.
use Rattle.text.specs.Decimal.{digits_length}
use Rattle.text.specs.Stores.{number_stores}
use native.Mathlib.Omega.{arith}
use Rattle.text.proofs.put_number.Goals as goal

pub put_digits-requires : goal.put_digits-requires
put_digits-requires c = omega (arith, digits_length _ _ c.digits-k.ensures.0)

pub returns : goal.returns
returns c = (number_stores _ _ _ _ c.digits-k.ensures.0 c.put_digits.ensures, omega (arith, digits_length _ _ c.digits-k.ensures.0))
