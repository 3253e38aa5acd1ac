-- `text::put_field` meets its contract.
use Rattle.text.specs.Decimal.{field64_length}
use Rattle.text.specs.Stores.{field_stores}
use native.Mathlib.Omega.{arith}
use Rattle.text.proofs.put_field.Goals as goal

pub put_number-e-requires : goal.put_number-e-requires
put_number-e-requires c = omega (arith, field64_length c.args.n c.args.follows)

pub put_u8-requires : goal.put_u8-requires
put_u8-requires c = omega (arith, field64_length c.args.n c.args.follows)

pub overflow_add-result : goal.overflow_add-result
overflow_add-result c = omega (arith, field64_length c.args.n c.args.follows)

pub returns : goal.returns
returns c = (field_stores _ _ _ _ c.put_number-e.ensures.0 c.put_u8.ensures, omega (arith, field64_length c.args.n c.args.follows))
