-- `wide::product` meets its contract.
use native.Mathlib.Omega.{arith}
use Prim.Native.Nat.{◌/◌, ◌%◌}
use Rattle.wide.specs.Wide.{words}
use Rattle.wide.specs.Laws.{half_le, halves}
use Rattle.wide.proofs.product.Goals as goal

pub overflow_mul-low : goal.overflow_mul-low
overflow_mul-low c = omega (arith, half_le (c.args.a % 4294967296) c.args.p (omega arith) (omega arith))

pub overflow_mul-high : goal.overflow_mul-high
overflow_mul-high c = omega (arith, half_le (c.args.a / 4294967296) c.args.p (omega arith) (omega arith))

pub overflow_add-high : goal.overflow_add-high
overflow_add-high c = omega (arith, half_le (c.args.a / 4294967296) c.args.p (omega arith) (omega arith), half_le (c.args.a % 4294967296) c.args.p (omega arith) (omega arith))

pub returns : goal.returns
unfolding words
returns c = omega (arith, halves c.args.a c.args.p, half_le (c.args.a / 4294967296) c.args.p (omega arith) (omega arith), half_le (c.args.a % 4294967296) c.args.p (omega arith) (omega arith))
