use native.Mathlib.Omega.{arith}
use Rattle.tariff.specs.Facts.{charge_next, done_next}
use Rattle.tariff.proofs.charge.Goals as goal

pub loop-i-preserved : goal.loop-i-preserved
loop-i-preserved c = (omega arith, charge_next _ _ _ _ _ c.upper.ensures c.covered-to.ensures _ _ _ _ _ _ c.loop-i.invariant.1 c.loop-i.invariant.2 c.above.ensures c.price.ensures c.product.ensures.0 c.add-sum.ensures.0, done_next _ _ _ _ _ c.upper.ensures c.covered-to.ensures, omega arith)
