-- `tariff::charge` meets its contract.
use mathlib.Core.Path.{◌≡◌}
use Prim.Native.Nat.{◌*◌, ◌≤◌}
use Rattle.wide.specs.Wide.{words}
use Rattle.tariff.specs.Table.{done_to, charge_to}
use Rattle.tariff.proofs.charge.Given as goal

abbrev pub invariant-loop-i : goal.invariant-loop-i
invariant-loop-i l = (l.i ≤ l.k) × (words l.sum.hi l.sum.lo ≡ charge_to l.table l.n l.i) × (l.done ≡ done_to l.table l.n l.i) × (l.sum.hi ≤ l.i * 4294967296)
