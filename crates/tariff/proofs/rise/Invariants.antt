-- `tariff::rise` meets its contract.
use mathlib.Core.Path.{◌≡◌}
use Prim.Native.Nat.{◌-◌, ◌≤◌}
use Rattle.lists.specs.Tests.{all_to}
use Rattle.tariff.specs.Table.{rise_at}
use Rattle.tariff.proofs.rise.Given as goal

abbrev pub invariant-loop-i : goal.invariant-loop-i
invariant-loop-i l = (1 ≤ l.i) × (l.i - 1 ≤ l.k - 1) × (l.ok ≡ all_to (rise_at l.table) (l.i - 1))
