-- `fault::order_fault` meets its contract. The loop's invariant: all pairs passed rise.
use mathlib.Core.Path.{◌≡◌}
use Prim.Native.Nat.{◌-◌, ◌≤◌}
use mathlib.Core.Bool.{true}
use Rattle.lists.specs.Tests.{all_to}
use Rattle.record.specs.Check.{rise_at}
use Rattle.fault.proofs.order_fault.Given as goal

abbrev pub invariant-loop-i : goal.invariant-loop-i
invariant-loop-i l = (l.i ≤ l.n - 1) × (all_to (rise_at l.t l.a) l.i ≡ true)
