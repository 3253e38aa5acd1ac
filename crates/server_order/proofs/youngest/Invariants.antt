-- `server_order::youngest` meets its contract. The loop's invariant: the answer is the definition's at the count of stations passed.
use Prim.Native.Nat.{◌≤◌, ◌-◌}
use mathlib.Core.Path.{◌≡◌}
use Rattle.server_order.specs.Order.{edges_to, youngest_to}
use Rattle.server_order.proofs.youngest.Given as goal

abbrev pub invariant-loop-n : goal.invariant-loop-n
invariant-loop-n l = (l.n ≤ 8) × (l.r ≤ 8) × (l.r ≡ youngest_to l.s (edges_to l.s 8) l.n)
