-- `server_order::edges` meets its contract. The loop's invariant: the edges are those of the definition at the count of stations passed.
use Prim.Native.Nat.{◌≤◌, ◌-◌}
use mathlib.Core.Path.{◌≡◌}
use Rattle.server_order.specs.Order.{edges_to}
use lib.ListN.{length}
use Rattle.server_order.proofs.edges.Given as goal

abbrev pub invariant-loop-i : goal.invariant-loop-i
invariant-loop-i l = (l.i ≤ 8) × (length l.e ≡ 8) × (l.e ≡ edges_to l.s l.i)
