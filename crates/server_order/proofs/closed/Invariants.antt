-- `server_order::closed` meets its contract. The loop's invariant: the word is the definition's at the count of stations passed.
use Prim.Native.Nat.{◌≤◌, ◌-◌}
use mathlib.Core.Path.{◌≡◌}
use Rattle.server_order.specs.Closure.{close_to}
use Rattle.server_order.proofs.closed.Given as goal

abbrev pub invariant-loop-k : goal.invariant-loop-k
invariant-loop-k l = (l.k ≤ 8) × (l.y ≡ close_to l.x l.k)
