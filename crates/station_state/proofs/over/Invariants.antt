-- `station_state::over` meets its contract. The loop's invariant: the answer is the definition's at the count of bytes passed.
use Prim.Native.Nat.{◌≤◌}
use mathlib.Core.Path.{◌≡◌}
use Rattle.station_state.specs.Sets.{over}
use Rattle.station_state.proofs.over.Given as goal

abbrev pub invariant-loop-k : goal.invariant-loop-k
invariant-loop-k l = (l.k ≤ l.n) × (l.x ≡ over l.s l.at l.k)
