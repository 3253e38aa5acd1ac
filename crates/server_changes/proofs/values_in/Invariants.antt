-- `server_changes::values_in` meets its contract. The loop's invariant: what is left leads to the definition's state.
use Prim.Native.Nat.{◌+◌, ◌*◌}
use mathlib.Core.Path.{◌≡◌}
use lib.ListN.{length}
use Rattle.cells.proofs.Each.{Leads}
use Rattle.station_state.specs.Runs.{run}
use Rattle.server_changes.specs.Changes.{value_one_b}
use Rattle.server_changes.specs.Values.{value_at_b}
use Rattle.server_changes.proofs.values_in.Given as goal

abbrev pub invariant-loop-k : goal.invariant-loop-k
invariant-loop-k l = (length l.s ≡ length l.initial.s) × Leads (λ t b. value_at_b l.i l.n t (l.g * 64 + b)) 64 l.k-iterator.left l.s (run (value_one_b l.i l.n) l.initial.s (l.g * 64) 64)
