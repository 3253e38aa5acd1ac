-- `station_state::waiting_values` meets its contract. The loop's invariant: the values are the definition's at the count of objects passed.
use Rattle.station_state.specs.Layout.{waiting_value}
use Rattle.station_state.specs.Changes.{values_to}
use Prim.Native.Nat.{◌≤◌}
use mathlib.Core.Path.{◌≡◌}
use lib.ListN.{length}
use Rattle.station_state.proofs.waiting_values.Given as goal

abbrev pub invariant-loop-o : goal.invariant-loop-o
invariant-loop-o l = (l.o ≤ 8) × (length l.v ≡ 8) × (l.v ≡ values_to (λ k. waiting_value l.s k) l.o)
