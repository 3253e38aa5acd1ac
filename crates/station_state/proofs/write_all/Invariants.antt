-- `station_state::write_all` meets its contract. The loop's invariant: the state is the definition's at the count of objects passed.
use Rattle.station_state.specs.Changes.{written_to}
use Prim.Native.Nat.{◌≤◌}
use mathlib.Core.Path.{◌≡◌}
use lib.ListN.{length}
use Rattle.station_state.proofs.write_all.Given as goal

abbrev pub invariant-loop-o : goal.invariant-loop-o
invariant-loop-o l = (l.o ≤ 8) × (length l.s ≡ length l.initial.s) × (l.s ≡ written_to l.p l.x l.values l.initial.s l.o)
