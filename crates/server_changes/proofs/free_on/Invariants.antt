-- `server_changes::free_on` meets its contract. The loop's invariant: the state is that of the changes passed.
use Prim.Native.Nat.{◌≤◌, ◌-◌, ◌*◌}
use mathlib.Core.Path.{◌≡◌}
use lib.ListN.{length}
use Rattle.station_state.specs.Runs.{run}
use Rattle.server_changes.specs.Changes.{free_one_b}
use Rattle.server_changes.proofs.free_on.Given as goal

abbrev pub invariant-loop-o : goal.invariant-loop-o
invariant-loop-o l = (l.o ≤ 8) × (length l.s ≡ length l.initial.s) × (l.s ≡ run (free_one_b l.i) l.initial.s (l.p * 8) l.o)
