-- `server_changes::free` meets its contract. The loop's invariant: the state is that of the changes passed.
use Prim.Native.Nat.{◌≤◌, ◌-◌, ◌*◌}
use mathlib.Core.Path.{◌≡◌}
use lib.ListN.{length}
use Rattle.station_state.specs.Runs.{run}
use Rattle.server_changes.specs.Changes.{free_one_b}
use Rattle.server_changes.proofs.free.Given as goal

abbrev pub invariant-loop-g : goal.invariant-loop-g
invariant-loop-g l = (l.g ≤ 4) × (length l.s ≡ length l.initial.s) × (l.s ≡ run (free_one_b l.i) l.initial.s 0 (l.g * 64))
