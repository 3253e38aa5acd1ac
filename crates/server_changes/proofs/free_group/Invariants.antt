-- `server_changes::free_group` meets its contract. The loop's invariant: the state is that of the changes passed.
use Prim.Native.Nat.{◌≤◌, ◌-◌, ◌*◌}
use mathlib.Core.Path.{◌≡◌}
use lib.ListN.{length}
use Rattle.station_state.specs.Runs.{run}
use Rattle.server_changes.specs.Changes.{free_page_b}
use Rattle.server_changes.proofs.free_group.Given as goal

abbrev pub invariant-loop-p : goal.invariant-loop-p
invariant-loop-p l = (l.p ≤ 8) × (length l.s ≡ length l.initial.s) × (l.s ≡ run (free_page_b l.i) l.initial.s (l.g * 8) l.p)
