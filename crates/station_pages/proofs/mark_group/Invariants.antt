-- `station_pages::mark_group` meets its contract. The loop's invariant: the state is that of the changes passed.
use Prim.Native.Nat.{◌≤◌, ◌-◌, ◌*◌}
use mathlib.Core.Path.{◌≡◌}
use lib.ListN.{length}
use Rattle.station_state.specs.Runs.{run}
use Rattle.station_pages.specs.Pages.{mark_one_b}
use Rattle.station_pages.proofs.mark_group.Given as goal

abbrev pub invariant-loop-p : goal.invariant-loop-p
invariant-loop-p l = (l.p ≤ 8) × (length l.s ≡ length l.initial.s) × (l.s ≡ run (mark_one_b l.sets) l.initial.s (l.g * 8) l.p)
