-- `station_pages::mark` meets its contract. The loop's invariant: the state is that of the changes passed.
use Prim.Native.Nat.{◌≤◌, ◌-◌, ◌*◌}
use mathlib.Core.Path.{◌≡◌}
use lib.ListN.{length}
use Rattle.station_state.specs.Runs.{run}
use Rattle.station_pages.specs.Pages.{mark_one_b}
use Rattle.station_pages.proofs.mark.Given as goal

abbrev pub invariant-loop-g : goal.invariant-loop-g
invariant-loop-g l = (l.g ≤ 4) × (length l.s ≡ length l.initial.s) × (l.s ≡ run (mark_one_b l.sets) l.initial.s 0 (l.g * 8))
