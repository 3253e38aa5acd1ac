-- `station_pages::versions` meets its contract. The loop's invariant: the state is that of the changes passed.
use Prim.Native.Nat.{◌≤◌, ◌-◌, ◌*◌}
use mathlib.Core.Path.{◌≡◌}
use lib.ListN.{length}
use Rattle.station_state.specs.Runs.{run}
use Rattle.station_pages.specs.Versions.{version_if_b}
use Rattle.station_pages.proofs.versions.Given as goal

abbrev pub invariant-loop-g : goal.invariant-loop-g
invariant-loop-g l = (l.g ≤ 4) × (length l.s ≡ length l.initial.s) × (l.s ≡ run (version_if_b l.n) l.initial.s 0 (l.g * 64))
