-- `station_pages::dropped` meets its contract. The loop's invariant: the mask is the definition's at the count of pages passed.
use Prim.Native.Nat.{◌≤◌, ◌-◌, ◌*◌}
use mathlib.Core.Path.{◌≡◌}
use Rattle.cells.specs.Loops.{mask_to}
use Rattle.station_pages.specs.Pages.{drops_b}
use Rattle.station_pages.proofs.dropped.Given as goal

abbrev pub invariant-loop-g : goal.invariant-loop-g
invariant-loop-g l = (l.g ≤ 4) × (l.d ≡ mask_to (drops_b l.sets l.s) (l.g * 8))
