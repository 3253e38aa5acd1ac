-- `station_pages::dropped_in` meets its contract. The loop's invariant: the mask is that of the pages passed.
use Prim.Native.Nat.{◌≤◌, ◌-◌, ◌*◌}
use mathlib.Core.Path.{◌≡◌}
use Rattle.station_pages.specs.Pages.{drops_b}
use Rattle.station_pages.specs.Groups.{mask_from}
use Rattle.station_pages.proofs.dropped_in.Given as goal

abbrev pub invariant-loop-p : goal.invariant-loop-p
invariant-loop-p l = (l.p ≤ 8) × (l.d ≡ mask_from (drops_b l.sets l.s) (l.g * 8) l.p)
