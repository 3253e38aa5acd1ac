-- `station_pages::in_use` meets its contract. The loop's invariant: the answer is the definition's at the count of pages passed.
use Prim.Native.Nat.{◌≤◌, ◌-◌}
use mathlib.Core.Path.{◌≡◌}
use Rattle.station_pages.specs.Pages.{uses_b}
use Rattle.cells.specs.Loops.{any_to}
use Rattle.station_pages.proofs.in_use.Given as goal

abbrev pub invariant-loop-p : goal.invariant-loop-p
invariant-loop-p l = (l.p ≤ 32) × (l.r ≡ any_to (uses_b l.sets l.s) l.p)
