-- `station_pages::blank` meets its contract. The loop's invariant: the state is the definition's at the count of objects passed.
use Prim.Native.Nat.{◌≤◌, ◌-◌}
use mathlib.Core.Path.{◌≡◌}
use Rattle.station_pages.specs.Pages.{blank_to}
use lib.ListN.{length}
use Rattle.station_pages.proofs.blank.Given as goal

abbrev pub invariant-loop-o : goal.invariant-loop-o
invariant-loop-o l = (l.o ≤ 8) × (length l.s ≡ length l.initial.s) × (l.s ≡ blank_to l.initial.s l.p l.o)
