-- `station_pages::drop_pages` meets its contract. The loop's invariant: what is left to be dropped leads to the definition's state.
use mathlib.Core.Path.{◌≡◌}
use lib.ListN.{length}
use Rattle.cells.proofs.Each.{Leads}
use Rattle.station_pages.specs.Pages.{drop_page_b, drop_to}
use Rattle.station_pages.proofs.drop_pages.Given as goal

abbrev pub invariant-loop-p : goal.invariant-loop-p
invariant-loop-p l = (length l.s ≡ length l.initial.s) × Leads drop_page_b 32 l.p-iterator.left l.s (drop_to l.initial.s l.d 32)
