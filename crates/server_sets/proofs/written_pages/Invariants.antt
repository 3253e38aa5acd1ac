-- `server_sets::written_pages` meets its contract. The loop's invariant: the mask is the definition's at the count of pages passed.
use Prim.Native.Nat.{◌≤◌, ◌-◌}
use mathlib.Core.Path.{◌≡◌}
use Rattle.server_tests.specs.Tests.{written_page_b}
use Rattle.cells.specs.Loops.{mask_to}
use Rattle.server_sets.proofs.written_pages.Given as goal

abbrev pub invariant-loop-p : goal.invariant-loop-p
invariant-loop-p l = (l.p ≤ 32) × (l.d ≡ mask_to (written_page_b l.s l.i) l.p)
