-- `readers::show_counts` meets its contract.
use native.Mathlib.Omega.{arith}
use mathlib.Core.Path.{refl, ap, ◌∙◌}
use Rattle.refusals.specs.Laws.{passed_on}
use Rattle.archive.specs.Told.{told}
use borrow.Author.Tests.{lt-ltb}
use Rattle.readers.specs.Readers.{counts_at}
use Rattle.readers.specs.Facts.{found, found_room, counts_told_lem, counts_put}
use Rattle.readers.proofs.show_counts.Goals as goal

pub returns-then-out-lt-LONGEST : goal.returns-then-out-lt-LONGEST
unfolding counts_at
returns-then-out-lt-LONGEST c = simp (lt-ltb _ _ c.if-out-lt-LONGEST.true)

pub slice_bounds-put_counts-count : goal.slice_bounds-put_counts-count
slice_bounds-put_counts-count c = omega (arith, (found c.args.archive.now _ _ (rw c.in-Some.is at c.in_ok-f.ensures) refl).starts)

pub slice_bounds-put_counts-start : goal.slice_bounds-put_counts-start
slice_bounds-put_counts-start c = omega (arith, (found c.args.archive.now _ _ (rw c.in-Some.is at c.in_ok-f.ensures) refl).starts)

pub slice_bounds-put_counts-end : goal.slice_bounds-put_counts-end
slice_bounds-put_counts-end c = omega (arith, (found c.args.archive.now _ _ (rw c.in-Some.is at c.in_ok-f.ensures) refl).starts)

pub put_counts-requires : goal.put_counts-requires
put_counts-requires c = found_room c.args.archive.now c.args.out.now _ (found c.args.archive.now _ _ (rw c.in-Some.is at c.in_ok-f.ensures) refl) (omega arith)

pub returns-in-Some : goal.returns-in-Some
returns-in-Some c = counts_put c.args.archive.now c.args.out.now _ _ (omega arith) (rw c.in-Some.is at c.in_ok-f.ensures) c.put_counts.ensures

pub returns-in-None : goal.returns-in-None
returns-in-None c = counts_told_lem c.args.archive.now c.args.out.now _ _ (omega arith) (rw c.in-None.is at c.in_ok-f.ensures)

pub returns-in_err-f : goal.returns-in_err-f
returns-in_err-f c = ap (told _) (passed_on _ c.in_err-f.field-0.0 c.from_residual.ensures.1) ∙ counts_told_lem c.args.archive.now c.args.out.now _ _ (omega arith) c.in_err-f.ensures
