use native.Mathlib.Omega.{arith}
use native.Mathlib.Nat.{add-zero}
use native.Mathlib.Numerals.{add-one}
use mathlib.Core.Path.{sym, ap, ◌∙◌}
use borrow.Author.Tests.{eq-eqb, ne_eqb, eqb-false}
use Rattle.refusals.specs.Laws.{not_accepted}
use Rattle.block_writer.specs.Write.{Scanned, scan_of}
use Rattle.block_writer.specs.Facts.{check_lent, checked, scan_turn, scan_full, scan_refused, scan_ends, finds_refusal}
use Rattle.block_writer.proofs.scan.Goals as goal

pub returns-then-s-eq0 : goal.returns-then-s-eq0
unfolding scan_of
returns-then-s-eq0 c = simp (eq-eqb _ _ c.if-s-eq0.true)

pub returns-then-count-eq-RECORDS : goal.returns-then-count-eq-RECORDS
unfolding scan_of
returns-then-count-eq-RECORDS c = simp (ne_eqb _ _ c.if-s-eq0.false) (ap (λ (x : Scanned). x.number) (sym (scan_full _ _ _ _ c.if-count-eq-RECORDS.true c.loop-at-test.true) ∙ c.loop-at.invariant.3))

pub returns-in_err-check : goal.returns-in_err-check
unfolding scan_of
returns-in_err-check c =
    let why = c.in_err-check.field-0.0 in
    let e = check_lent c.args.s.now c.loop-at.at c.in_err-check.ensures in
    let refused = scan_refused c.args.s.now c.loop-at.at c.loop-at.count c.loop-at.total (omega arith) c.loop-at-test.true (λ q. eqb-false _ _ (not_accepted why) (e ∙ q)) in
    simp (ne_eqb _ _ c.if-s-eq0.false) (finds_refusal c.from_residual.result why _ c.from_residual.ensures.1 (e ∙ ap (λ (x : Scanned). x.number) (sym refused ∙ c.loop-at.invariant.3)))

pub size_at-k-requires : goal.size_at-k-requires
size_at-k-requires c = let e = check_lent c.args.s.now c.loop-at.at c.in_ok-check.ensures in let k = checked c.args.s.now c.loop-at.at (sym e) in omega (arith, k.there)

pub overflow_add-at-in-loop-at : goal.overflow_add-at-in-loop-at
overflow_add-at-in-loop-at c = let e = check_lent c.args.s.now c.loop-at.at c.in_ok-check.ensures in let k = checked c.args.s.now c.loop-at.at (sym e) in omega (arith, k.there)

pub overflow_add-total : goal.overflow_add-total
overflow_add-total c = let e = check_lent c.args.s.now c.loop-at.at c.in_ok-check.ensures in let k = checked c.args.s.now c.loop-at.at (sym e) in omega (arith, k.size)

pub loop-at-smaller : goal.loop-at-smaller
loop-at-smaller c = let e = check_lent c.args.s.now c.loop-at.at c.in_ok-check.ensures in let k = checked c.args.s.now c.loop-at.at (sym e) in omega (arith, k.there)

pub loop-at-preserved : goal.loop-at-preserved
loop-at-preserved c = let e = check_lent c.args.s.now c.loop-at.at c.in_ok-check.ensures in let k = checked c.args.s.now c.loop-at.at (sym e) in (omega (arith, k.there), omega arith, omega (arith, k.size), rw add-one (let q = c.size_at-k.ensures.0 in rw q (rw add-zero at (sym (scan_turn c.args.s.now c.loop-at.at c.loop-at.count c.loop-at.total (omega arith) c.loop-at-test.true (sym e))) ∙ c.loop-at.invariant.3)))

pub returns : goal.returns
unfolding scan_of
returns c = simp (ne_eqb _ _ c.if-s-eq0.false) (sym (scan_ends _ _ _ _ _ (omega arith)) ∙ c.loop-at.invariant.3)
