-- `licence::closed` meets its contract.
use mathlib.Core.Path.{sym, ap, ◌∙◌}
use Rattle.std.proofs.Common.{◌≡◌, rules, to_z, of_z}
use Rattle.std.specs.Int.{w64}
use borrow.Author.Tests.{eq-eqb, ne_eqb, lt-ltb, le-ltb}
use Rattle.licence.specs.Frames.{summed, closed_of}
use Rattle.licence.specs.declared.Frames.TheVariants.{Sum}
use Rattle.licence.proofs.closed.Goals as goal

pub returns-then-first-eq0 : goal.returns-then-first-eq0
unfolding closed_of
returns-then-first-eq0 c = rw (eq-eqb _ _ c.if-first-eq0.true)

pub returns-then-last-first : goal.returns-then-last-first
unfolding closed_of
returns-then-last-first c = rw (ne_eqb _ _ c.if-first-eq0.false, lt-ltb _ _ c.if-last-first.true)

pub returns-then-commit-last : goal.returns-then-commit-last
unfolding closed_of
returns-then-commit-last c = rw (ne_eqb _ _ c.if-first-eq0.false, le-ltb _ _ c.if-last-first.false, lt-ltb _ _ c.if-commit-last.true)

pub returns-in-By : goal.returns-in-By
unfolding closed_of
returns-in-By c =
    let e : to_z w64 (of_z w64 c.in-By.s) ≡ c.in-By.s = search rules in
    rw (ne_eqb _ _ c.if-first-eq0.false, le-ltb _ _ c.if-last-first.false, le-ltb _ _ c.if-commit-last.false) (ap Sum e ∙ ap summed (sym c.in-By.is))

pub returns-in-Beyond : goal.returns-in-Beyond
unfolding closed_of
returns-in-Beyond c = rw (ne_eqb _ _ c.if-first-eq0.false, le-ltb _ _ c.if-last-first.false, le-ltb _ _ c.if-commit-last.false) (ap summed (sym c.in-Beyond.is))
