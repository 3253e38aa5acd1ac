use native.Mathlib.Omega.{arith}
use Prim.Native.Nat.{◌+◌, ◌-◌}
use mathlib.Core.Path.{◌≡◌, sym, ◌∙◌}
use Rattle.archive.specs.Answered.{refusal_passed}
use Rattle.seek.specs.Facts.{turn, turn_here, turn_on, turn_none}
use Rattle.seek.proofs.find_on.Goals as goal

pub returns-in_err-f : goal.returns-in_err-f
returns-in_err-f c = refusal_passed _ c.in_err-f.field-0.0 c.from_residual.ensures.1 ∙ sym (c.loop-before.invariant ∙ turn _ _ _ _ _ _ _ (omega arith) c.in_err-f.ensures)

pub returns-in_default : goal.returns-in_default
returns-in_default c = sym (c.loop-before.invariant ∙ turn _ _ _ _ _ _ _ (omega arith) (rw c.in_default.is at c.in_ok-f.ensures))

pub returns-then-commit-before-eq1 : goal.returns-then-commit-before-eq1
returns-then-commit-before-eq1 c = sym (c.loop-before.invariant ∙ turn_here _ _ _ _ _ _ _ c.if-commit-before-eq1.true (rw c.in-Some.is at c.in_ok-f.ensures))

pub loop-before-preserved : goal.loop-before-preserved
loop-before-preserved c =
    let i = c.loop-before.before in
    let next : c.args.commit - (i + 1) ≡ c.args.commit - i - 1 = omega arith in
    rw next (c.loop-before.invariant ∙ turn_on _ _ _ _ _ _ _ (omega arith) c.if-commit-before-eq1.false (rw c.in-Some.is at c.in_ok-f.ensures))

pub returns : goal.returns
returns c = sym (c.loop-before.invariant ∙ turn_none _ _ _ _ _ (omega arith))
