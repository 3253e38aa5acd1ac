use mathlib.Core.Path.{sym, ap, ◌∙◌}
use native.Mathlib.Omega.{arith}
use Rattle.refusals.specs.Laws.{passed_on}
use Rattle.replay.specs.Played.{played}
use Rattle.replay.specs.Fuel.{begins, moves, turn, turn_record}
use Rattle.replay.proofs.play_archive.Goals as goal

pub loop-f-init : goal.loop-f-init
loop-f-init c = (omega arith, begins _ _ _)

pub returns-in_err-f : goal.returns-in_err-f
returns-in_err-f c = ap (played _ _) (passed_on _ c.in_err-f.field-0.0 c.from_residual.ensures.1) ∙ sym (c.loop-f.invariant.1 ∙ turn _ _ _ _ _ _ c.loop-f.invariant.0 c.in_err-f.ensures)

pub loop-f-smaller : goal.loop-f-smaller
loop-f-smaller c = let m = moves c.args.archive.now c.loop-f.at _ _ _ _ (rw c.in-Some.is at c.in_ok-f.ensures) in omega (arith, m)

pub loop-f-preserved : goal.loop-f-preserved
loop-f-preserved c = let e = rw c.in-Some.is at c.in_ok-f.ensures in let m = moves c.args.archive.now c.loop-f.at _ _ _ _ e in (m.within, c.loop-f.invariant.1 ∙ turn_record _ _ _ _ _ _ c.loop-f.invariant.0 e)

pub returns : goal.returns
returns c = sym (c.loop-f.invariant.1 ∙ turn _ _ _ _ _ _ c.loop-f.invariant.0 (rw c.in_default.is at c.in_ok-f.ensures))
