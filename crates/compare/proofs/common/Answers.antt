use mathlib.Core.Path.{sym, ap, ◌∙◌}
use native.Mathlib.Omega.{arith}
use Rattle.replay.specs.Replay.{replayed}
use Rattle.compare.specs.Steps.{onward, stops, refuses}
use Rattle.compare.proofs.common.Goals as goal

pub overflow_add-at : goal.overflow_add-at
overflow_add-at c = let o = onward c.args.first.now c.args.second.now _ c.loop-f.at _ _ _ c.loop-f.invariant.0 c.loop-f.invariant.1 c.loop-f.invariant.2 _ (ap (replayed _) (sym c.in-Record.is) ∙ c.shared.ensures) in omega (arith, o)

pub loop-f-smaller : goal.loop-f-smaller
loop-f-smaller c = let o = onward c.args.first.now c.args.second.now _ c.loop-f.at _ _ _ c.loop-f.invariant.0 c.loop-f.invariant.1 c.loop-f.invariant.2 _ (ap (replayed _) (sym c.in-Record.is) ∙ c.shared.ensures) in omega (arith, o)

pub loop-f-preserved : goal.loop-f-preserved
loop-f-preserved c = let o = onward c.args.first.now c.args.second.now _ c.loop-f.at _ _ _ c.loop-f.invariant.0 c.loop-f.invariant.1 c.loop-f.invariant.2 _ (ap (replayed _) (sym c.in-Record.is) ∙ c.shared.ensures) in (o.first, o.second, o.goes_on)

pub returns-in-End : goal.returns-in-End
returns-in-End c = stops c.args.first.now c.args.second.now _ c.loop-f.at _ _ _ c.loop-f.invariant.0 c.loop-f.invariant.1 c.loop-f.invariant.2 (ap (replayed _) (sym c.in-End.is) ∙ c.shared.ensures)

pub returns-in-Refused : goal.returns-in-Refused
returns-in-Refused c = refuses c.args.first.now c.args.second.now _ c.loop-f.at _ _ _ c.loop-f.invariant.0 c.loop-f.invariant.1 c.loop-f.invariant.2 _ (ap (replayed _) (sym c.in-Refused.is) ∙ c.shared.ensures)
