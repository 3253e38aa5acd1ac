use Rattle.std.proofs.Common.{sym, ap, ◌∙◌, arith}
use Rattle.replay.specs.Replay.{replayed}
use Rattle.replay.specs.Fuel.{moves}
use Rattle.fees.proofs.play.Goals as goal

pub loop-f-smaller : goal.loop-f-smaller
loop-f-smaller c = let o = moves _ _ _ _ _ _ (ap (replayed _) (sym c.in-Record.is) ∙ c.replay.ensures) in omega arith

pub loop-f-preserved : goal.loop-f-preserved
loop-f-preserved c = let o = moves _ _ _ _ _ _ (ap (replayed _) (sym c.in-Record.is) ∙ c.replay.ensures) in o.within
