use mathlib.Core.Path.{refl}
use native.Mathlib.Omega.{arith}
use Rattle.turns.specs.Turn.{lowest}
use Rattle.turns.specs.Lowest.{search_found, search_passed, search_ended}
use Rattle.turns.proofs.Lines.lowest.Goals as goal

pub loop-i-init : goal.loop-i-init
unfolding lowest
loop-i-init c = (omega arith, refl)

pub returns-then-ready : goal.returns-then-ready
returns-then-ready c = search_found _ _ _ _ c.loop-i.invariant.1 c.loop-i-test.true c.ready.ensures c.if-ready.true

pub loop-i-preserved : goal.loop-i-preserved
loop-i-preserved c = (omega arith, search_passed _ _ _ _ c.loop-i.invariant.1 c.loop-i-test.true c.ready.ensures c.if-ready.false)

pub returns : goal.returns
returns c = search_ended _ _ _ _ c.loop-i.invariant.1 c.loop-i-test.false
