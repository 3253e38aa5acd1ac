-- `compare::compare` meets its contract.
use mathlib.Core.Path.{sym}
use Rattle.compare.specs.Compare.{compare_of}
use Rattle.compare.specs.Steps.{rests}
use Rattle.compare.proofs.compare.Goals as goal

pub returns-then-c-ne0 : goal.returns-then-c-ne0
unfolding compare_of
returns-then-c-ne0 c = sym (c.common-c.ensures.refused c.if-c-ne0.true)

pub returns : goal.returns
unfolding compare_of
returns c = rests c.args.first.now c.args.second.now _ _ c.common-c.result.at _ _ _ c.common-c.ensures c.if-c-ne0.false c.decide.ensures
