use borrow.Author.Rules.{rules}
use native.Mathlib.Omega.{arith}
use Rattle.lists.specs.Tests.{all_to}
use Rattle.fault.specs.Search.{order_more, order_found, order_none}
use Rattle.fault.proofs.order_fault.Goals as goal

pub loop-i-init : goal.loop-i-init
unfolding all_to
loop-i-init c = search rules

pub returns-then-t-at : goal.returns-then-t-at
returns-then-t-at c = order_found _ _ _ _ c.loop-i.invariant.1 (omega arith) c.if-t-at.true c.from.ensures c.from-then-t-at.ensures

pub loop-i-preserved : goal.loop-i-preserved
loop-i-preserved c = (search rules, order_more _ _ c.args.n _ c.loop-i.invariant.1 c.if-t-at.false)

pub returns : goal.returns
returns c = order_none _ _ _ _ c.loop-i.invariant.1 c.loop-i.invariant.0 (omega arith)
