use borrow.Author.Rules.{rules}
use mathlib.Core.Path.{◌∙◌}
use Rattle.lists.specs.Tests.{all_to}
use Rattle.fault.specs.Search.{read_more, read_found, read_none}
use Rattle.fault.proofs.read_fault.Goals as goal

pub loop-i-init : goal.loop-i-init
unfolding all_to
loop-i-init c = search rules

pub returns-then-left-is : goal.returns-then-left-is
returns-then-left-is c = read_found _ _ _ _ _ c.loop-i.invariant.1 c.from-address.result c.get_u16-n.ensures.0 c.get_u16.ensures.0 c.loop-i-test.true c.if-left-is.true (c.from-address.ensures) c.from-address.ensures c.get_u64-is.ensures

pub loop-i-preserved : goal.loop-i-preserved
loop-i-preserved c = (search rules, read_more _ _ c.get_u16-n.result c.get_u16.result _ c.loop-i.invariant.1 c.from-address.result c.if-left-is.false (c.from-address.ensures) c.get_u64-is.ensures)

pub returns : goal.returns
returns c = read_none _ _ _ _ _ c.loop-i.invariant.1 c.get_u16-n.ensures.0 c.get_u16.ensures.0 c.loop-i.invariant.0 c.loop-i-test.false
