use mathlib.Core.Path.{ap, ◌∙◌}
use native.Mathlib.Numerals.{add-one}
use native.Mathlib.Omega.{arith}
use borrow.Author.Rules.{rules}
use Rattle.server_order.specs.Order.{youngest_to}
use Rattle.server_order.proofs.youngest.Goals as goal

pub loop-n-init : goal.loop-n-init
unfolding youngest_to
loop-n-init c = search rules

pub loop-n-preserved : goal.loop-n-preserved
unfolding youngest_to
loop-n-preserved c = (search rules, c.younger_of-r.ensures.1, rw add-one (cc))

pub returns : goal.returns
returns c = (c.loop-n.invariant.2 ∙ ap (youngest_to _ _) (omega arith), c.loop-n.invariant.1)
