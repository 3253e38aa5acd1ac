use native.Mathlib.Omega.{arith}
use native.Mathlib.Numerals.{add-one}
use lib.ListN.{length-set}
use borrow.Author.Rules.{rules}
use mathlib.Core.Path.{◌∙◌}
use Rattle.turns_host.specs.Laws.{zeroed_to, zeroed_all, own_counts}
use Rattle.turns_host.proofs.open_round.Goals as goal

pub returns-then-not-begins : goal.returns-then-not-begins
returns-then-not-begins c = rw c.if-not-begins.true (own_counts _ c.requires)

pub loop-i-init : goal.loop-i-init
unfolding zeroed_to
loop-i-init c = search rules

pub loop-i-preserved : goal.loop-i-preserved
unfolding zeroed_to
loop-i-preserved c = (omega arith, simp length-set (search rules), rw add-one (cc))

pub returns : goal.returns
returns c = rw c.if-not-begins.false (c.loop-i.invariant.2 ∙ zeroed_all _ _ c.requires (omega arith))
