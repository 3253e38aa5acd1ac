use borrow.Author.Rules.{rules}
use mathlib.Core.Path.{ap, ◌∙◌}
use native.Mathlib.Numerals.{add-one}
use native.Mathlib.Omega.{arith}
use Rattle.lists.specs.Tests.{all_to}
use Rattle.turns.specs.Turn.{share_ok}
use Rattle.turns.proofs.Lines.shares_ok.Goals as goal

pub loop-i-init : goal.loop-i-init
unfolding all_to
loop-i-init c = search rules

pub loop-i-preserved : goal.loop-i-preserved
unfolding all_to share_ok
loop-i-preserved c = (search rules, rw add-one (cc))

pub returns : goal.returns
returns c = c.loop-i.invariant.1 ∙ ap (all_to _) (omega arith)
