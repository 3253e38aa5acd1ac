use borrow.Author.Rules.{rules}
use Rattle.message.specs.Commit.{pages_to}
use mathlib.Core.Path.{ap, ◌∙◌}
use native.Mathlib.Numerals.{add-one}
use native.Mathlib.Omega.{arith}
use Rattle.message.proofs.pages_of.Goals as goal

pub loop-i-init : goal.loop-i-init
unfolding pages_to
loop-i-init c = search rules

pub loop-i-preserved : goal.loop-i-preserved
unfolding pages_to
loop-i-preserved c = (search rules, rw (add-one, c.page_bit-pages.ensures, c.from.ensures, c.loop-i.invariant.1))

pub returns : goal.returns
returns c = c.loop-i.invariant.1 ∙ ap (pages_to _ _) (omega arith)
