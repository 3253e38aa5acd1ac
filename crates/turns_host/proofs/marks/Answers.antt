use native.Mathlib.Omega.{arith}
use native.Mathlib.Numerals.{add-one}
use lib.ListN.{length-set}
use borrow.Author.Rules.{rules}
use mathlib.Core.Path.{◌∙◌}
use Rattle.turns_host.specs.Laws.{numbers_to, marks_all}
use Rattle.turns_host.proofs.marks.Goals as goal

pub loop-i-init : goal.loop-i-init
unfolding numbers_to
loop-i-init c = search rules

pub loop-i-preserved : goal.loop-i-preserved
unfolding numbers_to
loop-i-preserved c = (omega arith, simp length-set (search rules), rw add-one (cc))

pub returns : goal.returns
returns c = c.loop-i.invariant.2 ∙ marks_all _ _ c.requires (omega arith)
