-- `arguments::take` meets its contract.
use Rattle.arguments.specs.Modes.{word_taken, number_taken, wrong}
use borrow.Author.Tests.{eq-eqb, ne_eqb}
use mathlib.Core.Path.{sym, ap, ◌∙◌}
use Rattle.arguments.proofs.take.Goals as goal

pub returns-then-a-ne0 : goal.returns-then-a-ne0
unfolding word_taken
returns-then-a-ne0 c = simp (ne_eqb _ _ c.if-a-ne0.true)

pub returns-then-a-eq0 : goal.returns-then-a-eq0
unfolding word_taken
returns-then-a-eq0 c = simp (eq-eqb _ _ c.if-a-ne0.false, eq-eqb _ _ c.if-a-eq0.true) c.take_option.ensures

pub returns-in_default : goal.returns-in_default
unfolding word_taken wrong
returns-in_default c = simp (eq-eqb _ _ c.if-a-ne0.false, ne_eqb _ _ c.if-a-eq0.false) (ap (number_taken c.args.a.now c.args.i) (sym c.in_default.is ∙ c.commit_of.ensures))

pub returns : goal.returns
unfolding word_taken
returns c = simp (eq-eqb _ _ c.if-a-ne0.false, ne_eqb _ _ c.if-a-eq0.false) (c.take_number.ensures ∙ ap (number_taken c.args.a.now c.args.i) (sym c.in-Some.is ∙ c.commit_of.ensures))
