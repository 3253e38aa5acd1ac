use mathlib.Core.Path.{◌≡◌, sym, ◌∙◌}
use native.Mathlib.Omega.{arith}
use native.Mathlib.Numerals.{add-one}
use borrow.Author.Rules.{rules}
use borrow.Author.Tests.{lt-ltb, le-ltb}
use Rattle.lists.specs.Tests.{all_to}
use Rattle.compare.specs.Compare.{same_to}
use Rattle.compare.proofs.same_bytes.Goals as goal

pub returns-then-a-n : goal.returns-then-a-n
unfolding same_to
returns-then-a-n c = simp (lt-ltb _ _ c.if-a-n.true)

pub returns-then-b-n : goal.returns-then-b-n
unfolding same_to
returns-then-b-n c = simp (le-ltb _ _ c.if-a-n.false, lt-ltb _ _ c.if-b-n.true)

pub same_words-requires : goal.same_words-requires
same_words-requires c = (omega arith, omega arith, sym c.few_words.ensures ∙ c.if-few_words.true)

pub returns-then-few_words : goal.returns-then-few_words
unfolding same_to
returns-then-few_words c = simp (le-ltb _ _ c.if-a-n.false, le-ltb _ _ c.if-b-n.false) c.same_words.ensures

pub loop-i-init : goal.loop-i-init
unfolding all_to
loop-i-init c = search rules

pub loop-i-preserved : goal.loop-i-preserved
unfolding all_to
loop-i-preserved c = (search rules, rw add-one (cc))

pub returns : goal.returns
unfolding same_to
returns c = let e : c.loop-i.i ≡ c.args.n = omega arith in simp (le-ltb _ _ c.if-a-n.false, le-ltb _ _ c.if-b-n.false) (rw e at c.loop-i.invariant.1)
