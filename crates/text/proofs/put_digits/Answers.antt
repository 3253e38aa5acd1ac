use Rattle.text.specs.Stores.{digit_store, digits_done}
use mathlib.Core.Path.{◌∙◌}
use lib.ListN.{length-set}
use borrow.Author.Rules.{rules}
use Rattle.text.proofs.put_digits.Goals as goal

pub loop-i-preserved : goal.loop-i-preserved
loop-i-preserved c = (simp length-set (search rules), digit_store _ _ _ _ c.loop-i-test.true ∙ c.loop-i.invariant.1)

pub returns : goal.returns
returns c = digits_done _ _ _ _ (search rules) ∙ c.loop-i.invariant.1
