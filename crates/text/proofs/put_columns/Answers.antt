use native.Mathlib.Omega.{arith}
use borrow.Author.Rules.{rules}
use Rattle.text.specs.Stores.{column_store, columns_done}
use mathlib.Core.Path.{refl, ◌∙◌}
use lib.ListN.{length-set}
use Rattle.text.proofs.put_columns.Goals as goal

pub loop-i-preserved : goal.loop-i-preserved
loop-i-preserved c = (search rules, simp length-set (search rules), column_store _ _ _ _ _ c.loop-i-test.true c.parted.ensures ∙ c.loop-i.invariant.2)

pub returns : goal.returns
returns c = (columns_done _ _ c.args.text.now _ _ c.loop-i.i (omega arith) c.loop-i.invariant.2, refl)
