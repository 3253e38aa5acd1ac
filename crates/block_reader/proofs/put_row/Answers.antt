use mathlib.Core.Path.{◌∙◌}
use native.Mathlib.Numerals.{add-one}
use native.Mathlib.Omega.{arith}
use lib.ListN.{length-set}
use borrow.Author.Rules.{rules}
use Rattle.block_reader.specs.Stores.{stored_to, row_stored}
use Rattle.block_reader.proofs.put_row.Goals as goal

pub loop-k-init : goal.loop-k-init
unfolding stored_to
loop-k-init c = search rules

pub loop-k-preserved : goal.loop-k-preserved
unfolding stored_to
loop-k-preserved c = (search rules, simp length-set (search rules), rw add-one (cc))

pub returns : goal.returns
returns c = c.loop-k.invariant.2 ∙ row_stored _ _ _ _ _ _ (omega arith)
