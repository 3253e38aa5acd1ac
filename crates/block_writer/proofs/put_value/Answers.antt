use mathlib.Core.Path.{◌∙◌}
use native.Mathlib.Numerals.{add-one}
use native.Mathlib.Omega.{arith}
use lib.ListN.{length-set}
use borrow.Author.Rules.{rules}
use Rattle.block_writer.specs.Stores.{striped_to, value_stored}
use Rattle.block_writer.proofs.put_value.Goals as goal

pub loop-k-init : goal.loop-k-init
unfolding striped_to
loop-k-init c = search rules

pub loop-k-preserved : goal.loop-k-preserved
unfolding striped_to
loop-k-preserved c = (search rules, simp length-set (search rules), rw add-one (cc))

pub returns : goal.returns
returns c = c.loop-k.invariant.2 ∙ value_stored _ _ _ _ _ _ (omega arith)
