use native.Mathlib.Omega.{arith}
use borrow.Author.Rules.{rules}
use mathlib.Core.Path.{ap, ◌∙◌}
use Rattle.set_record.specs.Filled.{values_turn}
use Rattle.le.specs.Le.{set_u64}
use Rattle.set_record.proofs.put_values.Goals as goal

pub loop-c-preserved : goal.loop-c-preserved
loop-c-preserved c = (search rules, search rules, values_turn _ _ _ _ _ _ (omega arith) c.loop-c.invariant.2 (c.put_u64.ensures ∙ ap (set_u64 _ _) c.get_u64-v.ensures))
