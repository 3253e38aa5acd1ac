use mathlib.Core.Path.{ap, ◌∙◌}
use native.Mathlib.Omega.{arith}
use Rattle.record.specs.Few.{most_few, few_are}
use Rattle.replay.specs.Few.{turns_to, turns_store}
use Rattle.replay.proofs.few_stored.Goals as goal

pub up_to-requires : goal.up_to-requires
up_to-requires c = omega (arith, few_are _ _ c.requires.2)

pub returns : goal.returns
returns c = let w = few_are _ _ c.requires.2 in c.loop-c.invariant.1 ∙ ap (turns_to _ _ _ _ _) (omega arith) ∙ turns_store _ _ _ _ _ most_few w.some w.few
