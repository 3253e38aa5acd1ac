use mathlib.Core.Path.{ap, ◌∙◌}
use native.Mathlib.Omega.{arith}
use Rattle.lists.specs.Tests.{all_to}
use Rattle.record.specs.Few.{few_are}
use Rattle.replay.specs.Few.{turns_agree}
use Rattle.replay.proofs.few_agree.Goals as goal

pub up_to-requires : goal.up_to-requires
up_to-requires c = omega (arith, few_are _ _ c.requires.2)

pub returns : goal.returns
returns c = c.loop-i.invariant.1 ∙ ap (all_to _) (omega arith) ∙ turns_agree _ _ _ _ (few_are _ _ c.requires.2)
