use native.Mathlib.Omega.{arith}
use borrow.Author.Rules.{rules}
use Rattle.record.specs.Few.{few_are}
use Rattle.record.specs.Copies.{value_copied, copied_all}
use Rattle.record.proofs.fill_few_values.Goals as goal

pub up_to-at-requires : goal.up_to-at-requires
up_to-at-requires c = omega (arith, few_are _ _ c.requires.2)

pub loop-i-preserved : goal.loop-i-preserved
loop-i-preserved c = (omega arith, search rules, rw (c.put_u64.ensures, c.get_u64.ensures, c.up_to-at.ensures.0) (value_copied _ _ _ _ c.loop-i.invariant.1 c.requires.1 (omega (arith, few_are _ _ c.requires.2)) (λ j. omega (arith, c.shared_slice_known-1.given j)) c.loop-i.invariant.2))

pub returns : goal.returns
returns c = copied_all _ _ _ c.loop-i.invariant.1 (omega (arith, few_are _ _ c.requires.2)) c.loop-i.invariant.2
