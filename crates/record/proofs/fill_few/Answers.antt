use native.Mathlib.Omega.{arith}
use borrow.Author.Rules.{rules}
use Rattle.record.specs.Few.{few_are}
use Rattle.record.specs.Copies.{byte_copied, copied_all}
use Rattle.record.proofs.fill_few.Goals as goal

pub up_to-at-requires : goal.up_to-at-requires
up_to-at-requires c = omega (arith, few_are _ _ c.requires.1)

pub loop-i-preserved : goal.loop-i-preserved
loop-i-preserved c = (omega arith, search rules, rw (c.put_u8.ensures, c.up_to-at.ensures.0) (byte_copied c.loop-i.to c.args.from.now c.loop-i.i c.loop-i.invariant.1 (omega (arith, few_are _ _ c.requires.1)) c.loop-i.invariant.2))

pub returns : goal.returns
returns c = copied_all _ _ _ c.loop-i.invariant.1 (omega (arith, few_are _ _ c.requires.1)) c.loop-i.invariant.2
