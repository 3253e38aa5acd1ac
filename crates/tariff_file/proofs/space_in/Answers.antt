use native.Mathlib.Omega.{arith}
use Rattle.std.proofs.Common.{◌≡◌, length}
use Rattle.tariff_file.specs.Turns.{ahead_first, ahead_on, space_word, space_rest, no_space_word, no_space_rest}
use Rattle.tariff_file.proofs.space_in.Goals as goal

pub loop-i-init : goal.loop-i-init
loop-i-init c = (omega arith, ahead_first _)

pub returns-then-line-i-eq32 : goal.returns-then-line-i-eq32
returns-then-line-i-eq32 c = (c.loop-i.invariant.0, space_word _ _ c.loop-i.invariant.1 c.loop-i-test.true c.if-line-i-eq32.true, space_rest _ _ c.loop-i.invariant.1 c.loop-i-test.true c.if-line-i-eq32.true)

pub loop-i-preserved : goal.loop-i-preserved
loop-i-preserved c = (omega arith, ahead_on _ _ c.loop-i.invariant.1 c.loop-i-test.true c.if-line-i-eq32.false)

pub returns : goal.returns
returns c = let e : c.loop-i.i ≡ length c.args.line.now = omega arith in (omega arith, rw e at (no_space_word _ _ c.loop-i.invariant.1 (omega arith)), rw e at (no_space_rest _ _ c.loop-i.invariant.1 (omega arith)))
