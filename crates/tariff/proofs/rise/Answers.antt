use borrow.Author.Rules.{rules}
use native.Mathlib.Omega.{arith}
use mathlib.Core.Path.{◌≡◌, ap, ◌∙◌}
use Prim.Native.Nat.{suc, ◌+◌, ◌-◌}
use Rattle.lists.specs.Tests.{all_to}
use Rattle.tariff.specs.Table.{rises}
use Rattle.tariff.proofs.rise.Goals as goal

pub loop-i-init : goal.loop-i-init
unfolding all_to
loop-i-init c = search rules

pub loop-i-preserved : goal.loop-i-preserved
unfolding all_to
loop-i-preserved c = let e : c.loop-i.i + 1 - 1 ≡ suc (c.loop-i.i - 1) = omega arith in (omega arith, omega arith, rw e (cc))

pub returns : goal.returns
unfolding rises
returns c = c.loop-i.invariant.2 ∙ ap (all_to _) (omega arith)
