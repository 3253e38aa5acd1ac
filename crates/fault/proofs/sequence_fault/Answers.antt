-- `fault::sequence_fault` meets its contract.
use borrow.Author.Tests.{eq-eqb, ne_eqb}
use mathlib.Core.Path.{◌≡◌, sym}
use Rattle.fault.specs.Fault.{sequence_fault}
use native.Mathlib.Omega.{arith}
use Prim.Native.Nat.{◌+◌}
use Rattle.fault.proofs.sequence_fault.Goals as goal

pub returns-then-from : goal.returns-then-from
unfolding sequence_fault
returns-then-from c = let e : c.get_u32-commit.result ≡ c.args.last + 1 = omega arith in simp (sym c.get_u32-commit.ensures, eq-eqb _ _ e)

pub returns : goal.returns
unfolding sequence_fault
returns c = let e : c.get_u32-commit.result ≡ c.args.last + 1 → ⊥ = λ h. c.if-from.false (omega arith) in simp (sym c.get_u32-commit.ensures, ne_eqb _ _ e)
