use borrow.Author.Rules.{rules}
use native.Mathlib.Omega.{arith}
use Rattle.block_writer.specs.Write.{column}
use Rattle.block_writer.specs.Stripes.{stripes}
use Rattle.block_writer.specs.Stores.{values_stored, values_none}
use Prim.Native.Nat.{◌+◌}
use mathlib.Core.Path.{◌≡◌, ap, ◌∙◌}
use native.Mathlib.Numerals.{add-one}
use Rattle.layout.specs.Record.{value_length}
use Rattle.block_writer.proofs.put_values.Goals as goal

pub loop-i-init : goal.loop-i-init
loop-i-init c = (search rules, search rules, values_none _ _ _ _ _)

pub loop-i-preserved : goal.loop-i-preserved
loop-i-preserved c = (search rules, search rules, rw add-one (values_stored _ _ _ _ _ _ (omega arith) c.loop-i.invariant.2 c.put_value.ensures))

pub returns : goal.returns
returns c = let g = c.args in let e : c.loop-i.i ≡ g.n = omega arith in c.loop-i.invariant.2 ∙ ap (λ j. stripes value_length g.to.now g.p g.t (λ k. column g.s.now (g.a + k) j)) e
