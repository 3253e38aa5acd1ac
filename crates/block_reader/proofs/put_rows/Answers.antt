use borrow.Author.Rules.{rules}
use native.Mathlib.Omega.{arith}
use lib.Seq.{sets}
use Rattle.block_reader.specs.Read.{rows}
use Rattle.block_reader.specs.Stores.{rows_stored}
use mathlib.Core.Path.{◌≡◌, ap, ◌∙◌}
use native.Mathlib.Numerals.{add-one}
use Rattle.block_reader.proofs.put_rows.Goals as goal

pub loop-i-init : goal.loop-i-init
unfolding rows
loop-i-init c = search rules

pub loop-i-preserved : goal.loop-i-preserved
loop-i-preserved c = (search rules, search rules, rw add-one (rows_stored _ _ _ _ _ _ c.loop-i.invariant.2 c.put_row.ensures))

pub returns : goal.returns
returns c = let g = c.args in let e : c.loop-i.i ≡ g.n = omega arith in c.loop-i.invariant.2 ∙ ap (λ k. sets g.to.now g.at (rows g.b.now g.p g.t k)) e
