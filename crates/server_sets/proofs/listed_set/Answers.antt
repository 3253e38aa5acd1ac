-- `server_sets::listed_set` meets its contract.
use mathlib.Core.Path.{ap, ◌∙◌}
use native.Mathlib.Numerals.{add-one}
use native.Mathlib.Omega.{arith}
use borrow.Author.Rules.{rules}
use Rattle.cells.specs.Loops.{mask_to}
use Rattle.server_sets.specs.Sets.{listed_set, listed_b}
use Rattle.server_sets.proofs.listed_set.Goals as goal

pub returns : goal.returns
unfolding listed_set
returns c = c.set_of.ensures (listed_b c.args.s.now c.args.d) (λ k r l p. search rules)
