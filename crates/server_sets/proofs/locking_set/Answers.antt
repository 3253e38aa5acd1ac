-- `server_sets::locking_set` meets its contract.
use Rattle.server_state.specs.Layout.{locking_b}
use mathlib.Core.Path.{ap, ◌∙◌}
use native.Mathlib.Numerals.{add-one}
use native.Mathlib.Omega.{arith}
use borrow.Author.Rules.{rules}
use Rattle.cells.specs.Loops.{mask_to}
use Rattle.server_sets.specs.Sets.{locking_set}
use Rattle.server_sets.proofs.locking_set.Goals as goal

pub returns : goal.returns
unfolding locking_set
returns c = c.set_of.ensures (locking_b c.args.s.now) (λ k r l p. search rules)
