-- `server_tests::locked` meets its contract.
use mathlib.Core.Path.{◌∙◌}
use borrow.Author.Rules.{rules}
use Rattle.server_tests.specs.Groups.{locked_all, locked_in}
use Rattle.server_tests.proofs.locked.Goals as goal

pub returns : goal.returns
returns c = c.any_of.ensures (locked_in c.args.s.now c.args.i) (λ k r l p. search rules) ∙ locked_all _ _
