-- `server_tests::holder_set` meets its contract.
use mathlib.Core.Path.{◌∙◌}
use borrow.Author.Rules.{rules}
use Rattle.server_tests.specs.Groups.{holders_all, holders_in}
use Rattle.server_tests.proofs.holder_set.Goals as goal

pub returns : goal.returns
returns c = c.join_of.ensures (holders_in c.args.s.now c.args.i) (λ k r l p. search rules) ∙ holders_all _ _
