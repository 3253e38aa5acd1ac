-- `server_tests::stale` meets its contract.
use mathlib.Core.Path.{◌∙◌}
use borrow.Author.Rules.{rules}
use Rattle.server_tests.specs.Groups.{stale_all, stale_in}
use Rattle.server_tests.proofs.stale.Goals as goal

pub returns : goal.returns
returns c = c.any_of.ensures (stale_in c.args.s.now c.args.i) (λ k r l p. search rules) ∙ stale_all _ _
