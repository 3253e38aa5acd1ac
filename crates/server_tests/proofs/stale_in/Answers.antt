-- `server_tests::stale_in` meets its contract.
use Rattle.server_tests.specs.Tests.{stale_on_b}
use mathlib.Core.Path.{sym, ◌∙◌}
use borrow.Author.Rules.{rules}
use Rattle.server_tests.specs.Groups.{stale_in, stale_idle, in_group}
use Rattle.server_tests.proofs.stale_in.Goals as goal

pub returns-then-idle_in : goal.returns-then-idle_in
returns-then-idle_in c = stale_idle _ _ _ (sym c.idle_in.ensures ∙ c.if-idle_in.true)

pub returns : goal.returns
unfolding stale_in
returns c = c.any_of.ensures (in_group (stale_on_b c.args.s.now c.args.i) c.args.g) (λ k r l p. search rules)
