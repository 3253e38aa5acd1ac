-- `server_tests::holders_in` meets its contract.
use mathlib.Core.Path.{sym, ◌∙◌}
use borrow.Author.Rules.{rules}
use Rattle.server_tests.specs.Blockers.{holders_on}
use Rattle.server_tests.specs.Groups.{holders_in, holders_idle, in_group}
use Rattle.server_tests.proofs.holders_in.Goals as goal

pub returns-then-idle_in : goal.returns-then-idle_in
returns-then-idle_in c = holders_idle _ _ _ (sym c.idle_in.ensures ∙ c.if-idle_in.true)

pub returns : goal.returns
unfolding holders_in
returns c = c.join_of.ensures (in_group (holders_on c.args.s.now c.args.i) c.args.g) (λ k r l p. search rules)
