-- `server_tests::locked_in` meets its contract.
use Rattle.server_tests.specs.Tests.{locked_on_b}
use mathlib.Core.Path.{sym, ◌∙◌}
use borrow.Author.Rules.{rules}
use Rattle.server_tests.specs.Groups.{locked_in, locked_idle, in_group}
use Rattle.server_tests.proofs.locked_in.Goals as goal

pub returns-then-get_u64-eq0 : goal.returns-then-get_u64-eq0
returns-then-get_u64-eq0 c = locked_idle _ _ _ (sym c.get_u64.ensures ∙ c.if-get_u64-eq0.true)

pub returns : goal.returns
unfolding locked_in
returns c = c.any_of.ensures (in_group (locked_on_b c.args.s.now c.args.i) c.args.g) (λ k r l p. search rules)
