-- `server_tests::unavailable` meets its contract.
use mathlib.Core.Path.{sym, ◌∙◌}
use borrow.Author.Rules.{rules}
use Rattle.server_tests.specs.Tests.{unavailable_b, unavailable_at}
use Rattle.server_tests.specs.Shorter.{unavailable_free}
use Rattle.server_tests.proofs.unavailable.Goals as goal

pub returns-then-locks_on-eq0 : goal.returns-then-locks_on-eq0
returns-then-locks_on-eq0 c = unavailable_free _ _ _ (sym c.locks_on.ensures ∙ c.if-locks_on-eq0.true) (search rules) (search rules) c.others_write-w.ensures c.wanted.ensures

pub returns : goal.returns
unfolding unavailable_b
returns c = c.set_of.ensures (unavailable_at c.args.s.now c.args.i c.args.a) (λ k r l p. search rules)
