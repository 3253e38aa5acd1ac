-- `server_tests::lock_on` meets its contract.
use mathlib.Core.Path.{sym, ◌∙◌}
use borrow.Author.Rules.{rules}
use Rattle.server_tests.specs.Tests.{lock_on_b, lock_at_b}
use Rattle.server_tests.specs.Shorter.{lock_whole}
use Rattle.server_tests.proofs.lock_on.Goals as goal

pub returns-then-locks_on-eq0 : goal.returns-then-locks_on-eq0
returns-then-locks_on-eq0 c = rw (lock_whole _ _ _ (sym c.locks_on.ensures ∙ c.if-locks_on-eq0.true)) (cc)

pub returns : goal.returns
unfolding lock_on_b
returns c = let e = c.any_of-r.ensures (lock_at_b c.args.s.now c.args.i c.args.p) (λ k r l p. search rules) in cc
