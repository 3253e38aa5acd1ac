-- `server_sets::lock_set` meets its contract.
use Rattle.server_tests.specs.Tests.{lock_on_b}
use mathlib.Core.Path.{sym, ap, ◌∙◌}
use native.Mathlib.Numerals.{add-one}
use native.Mathlib.Omega.{arith}
use borrow.Author.Rules.{rules}
use Rattle.cells.specs.Loops.{mask_to}
use Rattle.server_sets.specs.Sets.{lock_set, lock_none}
use Rattle.server_sets.proofs.lock_set.Goals as goal

pub returns-then-not-any_lock : goal.returns-then-not-any_lock
returns-then-not-any_lock c = sym (lock_none _ _ (sym c.any_lock.ensures ∙ c.if-not-any_lock.true))

pub returns : goal.returns
unfolding lock_set
returns c = c.set_of.ensures (λ j. lock_on_b c.args.s.now j c.args.p) (λ k r l p. search rules)
