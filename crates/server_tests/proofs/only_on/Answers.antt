-- `server_tests::only_on` meets its contract.
use mathlib.Core.Path.{◌∙◌}
use borrow.Author.Tests.{eqb-true}
use Rattle.server_tests.specs.Words.{only_moved, only_nothing}
use Rattle.server_tests.proofs.only_on.Goals as goal

pub returns-then-g-p : goal.returns-then-g-p
returns-then-g-p c = λ e. only_moved _ (λ k. (c.shared_slice_known-1.given k).fits) _ _ _ c.wanted_in-w.ensures (c.from.ensures ∙ c.wanted.ensures) c.if-g-p.true (eqb-true _ _ e)

pub returns : goal.returns
returns c = λ e. only_nothing _ (λ k. (c.shared_slice_known-1.given k).fits) _ _ _ c.wanted_in-w.ensures (eqb-true _ _ e)
