-- `server_changes::keeps_age` meets its contract.
use Rattle.server_changes.specs.Changes.{keeps_age_b}
use borrow.Author.Tests.{eq-eqb, ne_eqb}
use Rattle.server_changes.proofs.keeps_age.Goals as goal

pub returns-then-cause : goal.returns-then-cause
unfolding keeps_age_b
returns-then-cause c = simp (eq-eqb _ _ c.if-cause.true)

pub returns : goal.returns
unfolding keeps_age_b
returns c = simp (ne_eqb _ _ c.if-cause.false)
