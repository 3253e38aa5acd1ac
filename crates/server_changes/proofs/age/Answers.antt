-- `server_changes::age` meets its contract.
use Rattle.server_changes.specs.Changes.{age_b}
use borrow.Author.Tests.{eq-eqb, ne_eqb}
use Rattle.server_changes.proofs.age.Goals as goal

pub returns-then-s-i-eq0 : goal.returns-then-s-i-eq0
unfolding age_b
returns-then-s-i-eq0 c = simp (eq-eqb _ _ c.if-s-i-eq0.true) c.new_age.ensures

pub returns : goal.returns
unfolding age_b
returns c = simp (ne_eqb _ _ c.if-s-i-eq0.false)
