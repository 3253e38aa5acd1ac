-- `server_state::kinds_ok` meets its contract.
use Rattle.server_state.specs.Valid.{kinds_ok}
use borrow.Author.Tests.{eq-eqb, ne_eqb}
use Rattle.server_state.proofs.kinds_ok.Goals as goal

pub returns-then-kinds-ne-STATIONS : goal.returns-then-kinds-ne-STATIONS
unfolding kinds_ok
returns-then-kinds-ne-STATIONS c = simp (ne_eqb _ _ c.if-kinds-ne-STATIONS.true)

pub returns : goal.returns
unfolding kinds_ok
returns c = simp (eq-eqb _ _ c.if-kinds-ne-STATIONS.false) c.most.ensures
