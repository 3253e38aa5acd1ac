-- `server_state::whole_ok` meets its contract.
use mathlib.Core.Path.{sym}
use borrow.Author.Tests.{eq-eqb, ne_eqb, le-leb, lt-leb}
use Rattle.server_state.specs.Valid.{whole_ok}
use Rattle.server_state.proofs.whole_ok.Goals as goal

pub returns-then-h-eq0 : goal.returns-then-h-eq0
unfolding whole_ok
returns-then-h-eq0 c = simp (sym c.whole-h.ensures, eq-eqb _ _ c.if-h-eq0.true, sym c.whole_for-t.ensures)

pub returns-then-h-gt8 : goal.returns-then-h-gt8
unfolding whole_ok
returns-then-h-gt8 c = simp (sym c.whole-h.ensures, ne_eqb _ _ c.if-h-eq0.false, lt-leb _ _ c.if-h-gt8.true)

pub returns : goal.returns
unfolding whole_ok
returns c = simp (sym c.whole-h.ensures, ne_eqb _ _ c.if-h-eq0.false, le-leb _ _ c.if-h-gt8.false, sym c.locking.ensures, sym c.whole_for-t.ensures, sym c.given_ok.ensures, sym c.besides_ok.ensures)
