-- `server_state::calls_ok` meets its contract.
use borrow.Author.Tests.{eq-eqb, ne_eqb}
use Rattle.server_state.specs.Valid.{calls_ok}
use Rattle.server_state.proofs.calls_ok.Goals as goal

pub returns-then-s-i-eq0 : goal.returns-then-s-i-eq0
unfolding calls_ok
returns-then-s-i-eq0 c = simp (eq-eqb _ _ c.if-s-i-eq0.true, c.pend.ensures, c.busy.ensures)

pub returns : goal.returns
unfolding calls_ok
returns c = simp (ne_eqb _ _ c.if-s-i-eq0.false, c.want.ensures, c.busy-2.ensures, c.pend-2.ensures, c.pend-3.ensures, c.owes_ok.ensures)
