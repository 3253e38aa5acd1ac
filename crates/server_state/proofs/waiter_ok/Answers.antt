-- `server_state::waiter_ok` meets its contract.
use mathlib.Core.Path.{sym}
use borrow.Author.Tests.{eq-eqb, ne_eqb, lt-ltb, le-ltb}
use Rattle.server_state.specs.Valid.{waiter_ok}
use Rattle.server_state.proofs.waiter_ok.Goals as goal

pub returns-then-unfinished-eq0 : goal.returns-then-unfinished-eq0
unfolding waiter_ok
returns-then-unfinished-eq0 c = simp (sym c.unfinished.ensures, eq-eqb _ _ c.if-unfinished-eq0.true)

pub returns-then-arrival-next_arrival : goal.returns-then-arrival-next_arrival
unfolding waiter_ok
returns-then-arrival-next_arrival c = simp (sym c.unfinished.ensures, ne_eqb _ _ c.if-unfinished-eq0.false, sym c.arrival.ensures, sym c.next_arrival.ensures, le-ltb _ _ c.if-arrival-next_arrival.true)

pub returns-then-want : goal.returns-then-want
unfolding waiter_ok
returns-then-want c = simp (sym c.unfinished.ensures, ne_eqb _ _ c.if-unfinished-eq0.false, sym c.arrival.ensures, sym c.next_arrival.ensures, lt-ltb _ _ c.if-arrival-next_arrival.false, sym c.want.ensures, eq-eqb _ _ c.if-want.true, sym c.commit_ok.ensures)

pub returns : goal.returns
unfolding waiter_ok
returns c = simp (sym c.unfinished.ensures, ne_eqb _ _ c.if-unfinished-eq0.false, sym c.arrival.ensures, sym c.next_arrival.ensures, lt-ltb _ _ c.if-arrival-next_arrival.false, sym c.want.ensures, ne_eqb _ _ c.if-want.false, sym c.request_ok.ensures)
