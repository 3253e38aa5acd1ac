-- `server_state::request_ok` meets its contract.
use mathlib.Core.Path.{sym}
use borrow.Author.Tests.{eq-eqb, ne_eqb}
use Rattle.server_state.specs.Valid.{request_ok}
use Rattle.server_state.proofs.request_ok.Goals as goal

pub returns-then-not-locking : goal.returns-then-not-locking
unfolding request_ok
returns-then-not-locking c = simp (sym c.locking.ensures, c.if-not-locking.true)

pub returns-then-want : goal.returns-then-want
unfolding request_ok
returns-then-want c = simp (sym c.locking.ensures, c.if-not-locking.false, sym c.want.ensures, eq-eqb _ _ c.if-want.true, sym c.request-a.ensures, sym c.only_in.ensures, sym c.none_in.ensures)

pub returns : goal.returns
unfolding request_ok
returns c = simp (sym c.locking.ensures, c.if-not-locking.false, sym c.want.ensures, ne_eqb _ _ c.if-want.false) c.write_ok.ensures
