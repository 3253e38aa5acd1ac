-- `server_state::entry_ok` meets its contract.
use mathlib.Core.Path.{sym}
use borrow.Author.Tests.{eq-eqb, ne_eqb}
use Rattle.server_state.specs.Valid.{entry_ok}
use Rattle.server_state.proofs.entry_ok.Goals as goal

pub returns-then-want : goal.returns-then-want
unfolding entry_ok
returns-then-want c = simp (sym c.want.ensures, eq-eqb _ _ c.if-want.true, sym c.blank_ok.ensures)

pub returns : goal.returns
unfolding entry_ok
returns c = simp (sym c.want.ensures, ne_eqb _ _ c.if-want.false, sym c.waiter_ok.ensures)
