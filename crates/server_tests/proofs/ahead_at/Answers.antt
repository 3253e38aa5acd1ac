-- `server_tests::ahead_at` meets its contract.
use mathlib.Core.Path.{sym}
use borrow.Author.Tests.{eq-eqb, ne_eqb, lt-ltb, le-ltb}
use Rattle.server_tests.specs.Tests.{earlier_b}
use Rattle.server_tests.specs.Alone.{ahead_at}
use Rattle.server_tests.proofs.ahead_at.Goals as goal

pub returns-then-want : goal.returns-then-want
unfolding ahead_at earlier_b
returns-then-want c = simp (sym c.want.ensures, eq-eqb _ _ c.if-want.true)

pub returns-then-arrival : goal.returns-then-arrival
unfolding ahead_at earlier_b
returns-then-arrival c = simp (sym c.want.ensures, ne_eqb _ _ c.if-want.false, sym c.arrival.ensures, sym c.arrival-2.ensures, le-ltb _ _ c.if-arrival.true)

pub returns : goal.returns
unfolding ahead_at earlier_b
returns c = simp (sym c.want.ensures, ne_eqb _ _ c.if-want.false, sym c.arrival.ensures, sym c.arrival-2.ensures, lt-ltb _ _ c.if-arrival.false, sym c.meet_on.ensures)
