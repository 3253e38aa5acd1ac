-- `server_state::valid` meets its contract.
use mathlib.Core.Path.{sym}
use borrow.Author.Tests.{eq-eqb, ne_eqb}
use Rattle.server_state.specs.Valid.{valid}
use Rattle.server_state.proofs.valid.Goals as goal

pub returns-then-s-ne-LENGTH : goal.returns-then-s-ne-LENGTH
unfolding valid
returns-then-s-ne-LENGTH c = simp (ne_eqb _ _ c.if-s-ne-LENGTH.true)

pub returns-then-not-ranges_ok-counters_ok : goal.returns-then-not-ranges_ok-counters_ok
unfolding valid
returns-then-not-ranges_ok-counters_ok c = simp (eq-eqb _ _ c.if-s-ne-LENGTH.false, sym c.ranges_ok.ensures, sym c.counters_ok.ensures, c.if-not-ranges_ok-counters_ok.true)

pub returns-then-not-stations_ok : goal.returns-then-not-stations_ok
unfolding valid
returns-then-not-stations_ok c = simp (eq-eqb _ _ c.if-s-ne-LENGTH.false, sym c.ranges_ok.ensures, sym c.counters_ok.ensures, c.if-not-ranges_ok-counters_ok.false, sym c.stations_ok.ensures, c.if-not-stations_ok.true)

pub returns-then-not-pages_ok : goal.returns-then-not-pages_ok
unfolding valid
returns-then-not-pages_ok c = simp (eq-eqb _ _ c.if-s-ne-LENGTH.false, sym c.ranges_ok.ensures, sym c.counters_ok.ensures, c.if-not-ranges_ok-counters_ok.false, sym c.stations_ok.ensures, c.if-not-stations_ok.false, sym c.pages_ok.ensures, c.if-not-pages_ok.true)

pub returns : goal.returns
unfolding valid
returns c = simp (eq-eqb _ _ c.if-s-ne-LENGTH.false, sym c.ranges_ok.ensures, sym c.counters_ok.ensures, c.if-not-ranges_ok-counters_ok.false, sym c.stations_ok.ensures, c.if-not-stations_ok.false, sym c.pages_ok.ensures, c.if-not-pages_ok.false, sym c.asked_ok.ensures, sym c.all_apart.ensures)
