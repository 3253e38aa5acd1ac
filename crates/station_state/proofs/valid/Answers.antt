-- `station_state::valid` meets its contract.
use mathlib.Core.Path.{sym, ◌∙◌}
use native.Mathlib.Omega.{arith}
use Rattle.std.proofs.lemmas.Grind.{common_steps}
use borrow.Author.Tests.{eq-eqb, ne_eqb, le-leb, lt-leb}
use Rattle.station_state.specs.Valid.{valid}
use Rattle.station_state.specs.Facts.{valid_rests}
use Rattle.station_state.proofs.valid.Goals as goal

pub returns-then-s-ne-LENGTH : goal.returns-then-s-ne-LENGTH
unfolding valid
returns-then-s-ne-LENGTH c = simp (ne_eqb _ _ c.if-s-ne-LENGTH.true)

pub returns-then-station-gt7 : goal.returns-then-station-gt7
unfolding valid
returns-then-station-gt7 c = simp (eq-eqb _ _ c.if-s-ne-LENGTH.false, sym c.station.ensures, lt-leb _ _ c.if-station-gt7.true)

pub returns-then-not-is_open : goal.returns-then-not-is_open
returns-then-not-is_open c = c.rests.ensures ∙ valid_rests _ (grind (arith, common_steps))

pub returns-then-not-fields_ok-own_kept : goal.returns-then-not-fields_ok-own_kept
unfolding valid
returns-then-not-fields_ok-own_kept c = simp (eq-eqb _ _ c.if-s-ne-LENGTH.false, sym c.station.ensures, le-leb _ _ c.if-station-gt7.false, sym c.fields_ok.ensures, sym c.own_kept.ensures, c.if-not-fields_ok-own_kept.true)

pub returns : goal.returns
unfolding valid
returns c = simp (eq-eqb _ _ c.if-s-ne-LENGTH.false, sym c.station.ensures, le-leb _ _ c.if-station-gt7.false, sym c.fields_ok.ensures, sym c.own_kept.ensures, c.if-not-fields_ok-own_kept.false, sym c.works_ok.ensures, sym c.holds_ok.ensures)
