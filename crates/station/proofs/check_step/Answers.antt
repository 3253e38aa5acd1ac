-- `station::check_step` meets its contract.
use mathlib.Core.Path.{refl, sym, ◌∙◌}
use Rattle.station_owner.proofs.Numbers.{refused, passed}
use Rattle.station.specs.Facts.{for_stations, long_enough, step_number, step_elsewhere, step_unfit, step_fits}
use borrow.Author.Rules.{rules}
use Rattle.station.proofs.check_step.Goals as goal

pub returns-in_err-down_check : goal.returns-in_err-down_check
returns-in_err-down_check c =
    let k = refused _ c.in_err-down_check.was c.down_check.ensures refl in
    let t = step_number c.args.m.now c.args.s.now (c.from.ensures ∙ c.station.ensures) k.0 k.1 in
    search rules

pub station-requires-2 : goal.station-requires-2
station-requires-2 c = long_enough _ _ (passed c.in_ok-down_check.field-0 c.in_ok-down_check.was c.down_check.ensures)

pub returns-then-station : goal.returns-then-station
returns-then-station c = step_elsewhere c.args.m.now c.args.s.now (c.from.ensures ∙ c.station.ensures) refl (passed c.in_ok-down_check.field-0 c.in_ok-down_check.was c.down_check.ensures) (λ e. c.if-station.true (c.station-2.ensures ∙ e ∙ sym c.station-3.ensures))

pub fits-requires : goal.fits-requires
fits-requires c = let e = passed c.in_ok-down_check.field-0 c.in_ok-down_check.was c.down_check.ensures in (search rules, long_enough _ _ e, for_stations _ _ e)

pub returns-then-not-fits : goal.returns-then-not-fits
returns-then-not-fits c = step_unfit c.args.m.now c.args.s.now (c.from.ensures ∙ c.station.ensures) refl (passed c.in_ok-down_check.field-0 c.in_ok-down_check.was c.down_check.ensures) (sym c.station-2.ensures ∙ c.if-station.false ∙ c.station-3.ensures) c.fits.ensures c.if-not-fits.true

pub returns : goal.returns
returns c = step_fits c.args.m.now c.args.s.now (c.from.ensures ∙ c.station.ensures) refl (passed c.in_ok-down_check.field-0 c.in_ok-down_check.was c.down_check.ensures) (sym c.station-2.ensures ∙ c.if-station.false ∙ c.station-3.ensures) c.fits.ensures c.if-not-fits.false
