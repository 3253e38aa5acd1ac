-- `station::step` meets its contract.
use mathlib.Core.Path.{refl, sym, ◌∙◌}
use Rattle.station_owner.specs.Facts.{ready_is, call_1, call_n, call_ok}
use Rattle.station.specs.Station.{station_step_b}
use Rattle.station.specs.Facts.{long_enough, named_of, step_passed}
use Rattle.station_owner.proofs.Numbers.{refused, passed}
use Rattle.station.proofs.step.Goals as goal

pub returns-then-not-ready : goal.returns-then-not-ready
returns-then-not-ready c = call_1 _ _ _ _ (sym c.ready.ensures ∙ c.if-not-ready.true) c.refuse.ensures

pub check_step-requires : goal.check_step-requires
check_step-requires c = (ready_is _ _ _ (sym c.ready.ensures ∙ c.if-not-ready.false)).size

pub returns-in-Err : goal.returns-in-Err
unfolding station_step_b
returns-in-Err c = let k = refused c.in-Err.why c.in-Err.is c.check_step.ensures c.number.ensures in call_n _ _ _ _ _ (sym c.ready.ensures ∙ c.if-not-ready.false) k.0 k.1 c.refuse-in-Err.ensures

pub on_down-requires : goal.on_down-requires
on_down-requires c = ((ready_is _ _ _ (sym c.ready.ensures ∙ c.if-not-ready.false)).size, long_enough _ _ (step_passed c.args.m.now c.args.s.now (passed c.in_default.field-0 c.in_default.is c.check_step.ensures)), (ready_is _ _ _ (sym c.ready.ensures ∙ c.if-not-ready.false)).messages_fit, (ready_is _ _ _ (sym c.ready.ensures ∙ c.if-not-ready.false)).own, named_of _ _ (step_passed c.args.m.now c.args.s.now (passed c.in_default.field-0 c.in_default.is c.check_step.ensures)), (ready_is _ _ _ (sym c.ready.ensures ∙ c.if-not-ready.false)).ranged.closed)

pub returns : goal.returns
unfolding station_step_b
returns c = call_ok _ _ _ _ _ (sym c.ready.ensures ∙ c.if-not-ready.false) refl (passed c.in_default.field-0 c.in_default.is c.check_step.ensures) c.on_down.ensures
