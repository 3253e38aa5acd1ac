-- `station_owner::read` meets its contract.
use mathlib.Core.Path.{refl, sym, ◌∙◌}
use Rattle.station_owner.specs.Owner.{own_read_b}
use Rattle.station_owner.specs.Facts.{ready_is, read_passed, call_1, call_n, call_ok}
use Rattle.station_owner.proofs.Numbers.{refused, passed}
use Rattle.station_owner.proofs.read.Goals as goal

pub returns-then-not-ready : goal.returns-then-not-ready
returns-then-not-ready c = call_1 _ _ _ _ (sym c.ready.ensures ∙ c.if-not-ready.true) c.refuse.ensures

pub check_read-requires : goal.check_read-requires
check_read-requires c = (ready_is _ _ _ (sym c.ready.ensures ∙ c.if-not-ready.false)).size

pub returns-in-Err : goal.returns-in-Err
unfolding own_read_b
returns-in-Err c = let k = refused c.in-Err.why c.in-Err.is c.check_read.ensures c.number.ensures in call_n _ _ _ _ _ (sym c.ready.ensures ∙ c.if-not-ready.false) k.0 k.1 c.refuse-in-Err.ensures

pub read_as-requires : goal.read_as-requires
read_as-requires c = ((ready_is _ _ _ (sym c.ready.ensures ∙ c.if-not-ready.false)).size, (ready_is _ _ _ (sym c.ready.ensures ∙ c.if-not-ready.false)).messages_fit, read_passed _ _ (passed c.in_default.field-0 c.in_default.is c.check_read.ensures))

pub returns : goal.returns
unfolding own_read_b
returns c = call_ok _ _ _ _ _ (sym c.ready.ensures ∙ c.if-not-ready.false) refl (passed c.in_default.field-0 c.in_default.is c.check_read.ensures) c.read_as.ensures
