-- `station_owner::write_set` meets its contract.
use mathlib.Core.Path.{refl, sym, ◌∙◌}
use native.Mathlib.Omega.{arith}
use Rattle.station_owner.specs.Owner.{own_write_set_b}
use Rattle.station_owner.specs.Facts.{ready_is, write_passed, call_1, call_n, call_ok}
use Rattle.station_owner.proofs.Numbers.{refused, passed}
use Rattle.station_owner.proofs.write_set.Goals as goal

pub returns-then-not-ready : goal.returns-then-not-ready
returns-then-not-ready c = call_1 _ _ _ _ (sym c.ready.ensures ∙ c.if-not-ready.true) c.refuse.ensures

pub check_write-requires : goal.check_write-requires
check_write-requires c = (ready_is _ _ _ (sym c.ready.ensures ∙ c.if-not-ready.false)).size

pub returns-in-Err : goal.returns-in-Err
unfolding own_write_set_b
returns-in-Err c = let k = refused c.in-Err.why c.in-Err.is c.check_write.ensures c.number.ensures in call_n _ _ _ _ _ (sym c.ready.ensures ∙ c.if-not-ready.false) k.0 k.1 c.refuse-in-Err.ensures

pub overflow_cast-set : goal.overflow_cast-set
overflow_cast-set c = omega (arith, (write_passed _ _ _ (passed c.in_default.field-0 c.in_default.is c.check_write.ensures)).1)

pub write_as-requires : goal.write_as-requires
write_as-requires c = ((ready_is _ _ _ (sym c.ready.ensures ∙ c.if-not-ready.false)).size, (ready_is _ _ _ (sym c.ready.ensures ∙ c.if-not-ready.false)).messages_fit, (write_passed _ _ _ (passed c.in_default.field-0 c.in_default.is c.check_write.ensures)).0)

pub returns : goal.returns
unfolding own_write_set_b
returns c = call_ok _ _ _ _ _ (sym c.ready.ensures ∙ c.if-not-ready.false) refl (passed c.in_default.field-0 c.in_default.is c.check_write.ensures) c.write_as.ensures
