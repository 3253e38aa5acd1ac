-- `station_owner::abort` meets its contract. The calls are the definition by one law (`abort-handed`).
use native.Mathlib.Omega.{arith}
use mathlib.Core.Path.{refl, sym, ◌∙◌}
use Rattle.station_owner.specs.Owner.{own_abort_b}
use Rattle.station_owner.specs.Facts.{ready_is, call_1, call_n, call_ok, abort_handed, abort_count}
use Rattle.station_owner.proofs.Numbers.{refused, passed}
use Rattle.station_owner.proofs.abort.Goals as goal

pub returns-then-not-ready : goal.returns-then-not-ready
returns-then-not-ready c = call_1 _ _ _ _ (sym c.ready.ensures ∙ c.if-not-ready.true) c.refuse.ensures

pub check_open-requires : goal.check_open-requires
check_open-requires c = (ready_is _ _ _ (sym c.ready.ensures ∙ c.if-not-ready.false)).size

pub returns-in-Err : goal.returns-in-Err
unfolding own_abort_b
returns-in-Err c = let k = refused c.in-Err.why c.in-Err.is c.check_open.ensures c.number.ensures in call_n _ _ _ _ _ (sym c.ready.ensures ∙ c.if-not-ready.false) k.0 k.1 c.refuse-in-Err.ensures

pub station-i-requires : goal.station-i-requires
station-i-requires c = (ready_is _ _ _ (sym c.ready.ensures ∙ c.if-not-ready.false)).size

pub tell_abort-k-requires : goal.tell_abort-k-requires
tell_abort-k-requires c = ((ready_is _ _ _ (sym c.ready.ensures ∙ c.if-not-ready.false)).size, (ready_is _ _ _ (sym c.ready.ensures ∙ c.if-not-ready.false)).messages_fit)

pub undo-requires : goal.undo-requires
undo-requires c = (ready_is _ _ _ (sym c.ready.ensures ∙ c.if-not-ready.false)).size

pub close-sent-requires : goal.close-sent-requires
close-sent-requires c = (omega (arith, (ready_is _ _ _ (sym c.ready.ensures ∙ c.if-not-ready.false)).size), omega (arith, (ready_is _ _ _ (sym c.ready.ensures ∙ c.if-not-ready.false)).messages_fit), abort_count _ _ c.tell_abort-k.ensures, rw c.station-i.ensures (ready_is _ _ _ (sym c.ready.ensures ∙ c.if-not-ready.false)).own)

pub returns : goal.returns
unfolding own_abort_b
returns c = call_ok _ _ _ _ _ (sym c.ready.ensures ∙ c.if-not-ready.false) refl (passed c.in_default.field-0 c.in_default.is c.check_open.ensures) (abort_handed _ _ c.tell_abort-k.ensures c.undo.ensures (rw (sym c.station-i.ensures) c.close-sent.ensures) c.say.ensures)
