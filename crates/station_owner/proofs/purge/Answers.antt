-- `station_owner::purge` meets its contract.
use Prim.Native.Nat.{ℕ}
use native.Mathlib.Omega.{arith}
use mathlib.Core.Path.{refl, sym, ap, ◌∙◌}
use Rattle.station_answer.specs.Handed.{hand_one}
use Rattle.station_pages.specs.Pages.{drop_pages_b}
use Rattle.station_owner.specs.Owner.{own_purge_b}
use Rattle.station_owner.specs.Facts.{ready_is, purge_passed, call_1, call_n, call_ok}
use Rattle.station_owner.proofs.Numbers.{refused, passed}
use Rattle.station_owner.proofs.purge.Goals as goal

pub returns-then-not-ready : goal.returns-then-not-ready
returns-then-not-ready c = call_1 _ _ _ _ (sym c.ready.ensures ∙ c.if-not-ready.true) c.refuse.ensures

pub check_purge-requires : goal.check_purge-requires
check_purge-requires c = (ready_is _ _ _ (sym c.ready.ensures ∙ c.if-not-ready.false)).size

pub returns-in-Err : goal.returns-in-Err
unfolding own_purge_b
returns-in-Err c = let k = refused c.in-Err.why c.in-Err.is c.check_purge.ensures c.number.ensures in call_n _ _ _ _ _ (sym c.ready.ensures ∙ c.if-not-ready.false) k.0 k.1 c.refuse-in-Err.ensures

pub station-i-requires : goal.station-i-requires
station-i-requires c = (ready_is _ _ _ (sym c.ready.ensures ∙ c.if-not-ready.false)).size

pub overflow_cast-page : goal.overflow_cast-page
overflow_cast-page c = omega (arith, purge_passed _ _ (passed c.in_default.field-0 c.in_default.is c.check_purge.ensures))

pub put_up-requires : goal.put_up-requires
put_up-requires c = omega (arith, (ready_is _ _ _ (sym c.ready.ensures ∙ c.if-not-ready.false)).messages_fit)

pub bit32-requires : goal.bit32-requires
bit32-requires c = purge_passed _ _ (passed c.in_default.field-0 c.in_default.is c.check_purge.ensures)

pub drop_pages-requires : goal.drop_pages-requires
drop_pages-requires c = (ready_is _ _ _ (sym c.ready.ensures ∙ c.if-not-ready.false)).size

pub returns : goal.returns
unfolding own_purge_b
returns c = call_ok _ _ _ _ _ (sym c.ready.ensures ∙ c.if-not-ready.false) refl (passed c.in_default.field-0 c.in_default.is c.check_purge.ensures) (hand_one _ _ _ _ (c.drop_pages.ensures ∙ ap (λ (d : ℕ). drop_pages_b d c.args.s.now) c.bit32.ensures) (rw (sym c.station-i.ensures) c.put_up.ensures) c.say.ensures)
