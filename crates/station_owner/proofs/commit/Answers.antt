-- `station_owner::commit` meets its contract.
use mathlib.Core.Path.{refl, sym, ◌∙◌}
use Rattle.station_owner.specs.Facts.{ready_is, open_passed, commit_room_lem, commit_1, commit_n, commit_ok_lem}
use Rattle.station_owner.proofs.Numbers.{refused, passed}
use Rattle.station_owner.proofs.commit.Goals as goal

pub returns-then-not-ready : goal.returns-then-not-ready
returns-then-not-ready c = commit_1 _ _ _ (sym c.ready.ensures ∙ c.if-not-ready.true) c.refuse.ensures

pub check_open-requires : goal.check_open-requires
check_open-requires c = (ready_is _ _ _ (sym c.ready.ensures ∙ c.if-not-ready.false)).size

pub returns-in-Err : goal.returns-in-Err
returns-in-Err c = let k = refused c.in-Err.why c.in-Err.is c.check_open.ensures c.number.ensures in commit_n _ _ _ (sym c.ready.ensures ∙ c.if-not-ready.false) k.0 k.1 c.refuse-in-Err.ensures

pub put_commit-k-requires : goal.put_commit-k-requires
put_commit-k-requires c = ((ready_is _ _ _ (sym c.ready.ensures ∙ c.if-not-ready.false)).size, commit_room_lem _ _ _ (ready_is _ _ _ (sym c.ready.ensures ∙ c.if-not-ready.false)) (open_passed _ 0 (passed c.in_default.field-0 c.in_default.is c.check_open.ensures)))

pub for_commit-requires : goal.for_commit-requires
for_commit-requires c = (ready_is _ _ _ (sym c.ready.ensures ∙ c.if-not-ready.false)).size

pub returns : goal.returns
returns c = commit_ok_lem _ _ _ (sym c.ready.ensures ∙ c.if-not-ready.false) refl (passed c.in_default.field-0 c.in_default.is c.check_open.ensures) c.put_commit-k.ensures c.for_commit.ensures
