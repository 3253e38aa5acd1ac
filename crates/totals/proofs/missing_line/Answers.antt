-- `totals::missing_line` meets its contract.
use native.Mathlib.Omega.{arith}
use Rattle.text.specs.Stores.{put_join, has_room, line_put, line_refused}
use Rattle.totals.specs.Table.{missing_line, field_within}
use mathlib.Core.Path.{ap}
use mathlib.Core.Bool.{not}
use Rattle.totals.proofs.missing_line.Goals as goal

pub returns-then-not-room : goal.returns-then-not-room
returns-then-not-room c = line_refused _ _ _ _ c.room.ensures (ap not c.if-not-room.true)

pub put_text-at-requires : goal.put_text-at-requires
put_text-at-requires c = omega (arith, has_room _ _ _ c.room.ensures (ap not c.if-not-room.false))

pub put_field-at-requires : goal.put_field-at-requires
put_field-at-requires c = omega (arith, has_room _ _ _ c.room.ensures (ap not c.if-not-room.false), field_within 10 c.from.result 58 (omega arith) (omega arith) (omega arith))

pub put_text-at-requires-2 : goal.put_text-at-requires-2
put_text-at-requires-2 c = omega (arith, has_room _ _ _ c.room.ensures (ap not c.if-not-room.false), field_within 10 c.from.result 58 (omega arith) (omega arith) (omega arith))

pub put_field-requires : goal.put_field-requires
put_field-requires c = omega (arith, has_room _ _ _ c.room.ensures (ap not c.if-not-room.false), field_within 10 c.from.result 58 (omega arith) (omega arith) (omega arith), field_within 10 c.from-2.result 10 (omega arith) (omega arith) (omega arith))

pub returns : goal.returns
unfolding missing_line
returns c = line_put _ _ _ _ c.room.ensures (ap not c.if-not-room.false) (put_join _ _ _ _ c.put_text-at.ensures.0 (put_join _ _ _ _ (rw c.from.ensures at c.put_field-at.ensures.0) (put_join _ _ _ _ c.put_text-at-2.ensures.0 (rw c.from-2.ensures at c.put_field.ensures.0))))
