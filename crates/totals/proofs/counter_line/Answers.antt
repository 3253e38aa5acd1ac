-- `totals::counter_line` meets its contract.
use native.Mathlib.Omega.{arith}
use Rattle.text.specs.Stores.{put_join, has_room, line_put, line_refused}
use Rattle.totals.specs.Table.{counter_line, field_within}
use Prim.Native.Nat.{◌/◌, ◌%◌}
use mathlib.Core.Path.{sym, ◌∙◌}
use mathlib.Core.Path.{ap}
use mathlib.Core.Bool.{not}
use Rattle.totals.proofs.counter_line.Goals as goal

pub returns-then-not-room : goal.returns-then-not-room
returns-then-not-room c = line_refused _ _ _ _ c.room.ensures (ap not c.if-not-room.true)

pub put_field-at-requires : goal.put_field-at-requires
put_field-at-requires c = omega (arith, has_room _ _ _ c.room.ensures (ap not c.if-not-room.false), field_within 3 c.from-a.result c.args.sep (omega arith) (omega arith) (omega arith))

pub put_field-at-requires-2 : goal.put_field-at-requires-2
put_field-at-requires-2 c = omega (arith, has_room _ _ _ c.room.ensures (ap not c.if-not-room.false), field_within 3 c.from-a.result c.args.sep (omega arith) (omega arith) (omega arith), field_within 2 (c.from-a.result / 8) c.args.sep (omega arith) (omega arith) (omega arith))

pub put_field-at-requires-3 : goal.put_field-at-requires-3
put_field-at-requires-3 c = omega (arith, has_room _ _ _ c.room.ensures (ap not c.if-not-room.false), field_within 3 c.from-a.result c.args.sep (omega arith) (omega arith) (omega arith), field_within 2 (c.from-a.result / 8) c.args.sep (omega arith) (omega arith) (omega arith), field_within 1 (c.from-a.result % 8) c.args.sep (omega arith) (omega arith) (omega arith))

pub put_field-at-requires-4 : goal.put_field-at-requires-4
put_field-at-requires-4 c = omega (arith, has_room _ _ _ c.room.ensures (ap not c.if-not-room.false), field_within 3 c.from-a.result c.args.sep (omega arith) (omega arith) (omega arith), field_within 2 (c.from-a.result / 8) c.args.sep (omega arith) (omega arith) (omega arith), field_within 1 (c.from-a.result % 8) c.args.sep (omega arith) (omega arith) (omega arith), field_within 20 c.args.value c.args.sep (omega arith) (omega arith) (omega arith))

pub put_field-requires : goal.put_field-requires
put_field-requires c = omega (arith, has_room _ _ _ c.room.ensures (ap not c.if-not-room.false), field_within 3 c.from-a.result c.args.sep (omega arith) (omega arith) (omega arith), field_within 2 (c.from-a.result / 8) c.args.sep (omega arith) (omega arith) (omega arith), field_within 1 (c.from-a.result % 8) c.args.sep (omega arith) (omega arith) (omega arith), field_within 20 c.args.value c.args.sep (omega arith) (omega arith) (omega arith), field_within 20 c.args.writes 10 (omega arith) (omega arith) (omega arith))

pub returns : goal.returns
unfolding counter_line
returns c = rw (sym c.from-a.ensures) (line_put _ _ _ _ c.room.ensures (ap not c.if-not-room.false) (put_join _ _ _ _ c.put_field-at.ensures.0 (put_join _ _ _ _ c.put_field-at-2.ensures.0 (put_join _ _ _ _ c.put_field-at-3.ensures.0 (put_join _ _ _ _ c.put_field-at-4.ensures.0 c.put_field.ensures.0)))))
