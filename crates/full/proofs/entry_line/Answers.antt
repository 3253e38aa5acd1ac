-- `full::entry_line` meets its contract.
use Rattle.full.specs.Full.{entry_line}
use Rattle.text.specs.Stores.{put_join, has_room, line_put, line_refused}
use Rattle.totals.specs.Table.{field_within}
use native.Mathlib.Omega.{arith}
use Prim.Native.Nat.{◌/◌, ◌%◌}
use mathlib.Core.Path.{sym, ◌∙◌}
use mathlib.Core.Path.{ap}
use mathlib.Core.Bool.{not}
use Rattle.full.proofs.entry_line.Goals as goal

pub returns-then-not-room : goal.returns-then-not-room
returns-then-not-room c = line_refused _ _ _ _ c.room.ensures (ap not c.if-not-room.true)

pub put_word-at-requires : goal.put_word-at-requires
put_word-at-requires c = omega (arith, has_room _ _ _ c.room.ensures (ap not c.if-not-room.false))

pub put_field-at-requires : goal.put_field-at-requires
put_field-at-requires c = omega (arith, has_room _ _ _ c.room.ensures (ap not c.if-not-room.false), field_within 3 c.from-a.result c.args.sep (omega arith) (omega arith) (omega arith))

pub put_field-at-requires-2 : goal.put_field-at-requires-2
put_field-at-requires-2 c = omega (arith, has_room _ _ _ c.room.ensures (ap not c.if-not-room.false), field_within 3 c.from-a.result c.args.sep (omega arith) (omega arith) (omega arith), field_within 2 (c.from-a.result / 8) c.args.sep (omega arith) (omega arith) (omega arith))

pub put_field-at-requires-3 : goal.put_field-at-requires-3
put_field-at-requires-3 c = omega (arith, has_room _ _ _ c.room.ensures (ap not c.if-not-room.false), field_within 3 c.from-a.result c.args.sep (omega arith) (omega arith) (omega arith), field_within 2 (c.from-a.result / 8) c.args.sep (omega arith) (omega arith) (omega arith), field_within 1 (c.from-a.result % 8) c.args.sep (omega arith) (omega arith) (omega arith))

pub put_field-requires : goal.put_field-requires
put_field-requires c = omega (arith, has_room _ _ _ c.room.ensures (ap not c.if-not-room.false), field_within 3 c.from-a.result c.args.sep (omega arith) (omega arith) (omega arith), field_within 2 (c.from-a.result / 8) c.args.sep (omega arith) (omega arith) (omega arith), field_within 1 (c.from-a.result % 8) c.args.sep (omega arith) (omega arith) (omega arith), field_within 20 c.args.value (10) (omega arith) (omega arith) (omega arith))

pub returns : goal.returns
unfolding entry_line
returns c = rw (sym c.from-a.ensures) (line_put _ _ _ _ c.room.ensures (ap not c.if-not-room.false) (put_join _ _ _ _ c.put_word-at.ensures.0 (put_join _ _ _ _ c.put_field-at.ensures.0 (put_join _ _ _ _ c.put_field-at-2.ensures.0 (put_join _ _ _ _ c.put_field-at-3.ensures.0 c.put_field.ensures.0)))))
