-- `history::change_line` meets its contract.
use Rattle.history.specs.History.{change_line}
use Rattle.totals.specs.Table.{field_within}
use Rattle.text.specs.Stores.{put_join, has_room, line_put, line_refused}
use native.Mathlib.Omega.{arith}
use mathlib.Core.Path.{ap}
use mathlib.Core.Bool.{not}
use Rattle.history.proofs.change_line.Goals as goal

pub returns-then-not-room : goal.returns-then-not-room
returns-then-not-room c = line_refused _ _ _ _ c.room.ensures (ap not c.if-not-room.true)

pub put_field-at-requires : goal.put_field-at-requires
put_field-at-requires c = omega (arith, has_room _ _ _ c.room.ensures (ap not c.if-not-room.false), field_within 10 c.from.result c.args.sep (omega arith) (omega arith) (omega arith))

pub put_field-at-requires-2 : goal.put_field-at-requires-2
put_field-at-requires-2 c = omega (arith, has_room _ _ _ c.room.ensures (ap not c.if-not-room.false), field_within 10 c.from.result c.args.sep (omega arith) (omega arith) (omega arith), field_within 10 c.from-2.result c.args.sep (omega arith) (omega arith) (omega arith))

pub put_field-at-requires-3 : goal.put_field-at-requires-3
put_field-at-requires-3 c = omega (arith, has_room _ _ _ c.room.ensures (ap not c.if-not-room.false), field_within 10 c.from.result c.args.sep (omega arith) (omega arith) (omega arith), field_within 10 c.from-2.result c.args.sep (omega arith) (omega arith) (omega arith), field_within 20 c.args.before c.args.sep (omega arith) (omega arith) (omega arith))

pub put_field-requires : goal.put_field-requires
put_field-requires c = omega (arith, has_room _ _ _ c.room.ensures (ap not c.if-not-room.false), field_within 10 c.from.result c.args.sep (omega arith) (omega arith) (omega arith), field_within 10 c.from-2.result c.args.sep (omega arith) (omega arith) (omega arith), field_within 20 c.args.before c.args.sep (omega arith) (omega arith) (omega arith), field_within 20 c.args.after 10 (omega arith) (omega arith) (omega arith))

pub returns : goal.returns
unfolding change_line
returns c = line_put _ _ _ _ c.room.ensures (ap not c.if-not-room.false) (put_join _ _ _ _ (rw c.from.ensures at c.put_field-at.ensures.0) (put_join _ _ _ _ (rw c.from-2.ensures at c.put_field-at-2.ensures.0) (put_join _ _ _ _ c.put_field-at-3.ensures.0 c.put_field.ensures.0)))
