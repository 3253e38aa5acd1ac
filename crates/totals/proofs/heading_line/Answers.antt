-- `totals::heading_line` meets its contract.
use Rattle.totals.specs.Table.{heading}
use Rattle.text.specs.Stores.{has_room, line_put, line_refused}
use native.Mathlib.Omega.{arith}
use mathlib.Core.Path.{ap}
use mathlib.Core.Bool.{not}
use Rattle.totals.proofs.heading_line.Goals as goal

pub returns-then-not-room : goal.returns-then-not-room
returns-then-not-room c = line_refused _ _ _ _ c.room.ensures (ap not c.if-not-room.true)

pub put_columns-requires : goal.put_columns-requires
put_columns-requires c = omega (arith, has_room _ _ _ c.room.ensures (ap not c.if-not-room.false))

pub returns : goal.returns
unfolding heading
returns c = line_put _ _ _ _ c.room.ensures (ap not c.if-not-room.false) c.put_columns.ensures.0
