-- `full::record_line` meets its contract.
use Rattle.full.specs.Full.{record_line}
use Rattle.text.specs.Stores.{put_join, has_room, line_put, line_refused}
use native.Mathlib.Omega.{arith}
use mathlib.Core.Path.{ap}
use mathlib.Core.Bool.{not}
use Rattle.full.proofs.record_line.Goals as goal

pub returns-then-not-room : goal.returns-then-not-room
returns-then-not-room c = line_refused _ _ _ _ c.room.ensures (ap not c.if-not-room.true)

pub put_names-at-requires : goal.put_names-at-requires
put_names-at-requires c = omega (arith, has_room _ _ _ c.room.ensures (ap not c.if-not-room.false))

pub put_sizes-requires : goal.put_sizes-requires
put_sizes-requires c = omega (arith, has_room _ _ _ c.room.ensures (ap not c.if-not-room.false))

pub returns : goal.returns
unfolding record_line
returns c = line_put _ _ _ _ c.room.ensures (ap not c.if-not-room.false) (put_join _ _ _ _ c.put_names-at.ensures.0 c.put_sizes.ensures)
