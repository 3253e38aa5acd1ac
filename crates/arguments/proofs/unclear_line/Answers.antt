-- `arguments::unclear_line` meets its contract.
use Rattle.std.proofs.Common.{ap, not}
use native.Mathlib.Omega.{arith}
use Rattle.arguments.specs.Modes.{unclear_line}
use Rattle.text.specs.Stores.{put_join, has_room, line_put, line_refused}
use Rattle.arguments.proofs.unclear_line.Goals as goal

pub returns-then-not-room : goal.returns-then-not-room
returns-then-not-room c = line_refused _ _ _ _ c.room.ensures (ap not c.if-not-room.true)

pub put_text-at-requires : goal.put_text-at-requires
put_text-at-requires c = omega (arith, has_room _ _ _ c.room.ensures (ap not c.if-not-room.false))

pub put_text-at-requires-2 : goal.put_text-at-requires-2
put_text-at-requires-2 c = omega (arith, has_room _ _ _ c.room.ensures (ap not c.if-not-room.false))

pub put_text-requires : goal.put_text-requires
put_text-requires c = omega (arith, has_room _ _ _ c.room.ensures (ap not c.if-not-room.false))

pub returns : goal.returns
unfolding unclear_line
returns c = line_put _ _ _ _ c.room.ensures (ap not c.if-not-room.false) (put_join _ _ _ _ c.put_text-at.ensures.0 (put_join _ _ _ _ (rw c.shown.ensures.0 at c.put_text-at-2.ensures.0) c.put_text.ensures.0))
