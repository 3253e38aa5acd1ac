-- `words::fault_line` meets its contract.
use Rattle.text.specs.Stores.{put_join, has_room, line_put, line_refused}
use native.Mathlib.Omega.{arith}
use Rattle.words.specs.Words.{fault_line}
use Rattle.words.specs.Fits.{put_at, where_short, words_short}
use mathlib.Core.Path.{ap}
use mathlib.Core.Bool.{not}
use Rattle.words.proofs.fault_line.Goals as goal

pub returns-then-not-room : goal.returns-then-not-room
returns-then-not-room c = line_refused _ _ _ _ c.room.ensures (ap not c.if-not-room.true)

pub put_where-at-requires : goal.put_where-at-requires
put_where-at-requires c = omega (arith, has_room _ _ _ c.room.ensures (ap not c.if-not-room.false))

pub put_words-at-requires : goal.put_words-at-requires
put_words-at-requires c = omega (arith, has_room _ _ _ c.room.ensures (ap not c.if-not-room.false), put_at _ _ _ c.put_where-at.ensures, where_short c.args.start c.args.f)

pub put_text-requires : goal.put_text-requires
put_text-requires c = omega (arith, has_room _ _ _ c.room.ensures (ap not c.if-not-room.false), put_at _ _ _ c.put_where-at.ensures, where_short c.args.start c.args.f, put_at _ _ _ c.put_words-at.ensures, words_short c.args.f)

pub returns : goal.returns
unfolding fault_line
returns c = line_put _ _ _ _ c.room.ensures (ap not c.if-not-room.false) (put_join _ _ _ _ c.put_where-at.ensures (put_join _ _ _ _ c.put_words-at.ensures c.put_text.ensures.0))
