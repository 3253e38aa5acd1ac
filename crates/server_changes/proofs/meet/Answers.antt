-- `server_changes::meet` meets its contract.
use Rattle.server_changes.specs.Changes.{meet_b}
use borrow.Author.Tests.{lt-ltb, le-ltb}
use mathlib.Core.Path.{sym}
use Rattle.server_changes.proofs.meet.Goals as goal

pub returns-then-latest-t : goal.returns-then-latest-t
unfolding meet_b
returns-then-latest-t c = simp (sym c.latest.ensures, lt-ltb _ _ c.if-latest-t.true) c.notice.ensures

pub returns : goal.returns
unfolding meet_b
returns c = simp (sym c.latest.ensures, le-ltb _ _ c.if-latest-t.false)
