-- `server_changes::notice` meets its contract.
use Rattle.server_changes.specs.Changes.{notice_b}
use borrow.Author.Tests.{eq-eqb, ne_eqb}
use mathlib.Core.Path.{sym}
use Rattle.server_changes.proofs.notice.Goals as goal

pub returns-then-t-latest : goal.returns-then-t-latest
unfolding notice_b
returns-then-t-latest c = simp (sym c.latest.ensures, eq-eqb _ _ c.if-t-latest.true)

pub returns : goal.returns
unfolding notice_b
returns c = simp (sym c.latest.ensures, ne_eqb _ _ c.if-t-latest.false, sym c.age.ensures, sym c.put_u8.ensures) c.put_u32.ensures
