use mathlib.Core.Path.{sym}
use borrow.Author.Tests.{lt-ltb, le-ltb}
use Rattle.turns.specs.Turn.{begins, found}
use Rattle.turns.proofs.Lines.find.Goals as goal

pub returns-then-line-lt8 : goal.returns-then-line-lt8
unfolding found begins
returns-then-line-lt8 c = simp (sym c.lowest-line.ensures, lt-ltb _ _ c.if-line-lt8.true)

pub returns : goal.returns
unfolding found begins
returns c = simp (sym c.lowest-line.ensures, le-ltb _ _ c.if-line-lt8.false, sym c.lowest.ensures)
