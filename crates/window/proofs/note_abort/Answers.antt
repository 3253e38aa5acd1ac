-- `window::note_abort` meets its contract.
use Rattle.window.specs.Window.{noted_abort}
use borrow.Author.Tests.{eq-eqb, ne_eqb}
use Rattle.window.proofs.note_abort.Goals as goal

pub returns-then-cause-eq0 : goal.returns-then-cause-eq0
unfolding noted_abort
returns-then-cause-eq0 c = simp (eq-eqb _ _ c.if-cause-eq0.true)

pub returns : goal.returns
unfolding noted_abort
returns c = simp (ne_eqb _ _ c.if-cause-eq0.false) c.raise.ensures
