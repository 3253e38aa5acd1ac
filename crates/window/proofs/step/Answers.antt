-- `window::step` meets its contract.
use Rattle.window.specs.Facts.{window_size, step_1, step_done}
use mathlib.Core.Path.{sym, ◌∙◌}
use Rattle.window.proofs.step.Goals as goal

pub returns-then-not-ready : goal.returns-then-not-ready
returns-then-not-ready c = step_1 _ _ _ _ _ (sym c.ready.ensures ∙ c.if-not-ready.true) c.refuse.ensures

pub note-requires : goal.note-requires
note-requires c = window_size _ _ _ _ (sym c.ready.ensures ∙ c.if-not-ready.false)

pub returns : goal.returns
returns c = step_done _ _ _ _ _ (sym c.ready.ensures ∙ c.if-not-ready.false) c.step-x.ensures c.note.ensures
