-- `window::ready` meets its contract.
use Rattle.window.specs.Window.{ready_w}
use mathlib.Core.Path.{sym, ◌∙◌}
use Rattle.window.specs.Facts.{ready_size}
use Rattle.window.proofs.ready.Goals as goal

pub returns-then-not-ready : goal.returns-then-not-ready
unfolding ready_w
returns-then-not-ready c = simp (sym c.ready.ensures, c.if-not-ready.true)

pub kind-requires : goal.kind-requires
kind-requires c = ready_size _ _ _ (sym c.ready.ensures ∙ c.if-not-ready.false)

pub returns : goal.returns
unfolding ready_w
returns c = simp (sym c.kind.ensures, sym c.ready.ensures, c.if-not-ready.false, sym c.registers_ok.ensures)
