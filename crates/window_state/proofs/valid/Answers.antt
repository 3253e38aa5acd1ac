-- `window_state::valid` meets its contract.
use Rattle.window_state.specs.Registers.{valid}
use mathlib.Core.Path.{sym, ◌∙◌}
use Rattle.window_state.specs.Facts.{valid_size}
use Rattle.window_state.proofs.valid.Goals as goal

pub returns-then-not-valid : goal.returns-then-not-valid
unfolding valid
returns-then-not-valid c = simp (sym c.valid.ensures, c.if-not-valid.true)

pub kind-requires : goal.kind-requires
kind-requires c = valid_size _ (sym c.valid.ensures ∙ c.if-not-valid.false)

pub returns : goal.returns
unfolding valid
returns c = simp (sym c.kind.ensures, sym c.valid.ensures, c.if-not-valid.false, sym c.registers_ok.ensures)
