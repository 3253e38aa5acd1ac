-- `window_state::interrupt` meets its contract.
use Rattle.window_state.specs.Registers.{interrupt_of}
use mathlib.Core.Path.{sym, ◌∙◌}
use Rattle.window_state.specs.Facts.{valid_is}
use Rattle.window_state.proofs.interrupt.Goals as goal

pub returns-then-not-valid : goal.returns-then-not-valid
unfolding interrupt_of
returns-then-not-valid c = simp (sym c.valid.ensures, c.if-not-valid.true)

pub up-requires : goal.up-requires
up-requires c = ((valid_is _ _ (sym c.valid.ensures ∙ c.if-not-valid.false)).kept.size, (valid_is _ _ (sym c.valid.ensures ∙ c.if-not-valid.false)).state_size)

pub returns-then-up : goal.returns-then-up
unfolding interrupt_of
returns-then-up c = simp (sym c.valid.ensures, c.if-not-valid.false, sym c.up.ensures, c.if-up.true)

pub returns : goal.returns
unfolding interrupt_of
returns c = simp (sym c.valid.ensures, c.if-not-valid.false, sym c.up.ensures, c.if-up.false)
