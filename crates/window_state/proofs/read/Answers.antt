-- `window_state::read` meets its contract.
use Rattle.window_state.specs.Registers.{read_of}
use borrow.Author.Tests.{lt-ltb, le-ltb}
use mathlib.Core.Path.{sym, ◌∙◌}
use native.Mathlib.Omega.{arith}
use Rattle.window_state.specs.Facts.{valid_is}
use Rattle.window_state.proofs.read.Goals as goal

pub returns-then-not-valid : goal.returns-then-not-valid
unfolding read_of
returns-then-not-valid c = simp (sym c.valid.ensures, c.if-not-valid.true)

pub returns-then-k-ge-REGISTERS : goal.returns-then-k-ge-REGISTERS
unfolding read_of
returns-then-k-ge-REGISTERS c = simp (sym c.valid.ensures, c.if-not-valid.false, le-ltb _ _ c.if-k-ge-REGISTERS.true)

pub register-requires : goal.register-requires
register-requires c = ((valid_is _ _ (sym c.valid.ensures ∙ c.if-not-valid.false)).kept.size, (valid_is _ _ (sym c.valid.ensures ∙ c.if-not-valid.false)).state_size, omega arith)

pub returns : goal.returns
unfolding read_of
returns c = simp (sym c.valid.ensures, c.if-not-valid.false, lt-ltb _ _ c.if-k-ge-REGISTERS.false, sym c.register.ensures)
