-- `window::write` meets its contract.
use Rattle.window.specs.Facts.{window_size, write_1, write_16, write_command, write_store}
use mathlib.Core.Path.{sym, ◌∙◌}
use native.Mathlib.Omega.{arith}
use Rattle.window.proofs.write.Goals as goal

pub returns-then-not-ready : goal.returns-then-not-ready
returns-then-not-ready c = write_1 _ _ _ _ _ _ (sym c.ready.ensures ∙ c.if-not-ready.true) c.refuse.ensures

pub returns-then-k-ge-REGISTERS : goal.returns-then-k-ge-REGISTERS
returns-then-k-ge-REGISTERS c = write_16 _ _ _ _ _ _ (sym c.ready.ensures ∙ c.if-not-ready.false) c.if-k-ge-REGISTERS.true c.refuse-then-k-ge-REGISTERS.ensures

pub command-requires : goal.command-requires
command-requires c = window_size _ _ _ _ (sym c.ready.ensures ∙ c.if-not-ready.false)

pub returns-then-k-eq-COMMAND : goal.returns-then-k-eq-COMMAND
returns-then-k-eq-COMMAND c = write_command _ _ _ _ _ _ (sym c.ready.ensures ∙ c.if-not-ready.false) c.if-k-ge-REGISTERS.false c.if-k-eq-COMMAND.true c.command.ensures

pub store-requires : goal.store-requires
store-requires c = (window_size _ _ _ _ (sym c.ready.ensures ∙ c.if-not-ready.false), omega arith)

pub returns : goal.returns
returns c = write_store _ _ _ _ _ _ (sym c.ready.ensures ∙ c.if-not-ready.false) c.if-k-ge-REGISTERS.false c.if-k-eq-COMMAND.false c.store.ensures c.say.ensures
