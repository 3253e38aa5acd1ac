-- `server::step` meets its contract.
use mathlib.Core.Path.{sym, ◌∙◌}
use native.Mathlib.Omega.{arith}
use Rattle.server.specs.Facts.{ready_size}
use Rattle.server.specs.Stepped.{call_1, call_n, call_sent}
use Rattle.server.proofs.Refused.{some_number}
use Rattle.server.proofs.step.Goals as goal

pub returns-then-not-ready : goal.returns-then-not-ready
returns-then-not-ready c = rw c.number.ensures (call_1 _ _ _ _ (sym c.ready.ensures ∙ c.if-not-ready.true))

pub check_step-requires : goal.check_step-requires
check_step-requires c = ready_size _ _ _ (sym c.ready.ensures ∙ c.if-not-ready.false)

pub returns-in-Err : goal.returns-in-Err
returns-in-Err c = rw c.number-in-Err.ensures (call_n _ _ _ _ (sym c.ready.ensures ∙ c.if-not-ready.false) c.in-Err.ensures (some_number _))

pub serve-c-requires : goal.serve-c-requires
serve-c-requires c = ((sym c.ready.ensures ∙ c.if-not-ready.false), sym c.in_default.ensures)

pub returns : goal.returns
returns c = call_sent _ _ _ _ (sym c.ready.ensures ∙ c.if-not-ready.false) (sym c.in_default.ensures) (λ j. omega (arith, c.slice_known-1.given j)) (λ j. omega (arith, c.shared_slice_known-1.given j)) c.serve-c.ensures
