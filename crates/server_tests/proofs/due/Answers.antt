-- `server_tests::due` meets its contract.
use mathlib.Core.Path.{sym, ◌∙◌}
use native.Mathlib.Omega.{arith}
use Rattle.server_tests.specs.Shorter.{shut_held}
use Rattle.server_tests.proofs.due.Goals as goal

pub overflow_sub-h : goal.overflow_sub-h
overflow_sub-h c = omega (arith, c.whole.ensures, shut_held _ _ _ (sym c.shut.ensures ∙ c.if-not-shut.false))
