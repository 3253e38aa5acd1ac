-- `server_tests::drops_locked` meets its contract.
use mathlib.Core.Path.{sym, ◌∙◌}
use Rattle.server_tests.specs.Shorter.{drops_yes, drops_no}
use Rattle.server_tests.proofs.drops_locked.Goals as goal

pub returns-then-has_bit32 : goal.returns-then-has_bit32
returns-then-has_bit32 c = c.lock_on.ensures ∙ sym (drops_yes _ _ _ _ (sym c.has_bit32.ensures ∙ c.if-has_bit32.true))

pub returns : goal.returns
returns c = sym (drops_no _ _ _ _ (sym c.has_bit32.ensures ∙ c.if-has_bit32.false))
