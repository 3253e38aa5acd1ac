-- `server_tests::locked_by` meets its contract.
use mathlib.Core.Path.{◌∙◌}
use Rattle.server_tests.specs.Alone.{locked_alone}
use Rattle.server_tests.proofs.locked_by.Goals as goal

pub returns-then-p-lt32 : goal.returns-then-p-lt32
returns-then-p-lt32 c = c.locked_on.ensures ∙ locked_alone _ _ _ c.requires.2 c.if-p-lt32.true
