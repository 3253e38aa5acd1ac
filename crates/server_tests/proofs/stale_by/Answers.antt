-- `server_tests::stale_by` meets its contract.
use mathlib.Core.Path.{◌∙◌}
use Rattle.server_tests.specs.Alone.{stale_alone}
use Rattle.server_tests.proofs.stale_by.Goals as goal

pub returns-then-p-lt32 : goal.returns-then-p-lt32
returns-then-p-lt32 c = c.stale_on.ensures ∙ stale_alone _ _ _ c.requires.2 c.if-p-lt32.true
