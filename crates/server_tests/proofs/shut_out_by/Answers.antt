-- `server_tests::shut_out_by` meets its contract.
use mathlib.Core.Path.{◌∙◌}
use Rattle.server_tests.specs.Alone.{shut_alone}
use Rattle.server_tests.proofs.shut_out_by.Goals as goal

pub returns-then-p-lt32 : goal.returns-then-p-lt32
returns-then-p-lt32 c = c.shut.ensures ∙ shut_alone _ _ _ c.requires.2 c.if-p-lt32.true
