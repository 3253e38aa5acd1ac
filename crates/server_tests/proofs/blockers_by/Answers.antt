-- `server_tests::blockers_by` meets its contract.
use mathlib.Core.Path.{ap₂, ◌∙◌}
use lib.Bits.{bit_or}
use Rattle.server_tests.specs.Alone.{blockers_alone}
use Rattle.server_tests.proofs.blockers_by.Goals as goal

pub returns-then-p-lt32 : goal.returns-then-p-lt32
returns-then-p-lt32 c =
    ap₂ bit_or c.holders_on.ensures c.ahead_on.ensures
    ∙ blockers_alone _ _ _ c.requires.2 c.if-p-lt32.true
