-- NOTHING JAMS: for every choice of kinds and every list of calls from a fresh line, no message is refused.
use Rattle.std.specs.Prelude.{ℕ, List}
use Rattle.line.specs.Line.{Call, run, fresh}
use Rattle.truth.specs.Inv.{Over}
use Rattle.truth.proofs.Theorem.{of_run}
use Rattle.jams.specs.Clauses.{Orderly}
use Rattle.jams.specs.NumbersLayer.{numbers_layer, kept_layer}
use Rattle.jams.specs.LocksLayer.{locks_layer}
use Rattle.jams.specs.DeescalationLayer.{deescalation_layer}
use Rattle.jams.specs.KeepingLayer.{keeping_layer}
use Rattle.jams.specs.SetsLayer.{sets_layer}
use Rattle.jams.specs.Theorem.{NothingJams, orderly_moves, orderly_layer}

-- every move keeps a world orderly
pub orderly_moves_on : Over Orderly Orderly
orderly_moves_on = orderly_layer numbers_layer kept_layer locks_layer deescalation_layer keeping_layer sets_layer

pub orderly : (kinds : ℕ → ℕ) (cs : List Call) → Orderly (run cs (fresh kinds))
orderly = of_run orderly_moves_on

pub nothing_jams : (kinds : ℕ → ℕ) (cs : List Call) → NothingJams (run cs (fresh kinds))
nothing_jams kinds cs = orderly_moves (run cs (fresh kinds)) (orderly kinds cs)
