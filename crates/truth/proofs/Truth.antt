-- Demand 3: for every choice of kinds and every list of calls from a fresh line the archive is true.
use Rattle.std.specs.Prelude.{ℕ, List}
use Rattle.line.specs.Line.{Call, run, fresh}
use Rattle.line.specs.Truth.{True}
use Rattle.truth.proofs.GoalsEight.{stations_run}
use Rattle.truth.specs.Inv.{Inv, Layer}
use Rattle.truth.proofs.Kept.{apart_layer}
use Rattle.truth.proofs.Spread.{tokens_layer, coverage_layer}
use Rattle.truth.proofs.CallbacksLayer.{calls_layer}
use Rattle.truth.proofs.ExclusionPass.{exclusion_layer}
use Rattle.truth.proofs.Values.{values_layer}
use Rattle.truth.proofs.Validated.{validated_layer}
use Rattle.truth.proofs.Goals.{goals_layer}
use Rattle.truth.proofs.Theorem.{inv_layer, of_run, true_of}

-- every move keeps the whole invariant
pub moves : Layer Inv
moves =
    inv_layer apart_layer tokens_layer coverage_layer (calls_layer (λ w h. h.apart.waiting.arrivals_given)) (exclusion_layer (λ w h. h.apart)) values_layer validated_layer goals_layer

pub invariant : (kinds : ℕ → ℕ) (cs : List Call) → Inv (run cs (fresh kinds))
invariant = of_run moves

pub truth : (kinds : ℕ → ℕ) (cs : List Call) → True (run cs (fresh kinds))
truth kinds cs = true_of (run cs (fresh kinds)) (stations_run kinds cs) (invariant kinds cs)
