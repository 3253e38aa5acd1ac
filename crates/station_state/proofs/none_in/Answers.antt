-- `station_state::none_in` meets its contract.
use Prim.Native.Nat.{ℕ}
use mathlib.Core.Path.{ap, ◌∙◌}
use lib.Dec.{eqb}
use Rattle.station_state.specs.Facts.{none_joined}
use Rattle.station_state.proofs.none_in.Goals as goal

pub returns : goal.returns
returns c = ap (λ (x : ℕ). eqb x 0) c.joined.ensures ∙ none_joined _ _
