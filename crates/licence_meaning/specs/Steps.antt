-- A table's bytes mean a tariff: it keeps the rules exactly if they do, and its charge step by step is the cost frame by frame.
use Prim.Native.Nat.{ℕ, zero, suc, ◌*◌}
use Rattle.std.specs.Prelude.{◌≡◌, List, [], ◌∷◌, length}
use Rattle.tariff.specs.Table.{step_length, steps_in, upper_at, price_at}
use Rattle.licence_terms.specs.Tariff.{Step, Tariff}

-- the c steps from the i-th of a table
unfoldable pub steps_at : List ℕ → ℕ → ℕ → List Step
steps_at t i zero = []
steps_at t i (suc c) = record { upper = upper_at t i; price = price_at t i } ∷ steps_at t (suc i) c

-- the tariff that a table means
abbrev pub steps_of : List ℕ → List Step
steps_of t = steps_at t 0 (steps_in t)

-- what a table that keeps the rules is
pub record Table (t : List ℕ) : Type 0 where
  pub whole : length t ≡ step_length * length (steps_of t)
  pub tariff : Tariff (steps_of t)
