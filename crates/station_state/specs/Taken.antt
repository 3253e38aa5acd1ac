-- The members of a set, taken one by one: the lowest each time, until nothing is left.
use Rattle.std.specs.Prelude.{ℕ, ◌-◌, ◌≡◌, ◌≢◌, Option, None, Some}
use Rattle.std.specs.Int.Bits.{bit_and}
use Rattle.std.specs.Int.Count.{count_trailing_zeros}

-- what a turn gives, where `left` is the set that is left before and after it
abbrev pub takes_lowest : {M : Type 0} → (M → ℕ) → M → Option ℕ → M → Type 0
takes_lowest left before None after = left before ≡ 0
takes_lowest left before (Some k) after =
    (left before ≢ 0) × (k ≡ count_trailing_zeros 64 (left before)) × (left after ≡ bit_and (left before) (left before - 1))
