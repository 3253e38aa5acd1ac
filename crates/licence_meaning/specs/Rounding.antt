-- Fees: rounded to the nearest cent, opposite for opposite sums, and never less for more frames.
use Rattle.std.specs.Prelude.{ℕ, ◌+◌, ◌*◌, ◌≤◌, ◌<◌}

-- x hundred-thousandths of a cent are at most half a cent from their cents, and a half goes up
pub record Nearest (x c : ℕ) : Type 0 where
  pub not_above : 2 * (100000 * c) ≤ 2 * x + 100000
  pub not_below : 2 * x < 2 * (100000 * c) + 100000
