-- The cells tell every byte.
use Rattle.std.specs.Prelude.{◌≡◌, List, ℕ, ◌+◌, ◌<◌}
use Rattle.cells.specs.Cells.{Region, reg, off}

-- the cell, and the byte of it, that stands at p
pub record Spot (L : List Region) (p : ℕ) : Type 0 where
  pub k : ℕ
  pub i : ℕ
  pub j : ℕ
  pub c : ℕ
  pub pi : i < (reg L k).rows
  pub pj : j < (reg L k).cols
  pub pc : c < (reg L k).w
  pub at : p ≡ off L k i j + c
