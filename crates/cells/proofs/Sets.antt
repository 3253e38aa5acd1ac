-- Bits of a cell set, cleared and tested, as the code does it.
use Rattle.std.specs.Prelude.{◌≡◌, List, not, ℕ, ◌+◌, ◌-◌, ◌<◌, ◌^◌, eqb, get_or, set}
use Rattle.std.proofs.Common.{lt_of_le_of_lt}
use Rattle.std.specs.Int.Bits.{bit_and, bit_or}
use Rattle.std.proofs.lemmas.Nat.{or_lt, and_le_l}
use Rattle.std.proofs.Math.Pow.{pow-lt}
use Rattle.le.specs.Le.{u32_at, set_u32}
use Rattle.cells.specs.Bits.{tb}
use Rattle.cells.proofs.Bits.{tb_test}
use Rattle.cells.specs.Cells.{Region, reg, off, Cells, upd3, Holds}
use Rattle.cells.proofs.Cells.{put8, put32, get8, get32, cell_lt}

-- by a mask y
module _ {L : List Region} {b : ℕ} {s₀ s : List ℕ} {C : Cells} (h : Holds L b s₀ s C) (k i j y at : ℕ) (here : at ≡ b + off L k i j) (pi : i < (reg L k).rows) (pj : j < (reg L k).cols) where
  lt8 : (reg L k).w ≡ 1 → C k i j < 256
  lt8 w = rw w at (cell_lt h k i j)

  lt32 : (reg L k).w ≡ 4 → C k i j < 2 ^ 32
  lt32 w = rw w at (cell_lt h k i j)

  pub or8 : (reg L k).w ≡ 1 → y < 256 → Holds L b s₀ (set s at (bit_or (get_or s at 0) y)) (upd3 C k i j (bit_or (C k i j) y))
  or8 w l = rw (get8 h k i j at w here pi pj) (put8 h k i j (bit_or (C k i j) y) at w here pi pj (or_lt 8 (C k i j) y (lt8 w) l))

  pub and8 : (reg L k).w ≡ 1 → Holds L b s₀ (set s at (bit_and (get_or s at 0) y)) (upd3 C k i j (bit_and (C k i j) y))
  and8 w = rw (get8 h k i j at w here pi pj) (put8 h k i j (bit_and (C k i j) y) at w here pi pj (lt_of_le_of_lt (and_le_l (C k i j) y) (lt8 w)))

  pub or32 : (reg L k).w ≡ 4 → y < 2 ^ 32 → Holds L b s₀ (set_u32 s at (bit_or (u32_at s at) y)) (upd3 C k i j (bit_or (C k i j) y))
  or32 w l = rw (get32 h k i j at w here pi pj) (put32 h k i j (bit_or (C k i j) y) at w here pi pj (or_lt 32 (C k i j) y (lt32 w) l))

  pub and32 : (reg L k).w ≡ 4 → Holds L b s₀ (set_u32 s at (bit_and (u32_at s at) y)) (upd3 C k i j (bit_and (C k i j) y))
  and32 w = rw (get32 h k i j at w here pi pj) (put32 h k i j (bit_and (C k i j) y) at w here pi pj (lt_of_le_of_lt (and_le_l (C k i j) y) (lt32 w)))

-- one bit
module _ {L : List Region} {b : ℕ} {s₀ s : List ℕ} {C : Cells} (h : Holds L b s₀ s C) (k i j o at : ℕ) (here : at ≡ b + off L k i j) (pi : i < (reg L k).rows) (pj : j < (reg L k).cols) where
  pub on8 : (reg L k).w ≡ 1 → o < 8 → Holds L b s₀ (set s at (bit_or (get_or s at 0) (2 ^ o))) (upd3 C k i j (bit_or (C k i j) (2 ^ o)))
  on8 w l = or8 h k i j (2 ^ o) at here pi pj w (pow-lt l)

  pub off8 : (reg L k).w ≡ 1 → Holds L b s₀ (set s at (bit_and (get_or s at 0) (255 - 2 ^ o))) (upd3 C k i j (bit_and (C k i j) (255 - 2 ^ o)))
  off8 w = and8 h k i j (255 - 2 ^ o) at here pi pj w

  pub on32 : (reg L k).w ≡ 4 → o < 32 → Holds L b s₀ (set_u32 s at (bit_or (u32_at s at) (2 ^ o))) (upd3 C k i j (bit_or (C k i j) (2 ^ o)))
  on32 w l = or32 h k i j (2 ^ o) at here pi pj w (pow-lt l)

  pub off32 : (reg L k).w ≡ 4 → Holds L b s₀ (set_u32 s at (bit_and (u32_at s at) (4294967295 - 2 ^ o))) (upd3 C k i j (bit_and (C k i j) (4294967295 - 2 ^ o)))
  off32 w = and32 h k i j (4294967295 - 2 ^ o) at here pi pj w

  pub test8 : (reg L k).w ≡ 1 → not (eqb (bit_and (get_or s at 0) (2 ^ o)) 0) ≡ tb (C k i j) o
  test8 w = rw (get8 h k i j at w here pi pj) (tb_test o (C k i j))

  pub test32 : (reg L k).w ≡ 4 → not (eqb (bit_and (u32_at s at) (2 ^ o)) 0) ≡ tb (C k i j) o
  test32 w = rw (get32 h k i j at w here pi pj) (tb_test o (C k i j))
