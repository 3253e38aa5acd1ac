-- The addresses that 32 object sets by page name.
use Rattle.std.specs.Prelude.{ℕ, ◌≤◌, ◌<◌, ◌/◌, ◌%◌, ◌≡◌, Bool, false, cond, List, ltb, get_or}
use Rattle.std.proofs.Math.Path.{fun_ext}
use Rattle.sets.specs.Laws.{by_b}
use Rattle.sets.proofs.Laws.{ltb_yes, ltb_no}
use Rattle.cells.specs.Bits.{tb}
use Rattle.cells.proofs.Bits.{tb_zero}
use Rattle.station_meaning.specs.Meant.{within}

-- what stands behind the 32 names nothing
abbrev pub named : List ℕ → ℕ → Bool
named sets a = cond (ltb (a / 8) 32) (tb (get_or sets (a / 8) 0) (a % 8)) false

-- cells of the same bytes, 0 behind them, are the same set
pub named_is : (D : ℕ → ℕ) (sets : List ℕ) → ((j : ℕ) → j < 32 → D j ≡ get_or sets j 0) → ((j : ℕ) → 32 ≤ j → D j ≡ 0)
    → ◌≡◌ {A = ℕ → Bool} (within D) (named sets)
named_is D sets f g =
    fun_ext
    (λ a.
    by_b (ltb (a / 8) 32)
    (λ e. rw (e, f (a / 8) (ltb_yes (a / 8) 32 e)))
    (λ e. rw (e, g (a / 8) (ltb_no (a / 8) 32 e)) (tb_zero (a % 8))))
