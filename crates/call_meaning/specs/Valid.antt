-- Number 1 of a station's state: a state that passes means a station that fits, a state that means one passes; and a fresh one.
use Prim.Native.Nat.{ℕ, zero, suc, ◌≤◌, ◌<◌}
use Rattle.std.specs.Prelude.{◌≡◌, Bool, ◌&&◌, ◌||◌, List, ltb, replicate}
use Rattle.std.proofs.Math.Path.{refl}
use Rattle.std.proofs.Math.Bool.{true, false}
use Rattle.std.proofs.Math.Dec.{eqb}
use Rattle.std.proofs.Math.ListN.{get_or}
use Rattle.sets.specs.Laws.{by_b}
use Rattle.sets.proofs.Laws.{ltb_yes, ltb_no}
use Rattle.cells.specs.Cells.{Cells}
use Rattle.line.specs.Station.{Kept, NotKept, KeptCall}
use Rattle.station_state.specs.Layout.{address, member}

-- below 256 by its bytes, from there on nothing
pub by_address : {G : ℕ → Type 0} → ((a : ℕ) → a < 256 → G a) → ((a : ℕ) → 256 ≤ a → G a) → (a : ℕ) → G a
by_address f g a = by_b (ltb a 256) (λ e. f a (ltb_yes a 256 e)) (λ e. g a (ltb_no a 256 e))

abbrev pub with_out : List ℕ → ℕ → Bool → ℕ → Bool
with_out s at out a = member s at a || (out && eqb a (address s))

abbrev pub is_kept : Kept → Bool
is_kept NotKept = false
is_kept (KeptCall t x) = true

pub zeros_at : (n j : ℕ) → ◌≡◌ {A = ℕ} (get_or (replicate n 0) j 0) 0
zeros_at zero j = refl
zeros_at (suc n) zero = refl
zeros_at (suc n) (suc j) = zeros_at n j

abbrev pub no_cells : Cells
no_cells k i j = 0
