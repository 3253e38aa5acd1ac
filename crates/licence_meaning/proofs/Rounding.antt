-- Fees: rounded to the nearest cent, opposite for opposite sums, and never less for more frames.
use Rattle.std.specs.Prelude.{ℕ, zero, suc, ◌+◌, ◌-◌, ◌≤◌, ◌≡◌, refl, List, ℤ, pos, negsuc, neg_ℤ, ◌≤ℤ◌}
use Rattle.std.proofs.Common.{arith, le→leb, leb→le}
use Rattle.std.specs.Int.Signed.{le_z_yes}
use Rattle.signed.specs.Change.{with_sign}
use Rattle.licence_terms.specs.Tariff.{Step, cost_of, cents, fee_for}
use Rattle.licence_meaning.specs.Rounding.{Nearest}

pub nearest_cent : (x : ℕ) → Nearest x (cents x)
nearest_cent x = record { not_above = omega arith; not_below = omega arith }

-- fees of a sum and of its opposite are opposite
pub opposite_fee : (ss : List Step) (s : ℤ) → fee_for ss (neg_ℤ s) ≡ neg_ℤ (fee_for ss s)
unfolding fee_for with_sign cost_of
opposite_fee ss (pos zero) = refl
opposite_fee ss (pos (suc n)) = refl
opposite_fee ss (negsuc n) = minus_minus (cents (cost_of ss (suc n)))
  where
    minus_minus : (c : ℕ) → pos c ≡ neg_ℤ (neg_ℤ (pos c))
    minus_minus zero = refl
    minus_minus (suc c) = refl

-- more frames cost no less
cost_more : (ss : List Step) (m k : ℕ) → cost_of ss m ≤ cost_of ss (m + k)
unfolding cost_of
cost_more ss m zero = let e : m + 0 ≡ m = omega arith in rw e (omega arith)
cost_more ss m (suc k) = let e : m + suc k ≡ suc (m + k) = omega arith in let rest = cost_more ss m k in rw e (omega arith)

pub cost_rises : (ss : List Step) (m n : ℕ) → m ≤ n → cost_of ss m ≤ cost_of ss n
cost_rises ss m n h = let e : m + (n - m) ≡ n = omega arith in rw e at (cost_more ss m (n - m))

cents_rise : (ss : List Step) (m n : ℕ) → m ≤ n → cents (cost_of ss m) ≤ cents (cost_of ss n)
cents_rise ss m n h = let r = cost_rises ss m n h in omega arith

minus_le : (c d : ℕ) → c ≤ d → neg_ℤ (pos d) ≤ℤ neg_ℤ (pos c)
minus_le zero zero h = le_z_yes (le→leb 0 0 (omega arith))
minus_le zero (suc d) h = le_z_yes tt
minus_le (suc c) zero h = absurd (omega arith)
minus_le (suc c) (suc d) h = le_z_yes (le→leb c d (omega arith))

minus_below : (c d : ℕ) → neg_ℤ (pos c) ≤ℤ pos d
minus_below zero d = le_z_yes (le→leb 0 d (omega arith))
minus_below (suc c) d = le_z_yes tt

-- "a fee is monotone in the frames"
pub fee_rises : (ss : List Step) (s u : ℤ) → s ≤ℤ u → fee_for ss s ≤ℤ fee_for ss u
unfolding fee_for with_sign
fee_rises ss (pos m) (pos n) h = le_z_yes (le→leb _ _ (cents_rise ss m n (leb→le m n h.le)))
fee_rises ss (pos m) (negsuc n) h = absurd h.le
fee_rises ss (negsuc m) (pos n) h = minus_below (cents (cost_of ss (suc m))) (cents (cost_of ss n))
fee_rises ss (negsuc m) (negsuc n) h =
    let l : n ≤ m = leb→le n m h.le in
    minus_le (cents (cost_of ss (suc n))) (cents (cost_of ss (suc m))) (cents_rise ss (suc n) (suc m) (omega arith))
