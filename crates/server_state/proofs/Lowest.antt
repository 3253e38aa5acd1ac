-- The lowest member of a set, taken from it as a wider word.
use Rattle.std.specs.Prelude.{ℕ, zero, suc, ◌/◌, ◌%◌, ◌^◌, ◌≤◌, ◌<◌, ◌≡◌, ◌≢◌, refl}
use Rattle.std.proofs.Common.{ap, arith}
use Rattle.std.specs.Int.Count.{under, count_trailing_zeros}

low_by : (x d m n : ℕ) → x % 2 ≡ d → x ≢ 0 → (x / 2 ≢ 0 → m ≡ n) → under d m ≡ under d n
low_by x zero m n e z h = ap (under 0) (h (λ y. z (omega (arith, e, y))))
low_by x (suc d) m n e z h = refl

pub low_wide : (w n x : ℕ) → n ≤ w → x < 2 ^ n → x ≢ 0 → count_trailing_zeros w x ≡ count_trailing_zeros n x
unfolding count_trailing_zeros
low_wide w zero x h l z = absurd (z (omega arith))
low_wide zero (suc n) x h l z = absurd (omega arith)
low_wide (suc w) (suc n) x h l z = low_by x (x % 2) _ _ refl z (λ y. low_wide w n (x / 2) (omega arith) (omega arith) y)
