-- A test of every index below a number, and what it tells when it passes.
use Rattle.std.specs.Prelude.{ℕ, zero, suc, ◌<◌, ◌≡◌, refl, Bool, true, false, ◌&&◌}
use Rattle.std.proofs.Common.{ap, ◌∙◌, ⊎_elim, eq-or-lt_of_le, le_of_suc-le-suc, not-suc-le-zero, le_refl}
use Rattle.std.proofs.Math.Nat.{le_step}

-- f holds of 0, 1, .. n - 1
unfoldable pub all_to : (ℕ → Bool) → ℕ → Bool
all_to f zero = true
all_to f (suc n) = all_to f n && f n

pub and_l : (a b : Bool) → a && b ≡ true → a ≡ true
and_l true b e = refl
and_l false b e = e

pub and_r : (a b : Bool) → a && b ≡ true → b ≡ true
and_r true b e = e
and_r false true e = refl
and_r false false e = e

pub and_both : {a b : Bool} → a ≡ true → b ≡ true → a && b ≡ true
and_both ea eb = rw (ea, eb)

-- what a test of all tells of each
pub all_to_at : (f : ℕ → Bool) (n : ℕ) → all_to f n ≡ true → (k : ℕ) → k < n → f k ≡ true
unfolding all_to
all_to_at f zero h k l = absurd (not-suc-le-zero l)
all_to_at f (suc n) h k l =
    ⊎_elim (λ e. ap f e ∙ and_r (all_to f n) (f n) h) (λ lt. all_to_at f n (and_l (all_to f n) (f n) h) k lt) (eq-or-lt_of_le (le_of_suc-le-suc l))

-- a test that each passes is a test that all pass
pub all_to_of : (f : ℕ → Bool) (n : ℕ) → ((k : ℕ) → k < n → f k ≡ true) → all_to f n ≡ true
unfolding all_to
all_to_of f zero h = refl
all_to_of f (suc n) h = and_both (all_to_of f n (λ k l. h k (le_step l))) (h n (le_refl (suc n)))
