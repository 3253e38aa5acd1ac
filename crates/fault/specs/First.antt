-- The first number at which a test fails.
use Rattle.std.specs.Prelude.{ℕ, zero, suc, ◌<◌, ◌≡◌, refl, Bool, true, false, ◌&&◌, cond}
use Rattle.std.proofs.Common.{sym, ◌∙◌, ⊎_elim, eq-or-lt_of_le, le_of_suc-le-suc, arith}
use Rattle.lists.specs.Tests.{all_to, all_to_at}

-- the first of 0, 1, .. n - 1 at which f fails, where it fails at one
unfoldable pub first : (ℕ → Bool) → ℕ → ℕ
first f zero = 0
first f (suc n) = cond (all_to f n) n (first f n)

-- it is the first
pub record IsFirst (f : ℕ → Bool) (n i : ℕ) : Type 0 where
  pub below : i < n
  pub fails : f i ≡ false
  pub before : (k : ℕ) → k < i → f k ≡ true

pub first_is : (f : ℕ → Bool) (n : ℕ) → all_to f n ≡ false → IsFirst f n (first f n)
unfolding all_to first
first_is f zero h = let z : ◌≡◌ {A = ℕ} 0 1 = cc in absurd (omega arith)
first_is f (suc n) h = by_test (all_to f n) refl (first_is f n) h
  where
    by_test : (b : Bool) → all_to f n ≡ b → (all_to f n ≡ false → IsFirst f n (first f n)) → b && f n ≡ false → IsFirst f (suc n) (cond b n (first f n))
    by_test true e rest hb = record { below = omega arith; fails = hb; before = all_to_at f n e }
    by_test false e rest hb =
        let r = rest e in
        let l = r.below in
        record { below = omega arith; fails = r.fails; before = r.before }

pub all_to_fails : (f : ℕ → Bool) (n i : ℕ) → i < n → f i ≡ false → all_to f n ≡ false
all_to_fails f n i l h = by_test (all_to f n) refl
  where
    by_test : (b : Bool) → all_to f n ≡ b → b ≡ false
    by_test true e = sym (all_to_at f n e i l) ∙ h
    by_test false e = refl

-- a search from 0 on finds it
pub first_found : (f : ℕ → Bool) (n i : ℕ) → i < n → all_to f i ≡ true → f i ≡ false → first f n ≡ i
unfolding first
first_found f zero i l ha hf = absurd (omega arith)
first_found f (suc n) i l ha hf = ⊎_elim here (earlier (λ lt. first_found f n i lt ha hf)) (eq-or-lt_of_le (le_of_suc-le-suc l))
  where
    here : i ≡ n → cond (all_to f n) n (first f n) ≡ i
    here e = let all : all_to f n ≡ true = rw e at ha in rw all (sym e)

    earlier : (i < n → first f n ≡ i) → i < n → cond (all_to f n) n (first f n) ≡ i
    earlier rest lt = rw (all_to_fails f n i lt hf) (rest lt)
