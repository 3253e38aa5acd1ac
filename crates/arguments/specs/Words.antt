-- Words as bytes: digits, and whether two are the same.
use Rattle.std.specs.Prelude.{ℕ, ◌≡◌, refl, List, [], ◌∷◌, Bool, true, ◌&&◌, length, get_or, eqb, leb}
use Rattle.std.proofs.Common.{ext_get_or, eqb-true, eq-eqb}
use Rattle.lists.specs.Tests.{all_to, all_to_at, all_to_of, and_l, and_r, and_both}

-- a byte from `0` to `9`
unfoldable pub is_digit : ℕ → Bool
is_digit b = leb 48 b && leb b 57

abbrev pub all_digits : List ℕ → Bool
all_digits [] = true
all_digits (b ∷ bs) = is_digit b && all_digits bs

abbrev pub same_at : List ℕ → List ℕ → ℕ → Bool
same_at a b i = eqb (get_or a i 0) (get_or b i 0)

unfoldable pub same_word : List ℕ → List ℕ → Bool
same_word a b = eqb (length a) (length b) && all_to (same_at a b) (length a)

-- that is equality
pub same_means : (a b : List ℕ) → same_word a b ≡ true → a ≡ b
unfolding same_word
same_means a b h =
    let l = eqb (length a) (length b) in
    let e = all_to (same_at a b) (length a) in
    ext_get_or 0 a b (eqb-true _ _ (and_l l e h)) (λ i inside. eqb-true _ _ (all_to_at (same_at a b) (length a) (and_r l e h) i inside))

pub same_self : (a : List ℕ) → same_word a a ≡ true
unfolding same_word
same_self a = and_both (eq-eqb (length a) (length a) refl) (all_to_of (same_at a a) (length a) (λ k h. eq-eqb (get_or a k 0) (get_or a k 0) refl))
