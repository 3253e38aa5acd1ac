-- Changes at rising numbers, one behind the other: what a loop over pages or addresses leaves. Where none of a group changes anything the
-- code passes over the group.
use Rattle.std.specs.Prelude.{ℕ, zero, suc, ◌+◌, ◌<◌, ◌≡◌, refl, List}
use Rattle.std.proofs.Common.{sym, ap, ◌∙◌, arith}

-- the n changes from a on
unfoldable pub run : (List ℕ → ℕ → List ℕ) → List ℕ → ℕ → ℕ → List ℕ
run f s a zero = s
run f s a (suc n) = f (run f s a n) (a + n)

run_join : (f : List ℕ → ℕ → List ℕ) (s : List ℕ) (a m n : ℕ) → run f (run f s a m) (a + m) n ≡ run f s a (m + n)
unfolding run
run_join f s a m zero = let none : m ≡ m + 0 = omega arith in ap (run f s a) none
run_join f s a m (suc n) =
    let next : suc (m + n) ≡ m + suc n = omega arith in
    let place : a + m + n ≡ a + (m + n) = omega arith in
    ap (λ (t : List ℕ). f t (a + m + n)) (run_join f s a m n) ∙ ap (f (run f s a (m + n))) place ∙ ap (run f s a) next

-- a group behind those before it
pub run_group : (f : List ℕ → ℕ → List ℕ) (s : List ℕ) (a b m n k : ℕ) {t u : List ℕ} → t ≡ run f s a m → u ≡ run f t b n → b ≡ a + m → k ≡ m + n → u ≡ run f s a k
run_group f s a b m n k et eu eb ek = eu ∙ rw (et, eb, ek) (run_join f s a m n)

-- nothing changes
pub run_idle : (f : List ℕ → ℕ → List ℕ) (s : List ℕ) (a n : ℕ) → ((k : ℕ) → k < n → f s (a + k) ≡ s) → s ≡ run f s a n
unfolding run
run_idle f s a zero h = refl
run_idle f s a (suc n) h = sym (h n (omega arith)) ∙ ap (λ (t : List ℕ). f t (a + n)) (run_idle f s a n (λ k l. h k (omega arith)))
