-- Sums over the lines, and over all but one of them.
use Rattle.std.specs.Prelude.{ℕ, zero, suc, ◌+◌, ◌*◌, ◌≤◌, ◌<◌, ◌≡◌, refl, cond, ◌≢◌, eqb}
use Rattle.std.proofs.Common.{arith, ne_eqb}
use Rattle.sets.specs.Laws.{by_eq}
use Rattle.sets.proofs.Laws.{eqb_yes, eqb_no}

unfoldable pub sum_to : (ℕ → ℕ) → ℕ → ℕ
sum_to f zero = 0
sum_to f (suc n) = sum_to f n + f n

-- all but line i
abbrev pub but : ℕ → (ℕ → ℕ) → ℕ → ℕ
but i f j = cond (eqb j i) 0 (f j)

pub sum_same : (f h : ℕ → ℕ) (n : ℕ) → ((j : ℕ) → j < n → f j ≡ h j) → sum_to f n ≡ sum_to h n
unfolding sum_to
sum_same f h zero e = refl
sum_same f h (suc n) e = let r = sum_same f h n (λ j l. e j (omega arith)) in let x = e n (omega arith) in omega (arith, r, x)

-- one less at k is one less in all
pub sum_less : (f h : ℕ → ℕ) (n k : ℕ) → k < n → f k ≡ h k + 1 → ((j : ℕ) → j < n → j ≢ k → f j ≡ h j) → sum_to f n ≡ sum_to h n + 1
unfolding sum_to
sum_less f h zero k l e same = absurd (omega arith)
sum_less f h (suc n) k l e same =
    by_eq n k
    (λ q.
    let at : n ≡ k = eqb_yes n k q in
    let here : f n ≡ h n + 1 = rw at e in
    let r : sum_to f n ≡ sum_to h n = sum_same f h n (λ j b. same j (omega arith) (λ x. omega arith)) in
    omega (arith, r, here))
    (λ q.
    let off : n ≢ k = eqb_no n k q in
    let r = sum_less f h n k (omega (arith, off)) e (λ j b x. same j (omega arith) x) in
    let x = same n (omega arith) off in
    omega (arith, r, x))

-- each at most 4
pub sum_most : (f : ℕ → ℕ) (n : ℕ) → ((j : ℕ) → j < n → f j ≤ 4) → sum_to f n ≤ 4 * n
unfolding sum_to
sum_most f zero b = omega arith
sum_most f (suc n) b = let r = sum_most f n (λ j l. b j (omega arith)) in let x = b n (omega arith) in omega (arith, r, x)

-- and one of them 0
pub sum_but : (f : ℕ → ℕ) (n i : ℕ) → i < n → ((j : ℕ) → j < n → f j ≤ 4) → sum_to (but i f) n + 4 ≤ 4 * n
unfolding sum_to
sum_but f zero i l b = absurd (omega arith)
sum_but f (suc n) i l b =
    by_eq n i
    (λ q.
    let at : n ≡ i = eqb_yes n i q in
    let rest = sum_most (but i f) n (λ j x. let y : but i f j ≡ f j = rw (ne_eqb j i (λ z. omega arith)) refl in omega (arith, y, b j (omega arith))) in
    rw q (omega (arith, rest)))
    (λ q.
    let off : n ≢ i = eqb_no n i q in
    let rest = sum_but f n i (omega (arith, off)) (λ j x. b j (omega arith)) in
    rw q (omega (arith, rest, b n (omega arith))))
