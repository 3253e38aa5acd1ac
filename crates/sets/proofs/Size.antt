-- How many members a set has below n.
use Rattle.std.specs.Prelude.{◌≡◌, refl, Bool, true, false, ◌||◌, cond, ℕ, zero, suc, ◌+◌, ◌≤◌, ◌<◌, eqb}
use Rattle.std.proofs.Math.Bool.{or-false}
use Rattle.std.proofs.Common.{add-zero, add-suc, arith}
use Rattle.sets.specs.Laws.{by_b, by_eq}
use Rattle.sets.proofs.Laws.{eqb_same, eqb_yes, eqb_no}
use Rattle.sets.specs.Size.{size}

-- sets that agree
pub size_same : (n : ℕ) (f g : ℕ → Bool) → ((i : ℕ) → i < n → f i ≡ g i) → size n f ≡ size n g
unfolding size
size_same zero f g h = refl
size_same (suc n) f g h = rw (size_same n f g (λ i l. h i (omega arith)), h n (omega arith))

-- the first m, and the n behind them
pub size_join : (m n : ℕ) (f : ℕ → Bool) → size (m + n) f ≡ size m f + size n (λ i. f (m + i))
unfolding size
size_join m zero f = rw (add-zero m) (omega arith)
size_join m (suc n) f = rw (add-suc m n, size_join m n f) (omega arith)

pub size_first : (n : ℕ) (f : ℕ → Bool) → size (suc n) f ≡ cond (f 0) 1 0 + size n (λ i. f (suc i))
unfolding size
size_first zero f = refl
size_first (suc n) f = omega (arith, size_first n f)

-- nothing in it
pub size_empty : (n : ℕ) (f : ℕ → Bool) → ((i : ℕ) → f i ≡ false) → size n f ≡ 0
unfolding size
size_empty zero f h = refl
size_empty (suc n) f h = rw (size_empty n f h, h n)

-- at most n
pub size_most : (n : ℕ) (f : ℕ → Bool) → size n f ≤ n
unfolding size
size_most zero f = omega arith
size_most (suc n) f = let rest = size_most n f in by_b (f n) (λ t. rw t (omega arith)) (λ t. rw t (omega arith))

-- none, if there are none
pub size_none : (n : ℕ) (f : ℕ → Bool) → size n f ≤ 0 → (i : ℕ) → i < n → f i ≡ false
unfolding size
size_none zero f h i b = absurd (omega arith)
size_none (suc n) f h i b =
    let rest : size n f ≤ 0 → i < n → f i ≡ false = λ k. size_none n f k i in
    by_b (f n) (λ t. absurd (omega (arith, rw t at h)))
    (λ t. by_eq i n (λ q. rw (eqb_yes i n q) t) (λ q. rest (omega (arith, rw t at h)) (omega (arith, eqb_no i n q))))

-- a part is not more
pub size_part : (n : ℕ) (f g : ℕ → Bool) → ((i : ℕ) → i < n → f i ≡ true → g i ≡ true) → size n f ≤ size n g
unfolding size
size_part zero f g h = omega arith
size_part (suc n) f g h =
    let rest : size n f ≤ size n g = size_part n f g (λ i b. h i (omega arith)) in
    by_b (f n) (λ t. rw (t, h n (omega arith) t) (omega arith)) (λ t. rw t (omega arith))

-- and less, if it lacks one
pub size_less : (n : ℕ) (f g : ℕ → Bool) (j : ℕ) → ((i : ℕ) → i < n → f i ≡ true → g i ≡ true) → j < n → f j ≡ false → g j ≡ true → size n f + 1 ≤ size n g
unfolding size
size_less zero f g j h b u v = absurd (omega arith)
size_less (suc n) f g j h b u v =
    let part : size n f ≤ size n g = size_part n f g (λ i c. h i (omega arith)) in
    let rest : j < n → size n f + 1 ≤ size n g = λ c. size_less n f g j (λ i d. h i (omega arith)) c u v in
    by_eq j n
    (λ q. let e : f n ≡ false = rw (eqb_yes j n q) at u in let k : g n ≡ true = rw (eqb_yes j n q) at v in rw (e, k) (omega arith))
    (λ q.
    let less = rest (omega (arith, eqb_no j n q)) in
    by_b (f n) (λ t. rw (t, h n (omega arith) t) (omega arith)) (λ t. rw t (omega arith)))

-- with one member more it is at most one more
pub size_joined : (n : ℕ) (f : ℕ → Bool) (a : ℕ) → size n (λ i. f i || eqb i a) ≤ size n f + 1
unfolding size
size_joined zero f a = omega arith
size_joined (suc n) f a =
    by_eq n a
    (λ q.
    let rest : size n (λ i. f i || eqb i a) ≡ size n f =
    size_same n (λ i. f i || eqb i a) f (λ i l. by_eq i a (λ k. absurd (omega (arith, eqb_yes i a k, eqb_yes n a q))) (λ k. rw (k, or-false))) in
    by_b (f n) (λ t. rw (q, t) (omega arith)) (λ t. rw (q, t) (omega arith)))
    (λ q. let rest = size_joined n f a in by_b (f n) (λ t. rw (q, t) (omega arith)) (λ t. rw (q, t) (omega arith)))

-- and just one more, if it was none
pub size_new : (n : ℕ) (f : ℕ → Bool) (a : ℕ) → a < n → f a ≡ false → size n (λ i. f i || eqb i a) ≡ size n f + 1
size_new n f a l e =
    let most = size_joined n f a in
    let least : size n f + 1 ≤ size n (λ i. f i || eqb i a) = size_less n f (λ i. f i || eqb i a) a (λ i k t. rw t) l e (rw (e, eqb_same a)) in
    omega (arith, most, least)

-- a member stays one
pub size_old : (n : ℕ) (f : ℕ → Bool) (a : ℕ) → f a ≡ true → size n (λ i. f i || eqb i a) ≡ size n f
size_old n f a e = size_same n (λ i. f i || eqb i a) f (λ i l. by_eq i a (λ q. rw (q, eqb_yes i a q, e)) (λ q. rw (q, or-false)))
