-- Several runs of stores, t places apart: what is appended to each, and what they are when they are full.
use Rattle.std.specs.Prelude.{ℕ, zero, suc, ◌+◌, ◌*◌, ◌≤◌, ◌<◌, ◌≡◌, refl, List, [], ◌∷◌, ◌++◌, length, set}
use Rattle.std.proofs.Common.{ap, ◌∙◌, suc-mul, arith}
use Rattle.std.proofs.lemmas.List.Edits.{sets}
use Rattle.std.proofs.lemmas.List.{set_comm}
use Rattle.lists.specs.Stores.{sets_join}
use Rattle.block.specs.Block.{joined}

-- f 0 stored from p, f 1 from p + t, f 2 from p + t + t, .. n of them
unfoldable pub stripes : ℕ → List ℕ → ℕ → ℕ → (ℕ → List ℕ) → List ℕ
stripes zero o p t f = o
stripes (suc n) o p t f = stripes n (sets o p (f 0)) (p + t) t (λ k. f (suc k))

pub no_stripes : (o : List ℕ) (p t : ℕ) (f : ℕ → List ℕ) → o ≡ stripes 0 o p t f
unfolding stripes
no_stripes o p t f = refl

-- the last of them behind the others
pub stripes_last : (n : ℕ) (o : List ℕ) (p t : ℕ) (f : ℕ → List ℕ) → sets (stripes n o p t f) (p + n * t) (f n) ≡ stripes (suc n) o p t f
unfolding stripes
stripes_last zero o p t f = let e : p + 0 * t ≡ p = omega arith in rw e refl
stripes_last (suc n) o p t f =
    let e : p + suc n * t ≡ p + t + n * t = rw (suc-mul n t) (omega arith) in
    rw e (stripes_last n (sets o p (f 0)) (p + t) t (λ k. f (suc k)))

-- a store before a run can be made first
set_first : (x o : List ℕ) (p j v : ℕ) → j < p → set (sets o p x) j v ≡ sets (set o j v) p x
set_first [] o p j v h = refl
set_first (y ∷ x) o p j v h = set_first x (set o p y) (suc p) j v (omega arith) ∙ ap (λ (l : List ℕ). sets l (suc p) x) (set_comm o p j y v (λ e. omega arith))

-- .. and so can a run that ends before it
pub sets_first : (y x o : List ℕ) (p j : ℕ) → j + length y ≤ p → sets (sets o p x) j y ≡ sets (sets o j y) p x
sets_first [] x o p j h = refl
sets_first (v ∷ y) x o p j h =
    ap (λ (l : List ℕ). sets l (suc j) y) (set_first x o p j v (omega arith)) ∙ sets_first y x (set o j v) p (suc j) (omega arith)

stripes_first : (n : ℕ) (y o : List ℕ) (p j t : ℕ) (f : ℕ → List ℕ) → j + length y ≤ p → sets (stripes n o p t f) j y ≡ stripes n (sets o j y) p t f
unfolding stripes
stripes_first zero y o p j t f h = refl
stripes_first (suc n) y o p j t f h =
    stripes_first n y (sets o p (f 0)) (p + t) j t (λ k. f (suc k)) (omega arith)
    ∙ ap (λ (l : List ℕ). stripes n l (p + t) t (λ k. f (suc k))) (sets_first y (f 0) o p j h)

-- what is appended to each of them
pub stripes_join : (n : ℕ) (o : List ℕ) (p q t m : ℕ) (f g : ℕ → List ℕ) → q ≡ p + m → ((k : ℕ) → length (f k) ≡ m) → ((k : ℕ) → m + length (g k) ≤ t)
    → stripes n (stripes n o p t f) q t g ≡ stripes n o p t (λ k. f k ++ g k)
unfolding stripes
stripes_join zero o p q t m f g eq hf hg = refl
stripes_join (suc n) o p q t m f g eq hf hg =
    ap (λ (l : List ℕ). stripes n l (q + t) t (λ k. g (suc k)))
    (stripes_first n (g 0) (sets o p (f 0)) (p + t) q t (λ k. f (suc k)) (omega (arith, hg 0))
    ∙ ap (λ (l : List ℕ). stripes n l (p + t) t (λ k. f (suc k))) (sets_join (f 0) (g 0) o p q (omega (arith, hf 0))))
    ∙ stripes_join n (sets o p (f 0 ++ g 0)) (p + t) (q + t) t m (λ k. f (suc k)) (λ k. g (suc k)) (omega arith) (λ k. hf (suc k)) (λ k. hg (suc k))

-- full ones are one run
pub stripes_full : (n : ℕ) (o : List ℕ) (p t : ℕ) (f : ℕ → List ℕ) → ((k : ℕ) → length (f k) ≡ t) → stripes n o p t f ≡ sets o p (joined f n)
unfolding stripes
stripes_full zero o p t f h = refl
stripes_full (suc n) o p t f h =
    stripes_full n (sets o p (f 0)) (p + t) t (λ k. f (suc k)) (λ k. h (suc k))
    ∙ sets_join (f 0) (joined (λ k. f (suc k)) n) o p (p + t) (omega (arith, h 0))
