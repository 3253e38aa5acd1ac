-- What the tests on indices mean.
use Rattle.std.specs.Prelude.{◌≡◌, refl, Bool, true, false, not, ◌&&◌, ◌||◌, cond, ◌≢◌, ℕ, zero, suc, ◌+◌, ◌≤◌, ◌<◌, eqb, ltb, T}
use Rattle.std.proofs.Common.{sym, ap, subst, ◌∙◌, arith, eqb→eq, ltb→lt, nltb→le}
use Rattle.std.proofs.lemmas.Bool.{false≢true}
use Rattle.std.proofs.Math.Dec.{eqb_refl}
use Rattle.sets.specs.Base.{any, table, at, memo}
use Rattle.sets.specs.Laws.{by_b, by_eq}

T_eq : (b : Bool) → T b → b ≡ true
T_eq true t = refl
T_eq false t = absurd t

pub eqb_same : (i : ℕ) → eqb i i ≡ true
eqb_same i = T_eq (eqb i i) (eqb_refl i)

pub eqb_yes : (i j : ℕ) → eqb i j ≡ true → i ≡ j
eqb_yes i j e = eqb→eq i j (rw e tt)

pub eqb_no : (i j : ℕ) → eqb i j ≡ false → i ≢ j
eqb_no i j e p = let q : eqb i j ≡ true = rw p (eqb_same j) in let z : true ≡ false = sym q ∙ e in absurd (subst T z tt)

pub ltb_yes : (i j : ℕ) → ltb i j ≡ true → i < j
ltb_yes i j e = ltb→lt i j (rw e tt)

pub ltb_no : (i j : ℕ) → ltb i j ≡ false → j ≤ i
ltb_no i j e = nltb→le i j (rw e tt)

-- both, one, and not
pub and_l : (a b : Bool) → (a && b) ≡ true → a ≡ true
and_l true b e = refl
and_l false b e = e

pub and_r : (a b : Bool) → (a && b) ≡ true → b ≡ true
and_r true b e = e
and_r false b e = absurd (false≢true e)

pub and_both : (a b : Bool) → a ≡ true → b ≡ true → (a && b) ≡ true
and_both a b s t = rw (s, t) refl

pub or_no : (a b : Bool) → (a || b) ≡ false → (a ≡ false) × (b ≡ false)
or_no true b e = absurd (false≢true (sym e))
or_no false b e = (refl, e)

pub not_yes : (b : Bool) → not b ≡ true → b ≡ false
not_yes true e = absurd (false≢true e)
not_yes false e = refl

pub not_no : (b : Bool) → not b ≡ false → b ≡ true
not_no true e = refl
not_no false e = absurd (false≢true (sym e))

-- no number below n passes
pub any_no : (n : ℕ) (f : ℕ → Bool) → any n f ≡ false → (i : ℕ) → i < n → f i ≡ false
any_no zero f e i h = absurd (omega arith)
any_no (suc n) f e i h =
    let rest : any n f ≡ false → i < n → f i ≡ false = λ x y. any_no n f x i y in
    by_b (f n)
    (λ t. absurd (false≢true (sym (rw (t, any) at e))))
    (λ t. by_eq i n (λ q. rw (eqb_yes i n q) t) (λ q. rest (rw (t, any) at e) (omega (arith, eqb_no i n q))))

-- one that passes makes the whole pass
pub any_yes : (n : ℕ) (f : ℕ → Bool) (i : ℕ) → i < n → f i ≡ true → any n f ≡ true
any_yes zero f i h e = absurd (omega arith)
any_yes (suc n) f i h e =
    let rest : i < n → any n f ≡ true = λ y. any_yes n f i y e in
    by_b (f n) (λ t. rw (t, any)) (λ t. rw (t, any) (by_eq i n (λ q. absurd (false≢true (sym t ∙ (rw (← eqb_yes i n q) e)))) (λ q. rest (omega (arith, eqb_no i n q)))))

any_suc : (n : ℕ) (f : ℕ → Bool) → any (suc n) f ≡ cond (f n) true (any n f)
any_suc n f = by_b (f n) (λ t. rw (t, any)) (λ t. rw (t, any))

-- equal tests
pub any_ext : (n : ℕ) (f g : ℕ → Bool) → ((i : ℕ) → f i ≡ g i) → any n f ≡ any n g
any_ext zero f g h = refl
any_ext (suc n) f g h = any_suc n f ∙ rw (h n, any_ext n f g h) (sym (any_suc n g))

-- if the whole passes, one does
pub any_some : (n : ℕ) (f : ℕ → Bool) → any n f ≡ true → (i : ℕ) × (i < n) × (f i ≡ true)
any_some zero f e = absurd (false≢true e)
any_some (suc n) f e =
    let rest : any n f ≡ true → (i : ℕ) × (i < n) × (f i ≡ true) = any_some n f in
    by_b (f n) (λ t. (n, omega arith, t)) (λ t. let r = rest (rw (t, any) at e) in (r.0, omega (arith, r.1), r.2))

-- a table is its function, where it has entries
table_at : {A : Type 0} (n k : ℕ) (f : ℕ → A) (i : ℕ) (d : A) → i < n → at (table n k f) i d ≡ f (k + i)
table_at zero k f i d h = absurd (omega arith)
table_at (suc n) k f zero d h = ap f (omega arith)
table_at (suc n) k f (suc i) d h = table_at n (suc k) f i d (omega arith) ∙ ap f (omega arith)

pub memo_is : {A : Type 0} (n : ℕ) (d : A) (f : ℕ → A) (i : ℕ) → i < n → memo n d f i ≡ f i
memo_is n d f i h = table_at n 0 f i d h ∙ ap f (omega arith)
