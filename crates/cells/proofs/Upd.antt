-- Functions with an update: by cases, and after a loop of updates.
use Rattle.std.specs.Prelude.{◌≡◌, refl, Bool, true, false, cond, ◌≢◌, ℕ, zero, suc, ◌<◌, eqb, ltb}
use Rattle.std.proofs.Common.{sym, subst, ap, ◌∙◌, ⊎_elim, eq-or-lt_of_le, le_of_suc-le-suc, arith, lt-ltb, le-ltb, ne_eqb}
use Rattle.std.proofs.Math.Path.{fun_ext}
use Rattle.sets.specs.Base.{upd, upd2}
use Rattle.sets.specs.Laws.{by_b, by_eq}
use Rattle.sets.proofs.Laws.{eqb_same, eqb_yes, eqb_no, ltb_yes, ltb_no}
use Rattle.cells.specs.Upd.{Below, bulk, bulk2}

pub eqb_diff : (i j : ℕ) → i ≢ j → eqb i j ≡ false
eqb_diff i j n = ne_eqb i j n

pub ltb_suc : (j n : ℕ) → j ≢ n → ltb j (suc n) ≡ ltb j n
ltb_suc j n h = by_b (ltb j n) (λ e. lt-ltb j (suc n) (omega (arith, ltb_yes j n e)) ∙ sym e) (λ e. le-ltb j (suc n) (omega (arith, ltb_no j n e)) ∙ sym e)

pub upd_same : {A : Type 0} (f : ℕ → A) (i : ℕ) (v : A) → upd f i v i ≡ v
upd_same f i v = rw (eqb_same i)

pub upd_other : {A : Type 0} (f : ℕ → A) (i : ℕ) (v : A) (j : ℕ) → j ≢ i → upd f i v j ≡ f j
upd_other f i v j n = rw (eqb_diff j i n)

pub below_at : (P : ℕ → Type 0) (n : ℕ) → Below P n → (k : ℕ) → k < n → P k
below_at P zero h k l = absurd (omega arith)
below_at P (suc n) h k l = ⊎_elim (λ e. subst P (sym e) h.1) (λ q. below_at P n h.0 k q) (eq-or-lt_of_le (le_of_suc-le-suc l))

pub bulk_none : {A : Type 0} (f : ℕ → A) (t : ℕ → Bool) (g : ℕ → A) → f ≡ bulk f t g 0
bulk_none f t g = fun_ext (λ q. rw (le-ltb q 0 (omega arith)))

-- one round more, of any F that is made of the function
pub bulk_more : {A B : Type 0} (F : (ℕ → A) → B) (f : ℕ → A) (t : ℕ → Bool) (g : ℕ → A) (n : ℕ)
    → cond (t n) (F (upd (bulk f t g n) n (g n))) (F (bulk f t g n)) ≡ F (bulk f t g (suc n))
bulk_more F f t g n = go (t n) refl
  where
    go : (b : Bool) → t n ≡ b → cond b (F (upd (bulk f t g n) n (g n))) (F (bulk f t g n)) ≡ F (bulk f t g (suc n))
    go true h = ap F (fun_ext (λ q. by_eq q n (λ e. rw (e, eqb_yes q n e, lt-ltb n (suc n) (omega arith), h)) (λ e. rw (e, ltb_suc q n (eqb_no q n e)))))
    go false h =
        ap F
        (fun_ext (λ q. by_eq q n (λ e. rw (eqb_yes q n e, le-ltb n n (omega arith), lt-ltb n (suc n) (omega arith), h)) (λ e. rw (ltb_suc q n (eqb_no q n e)))))

pub bulk2_none : {A : Type 0} (f : ℕ → ℕ → A) (i : ℕ) (t : ℕ → Bool) (g : ℕ → A) → f ≡ bulk2 f i t g 0
bulk2_none f i t g = fun_ext (λ j. fun_ext (λ q. by_eq j i (λ e. rw (e, le-ltb q 0 (omega arith))) (λ e. rw e)))

pub bulk2_more : {A B : Type 0} (F : (ℕ → ℕ → A) → B) (f : ℕ → ℕ → A) (i : ℕ) (t : ℕ → Bool) (g : ℕ → A) (n : ℕ)
    → cond (t n) (F (upd2 (bulk2 f i t g n) i n (g n))) (F (bulk2 f i t g n)) ≡ F (bulk2 f i t g (suc n))
bulk2_more F f i t g n = go (t n) refl
  where
    row : (j q : ℕ) → cond (t n) (upd (bulk (f j) t g n) n (g n) q) (bulk (f j) t g n q) ≡ bulk (f j) t g (suc n) q
    row j q = bulk_more (λ x. x q) (f j) t g n

    go : (b : Bool) → t n ≡ b → cond b (F (upd2 (bulk2 f i t g n) i n (g n))) (F (bulk2 f i t g n)) ≡ F (bulk2 f i t g (suc n))
    go true h = ap F (fun_ext (λ j. fun_ext (λ q. by_eq j i (λ e. rw e (rw h at (row j q))) (λ e. rw e))))
    go false h = ap F (fun_ext (λ j. fun_ext (λ q. by_eq j i (λ e. rw e (rw h at (row j q))) (λ e. rw e))))
