-- Validating station: a page arrives (16), a commit is told (21). Over plain values.
use Rattle.std.specs.Prelude.{◌≡◌, refl, Bool, true, false, ◌&&◌, cond, List, ◌∷◌, ℕ, ◌%◌, ◌≤◌, eqb}
use Rattle.std.proofs.Common.{sym, ap, ◌∙◌, arith}
use Rattle.std.proofs.lemmas.Bool.{false≢true}
use Rattle.sets.specs.Base.{upd, Val, none, some, has, val_or, none_at, zeros, any}
use Rattle.sets.specs.Laws.{by_eq}
use Rattle.sets.proofs.Laws.{eqb_yes, any_no}
use Rattle.line.specs.Messages.{page_of, address, Up, Lock, Down, Page, Committed, Rec}
use Rattle.line.specs.Server.{Waiter}
use Rattle.truth.specs.Clauses.{Hist, Validated}

-- an address is one of its page's eight
on_page_lem : (a : ℕ) → address (page_of a) (a % 8) ≡ a
on_page_lem a = omega arith

pub page_no : (f : ℕ → Bool) (a : ℕ) → any 8 (λ o. f (address (page_of a) o)) ≡ false → f a ≡ false
page_no f a e = ap f (sym (on_page_lem a)) ∙ any_no 8 (λ o. f (address (page_of a) o)) e (a % 8) (omega arith)

module _ {A : List Rec} {last : ℕ} {cached : ℕ → Bool} {cver copy : ℕ → ℕ} {rd wr : ℕ → Val} {seen : ℕ → ℕ} {q : Waiter} {U : List Up} {D : List Down} where
  -- 16, whether or not the page is cached: what was read keeps its own version
  pub page_came : (l : Lock) (a t : ℕ) (v : ℕ → ℕ) (u : ℕ → Bool) (x : ℕ → ℕ) → Validated A last cached cver copy rd wr seen q U (Page l a t v u x ∷ D)
      → Validated A last (upd cached (page_of a) true) (λ b. cond (eqb (page_of b) (page_of a)) (v b) (cver b)) (λ b. cond (eqb (page_of b) (page_of a)) (val_or (wr b) (x b)) (copy b)) rd wr seen q U D
  page_came l a t v u x h =
      record {
        V1_last = λ b d. by_eq (page_of b) (page_of a) (λ e. rw e (h.V2.0 b (eqb_yes (page_of b) (page_of a) e)).0) (λ e. rw e (h.V1_last b (rw e at d)));
        V1 = λ b d n.
            by_eq (page_of b) (page_of a)
            (λ e. rw e (unwritten (wr b) (x b) n ∙ (h.V2.0 b (eqb_yes (page_of b) (page_of a) e)).1))
            (λ e. let d' : cached (page_of b) ≡ true = rw e at d in rw e (h.V1 b d' n));
        V2 = h.V2.1;
        V3_up = h.V3_up;
        V3_waiter = h.V3_waiter;
        V5 = h.V5;
      }
    where
      unwritten : (z : Val) (y : ℕ) → has z ≡ false → val_or z y ≡ y
      unwritten none y e = refl
      unwritten (some v) y e = absurd (false≢true (sym e))

  -- 21: written objects take the number as their version, and the transaction ends. `own`: the copy has what the record wrote
  pub number_came : (t n : ℕ) → Validated A last cached cver copy rd wr seen q U (Committed t n ∷ D) → n ≤ last
      → ((a v : ℕ) → wr a ≡ some v → cached (page_of a) ≡ true → copy a ≡ Hist A n a)
      → Validated A last cached (λ a. cond (cached (page_of a) && has (wr a)) n (cver a)) copy none_at none_at zeros q U D
  number_came t n h b own =
      record {
        V1_last = λ a c. last_at a c (wr a);
        V1 = λ a c z. value_at_lem a c (wr a) refl;
        V2 = h.V2.1;
        V3_up = h.V3_up;
        V3_waiter = h.V3_waiter;
        V5 = λ a v r. absurd (false≢true (ap has r));
      }
    where
      last_at : (a : ℕ) → cached (page_of a) ≡ true → (y : Val) → cond (cached (page_of a) && has y) n (cver a) ≤ last
      last_at a c none = rw c (h.V1_last a c)
      last_at a c (some v) = rw c b

      value_at_lem : (a : ℕ) → cached (page_of a) ≡ true → (y : Val) → wr a ≡ y → copy a ≡ Hist A (cond (cached (page_of a) && has y) n (cver a)) a
      value_at_lem a c none e = rw c (h.V1 a c (ap has e))
      value_at_lem a c (some v) e = rw c (own a v e c)
