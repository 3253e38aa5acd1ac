-- The server's locks and what a station has of them: what a lock given, taken back or split does. Over values only; the tokens of crate
-- truth say which addresses can be written or locked.
use Rattle.std.specs.Prelude.{◌≡◌, refl, Bool, true, false, ◌&&◌, cond, List, ◌∷◌, ◌⊎◌, ℕ, suc, ◌≤◌, ◌<◌, eqb, ltb}
use Rattle.std.proofs.Common.{sym, ap, ◌∙◌, inl, inr, arith}
use Rattle.std.proofs.lemmas.Bool.{false≢true}
use Rattle.sets.specs.Base.{upd, snoc, Val, has}
use Rattle.sets.specs.Laws.{by_b, by_eq}
use Rattle.sets.proofs.Laws.{eqb_same, eqb_yes, eqb_no, ltb_yes, ltb_no, and_l, and_r}
use Rattle.line.specs.All.{All, all_map}
use Rattle.line.specs.Messages.{page_of, locking, Up, WrittenSet, NoLock, ObjectLock, WholeLock, Down, Page, Deescalate, Callback, Committed, Aborted, Invalidate}
use Rattle.line.specs.Station.{Wait, for_read, for_write}
use Rattle.line.specs.Server.{Waiter}
use Rattle.line.specs.Truth.{count}
use Rattle.truth.specs.Clauses.{dropped, Fit, lock_wait, FitDown, Tokens}
use Rattle.truth.proofs.Frame.{count_snoc, all_snoc, all_both, count_none, none_count}
use Rattle.truth.specs.GoalsLists.{either}
use Rattle.jams.specs.Clauses.{abort_of, is_end, grants_object, grants_whole, meets, NoneUntil, Granted, Stands, Locks}
use Rattle.jams.specs.Until.{until_none, until_pop}
use Rattle.jams.specs.Locks.{meets_some}

-- what is written or is to be is below 256, and the page of a lock under way below 32
abbrev pub InRange : Down → Type 0
InRange (Page NoLock a t v u x) = Unit {0}
InRange (Page ObjectLock a t v u x) = Unit {0}
InRange (Page WholeLock a t v u x) = page_of a < 32
InRange (Deescalate p t) = Unit {0}
InRange (Callback r t set) = Unit {0}
InRange (Committed t n) = Unit {0}
InRange (Aborted t c) = Unit {0}
InRange (Invalidate d) = Unit {0}

pub record Ranged (wr : ℕ → Val) (due : ℕ → Bool) (D : List Down) : Type 0 where
  pub written : (a : ℕ) → has (wr a) ≡ true → a < 256
  pub to_write : (a : ℕ) → due a ≡ true → a < 256
  pub granted : All InRange D

module _ {skind kind num : ℕ} {opened : Bool} {rd wr : ℕ → Val} {w : Wait} {q : Waiter} {latest : ℕ} {fin : Bool} {U : List Up} {D : List Down} (k : Tokens skind kind num opened rd wr w q latest fin U D) where
  lock_range : (p t : ℕ) → Fit false t num opened (lock_wait kind w p) → p < 32
  lock_range p t f = k.range_page p (and_r (locking kind) _ (f.waits refl))

  in_range : (m : Down) → FitDown kind num opened w m → InRange m
  in_range (Page NoLock a t v u x) f = tt
  in_range (Page ObjectLock a t v u x) f = tt
  in_range (Page WholeLock a t v u x) f = lock_range (page_of a) t f
  in_range (Deescalate p t) f = tt
  in_range (Callback r t set) f = tt
  in_range (Committed t n) f = tt
  in_range (Aborted t c) f = tt
  in_range (Invalidate d) f = tt

  pub ranged : Ranged wr (for_write w) D
  ranged =
      record {
        written = λ a e. by_b (ltb a 256) (λ f. ltb_yes a 256 f) (λ f. absurd (false≢true (sym (ap has (k.range_used a (ltb_no a 256 f)).1) ∙ e)));
        to_write = λ a e. k.range_wait a (by_b (for_read w a) (λ x. rw x refl) (λ x. rw x e));
        granted = all_map (FitDown kind num opened w) InRange in_range D k.S1b_down;
      }

-- no 18 for a page that is none
far_whole : (p : ℕ) → 32 ≤ p → (m : Down) → InRange m → grants_whole p m ≡ false
far_whole p b (Page NoLock a t v u x) f = refl
far_whole p b (Page ObjectLock a t v u x) f = refl
far_whole p b (Page WholeLock a t v u x) f = by_eq p (page_of a) (λ e. absurd (omega (arith, eqb_yes p (page_of a) e))) (λ e. e)
far_whole p b (Deescalate r t) f = refl
far_whole p b (Callback r t set) f = refl
far_whole p b (Committed t n) f = refl
far_whole p b (Aborted t c) f = refl
far_whole p b (Invalidate d) f = refl

-- a lock under way when the server's locks change
regrant : (i : ℕ) (OL WL OL' WL' : ℕ → ℕ) (due ol : ℕ → Bool) → ((a : ℕ) → due a ≡ true → OL a ≡ suc i → OL' a ≡ suc i) → (m : Down) → ((p : ℕ) → grants_whole p m ≡ true → WL p ≡ suc i → WL' p ≡ suc i)
    → InRange m → Granted i OL WL due ol m → Granted i OL' WL' due ol m
regrant i OL WL OL' WL' due ol x (Page NoLock a t v u z) y f g = tt
regrant i OL WL OL' WL' due ol x (Page ObjectLock a t v u z) y f g = λ b e. either (g b e) (λ k. inl (x b e k)) (λ k. inr k)
regrant i OL WL OL' WL' due ol x (Page WholeLock a t v u z) y f g = y (page_of a) (eqb_same (page_of a)) g
regrant i OL WL OL' WL' due ol x (Deescalate r t) y f g = tt
regrant i OL WL OL' WL' due ol x (Callback r t set) y f g = tt
regrant i OL WL OL' WL' due ol x (Committed t n) y f g = tt
regrant i OL WL OL' WL' due ol x (Aborted t c) y f g = tt
regrant i OL WL OL' WL' due ol x (Invalidate d) y f g = tt

module _ {wr : ℕ → Val} {due : ℕ → Bool} {D : List Down} (k : Ranged wr due D) where
  pub meets_range : (p : ℕ) → meets wr p ≡ true → p < 32
  meets_range p e = let r = meets_some wr p e in omega (arith, r.1, k.written r.0 r.2)

  pub no_far_whole : (p : ℕ) → 32 ≤ p → count (grants_whole p) D ≡ 0
  no_far_whole p b = none_count (grants_whole p) D (all_map InRange (λ m. grants_whole p m ≡ false) (far_whole p b) D k.granted)

  regranted : (i : ℕ) (OL WL OL' WL' : ℕ → ℕ) (ol : ℕ → Bool) → ((a : ℕ) → a < 256 → OL a ≡ suc i → OL' a ≡ suc i) → ((p : ℕ) → WL p ≡ suc i → WL' p ≡ suc i) → All (Granted i OL WL due ol) D → All (Granted i OL' WL' due ol) D
  regranted i OL WL OL' WL' ol x y g = all_both InRange (Granted i OL WL due ol) (Granted i OL' WL' due ol) (λ m. regrant i OL WL OL' WL' due ol (λ a e. x a (k.to_write a e)) m (λ p e. y p)) D k.granted g

  module _ {i kind num : ℕ} {opened : Bool} {ol wl : ℕ → Bool} {OL WL : ℕ → ℕ} {latest : ℕ} {U : List Up} (h : Locks i kind num opened wr ol wl due OL WL latest U D) where
    -- one message more in the down line
    stood : (m : Down) → Stands kind opened (snoc D m) → Stands kind opened D
    stood m s = either s (λ x. inl x) (λ x. inr (x.0, x.1, omega (arith, x.2, count_snoc is_end D m)))

    -- the station's own locks stay as they are
    pub relocked : (OL' WL' : ℕ → ℕ) → ((a : ℕ) → OL' a ≡ suc i → OL a ≡ suc i) → ((p : ℕ) → WL' p ≡ suc i → WL p ≡ suc i)
        → ((a : ℕ) → a < 256 → OL a ≡ suc i → OL' a ≡ suc i) → ((p : ℕ) → WL p ≡ suc i → WL' p ≡ suc i) → Locks i kind num opened wr ol wl due OL' WL' latest U D
    relocked OL' WL' b c x y =
        record {
          K1a = λ a e. h.K1a a (b a e);
          K1b = λ v p e. h.K1b v p (c p e);
          K2a = λ l o n a e. either (h.K2a l o n a e) (λ z. inl (x a (k.written a e) z)) (λ z. inr (y (page_of a) z));
          K2b = λ p e s. y p (h.K2b p e s);
          K3a = h.K3a;
          K3b = h.K3b;
          K7 = regranted i OL WL OL' WL' ol x y h.K7;
          K9 = λ l o a e. either (h.K9 l o a e) (λ z. inl z) (λ z. inr (z.0, y (page_of a) z.1));
          N9 = λ p. (λ a f e. (h.N9 p).0 a f (b a e), λ v e. (h.N9 p).1 v (c p e));
        }

    -- 17 for the page of a: no drop of it is on its way up. What is locked is what is due there and not locked yet [S7, S8]
    pub object_granted : (set : ℕ → Bool) (a t : ℕ) (v : ℕ → ℕ) (u : ℕ → Bool) (z : ℕ → ℕ) → count (dropped (page_of a)) U ≡ 0
        → ((b : ℕ) → set b ≡ true → page_of b ≡ page_of a) → ((b : ℕ) → set b ≡ true → due b ≡ true) → ((b : ℕ) → due b ≡ true → (set b ≡ true) ⊎ (ol b ≡ true))
        → Locks i kind num opened wr ol wl due (λ b. cond (set b) (suc i) (OL b)) WL latest U (snoc D (Page ObjectLock a t v u z))
    object_granted set a t v u z n page named full =
        let m : Down = Page ObjectLock a t v u z in
        let OL' : ℕ → ℕ = λ b. cond (set b) (suc i) (OL b) in
        let own : (b : ℕ) → OL b ≡ suc i → OL' b ≡ suc i = λ b e. by_b (set b) (λ f. rw f refl) (λ f. rw f e) in
        let none = count_none (dropped (page_of a)) U n in
        record {
          K1a = λ b e.
              by_b (set b)
              (λ f.
              let q : eqb (page_of b) (page_of a) ≡ true = rw (page b f) (eqb_same (page_of a)) in
              inr (inr (omega (arith, rw q at (count_snoc (grants_object (page_of b)) D m)), named b f)))
              (λ f. either (h.K1a b (rw f at e)) (λ x. inl x) (λ x. inr (either x (λ y. inl y) (λ y. inr (omega (arith, y.0, count_snoc (grants_object (page_of b)) D m), y.1)))));
          K1b = λ v p e. either (h.K1b v p e) (λ x. inl x) (λ x. inr (either x (λ y. inl y) (λ y. inr (omega (arith, count_snoc (grants_whole p) D m)))));
          K2a = λ l o c b e. either (h.K2a l o (omega (arith, count_snoc is_end D m)) b e) (λ x. inl (own b x)) (λ x. inr x);
          K2b = λ p e s. h.K2b p e (stood m s);
          K3a = h.K3a;
          K3b = h.K3b;
          K7 = all_snoc (Granted i OL' WL due ol) D m (regranted i OL WL OL' WL ol (λ b c. own b) (λ p e. e) h.K7) (λ b e. either (full b e) (λ f. inl (rw f refl)) (λ f. inr f));
          K9 = h.K9;
          N9 = λ p. (
            λ b f e. by_b (set b) (λ g. until_none (abort_of latest) (dropped p) U (rw (← f, page b g) none)) (λ g. (h.N9 p).0 b f (rw g at e)),
            λ v e. (h.N9 p).1 v e,
          );
        }

    -- 18
    pub page_granted : (a t : ℕ) (v : ℕ → ℕ) (u : ℕ → Bool) (z : ℕ → ℕ) → count (dropped (page_of a)) U ≡ 0
        → Locks i kind num opened wr ol wl due OL (upd WL (page_of a) (suc i)) latest U (snoc D (Page WholeLock a t v u z))
    page_granted a t v u z n =
        let m : Down = Page WholeLock a t v u z in
        let own : (p : ℕ) → WL p ≡ suc i → upd WL (page_of a) (suc i) p ≡ suc i = λ p e. by_eq p (page_of a) (λ f. rw f refl) (λ f. rw f e) in
        let none = count_none (dropped (page_of a)) U n in
        record {
          K1a = λ b e. either (h.K1a b e) (λ x. inl x) (λ x. inr (either x (λ y. inl y) (λ y. inr (omega (arith, y.0, count_snoc (grants_object (page_of b)) D m), y.1))));
          K1b = λ v p e.
              by_eq p (page_of a) (λ f. inr (inr (omega (arith, rw f at (count_snoc (grants_whole p) D m)))))
              (λ f. either (h.K1b v p (rw f at e)) (λ x. inl x) (λ x. inr (either x (λ y. inl y) (λ y. inr (omega (arith, count_snoc (grants_whole p) D m))))));
          K2a = λ l o c b e. either (h.K2a l o (omega (arith, count_snoc is_end D m)) b e) (λ x. inl x) (λ x. inr (own (page_of b) x));
          K2b = λ p e s. own p (h.K2b p e (stood m s));
          K3a = h.K3a;
          K3b = h.K3b;
          K7 = all_snoc (Granted i OL (upd WL (page_of a) (suc i)) due ol) D m (regranted i OL WL OL (upd WL (page_of a) (suc i)) ol (λ b c e. e) own h.K7) (rw (eqb_same (page_of a)) refl);
          K9 = λ l o b e. either (h.K9 l o b e) (λ x. inl x) (λ x. inr (x.0, own (page_of b) x.1));
          N9 = λ p. (
            λ b f e. (h.N9 p).0 b f e,
            λ v e. by_eq p (page_of a) (λ g. until_none (abort_of latest) (dropped p) U (rw (eqb_yes p (page_of a) g) none)) (λ g. (h.N9 p).1 v (rw g at e)),
          );
        }

-- 8 of page p: its set is written, or the 4 is under way; what is written on the page is in it or locked already, and known to the server
pub loosened : {i kind num : ℕ} {opened : Bool} {wr : ℕ → Val} {ol wl due : ℕ → Bool} {OL WL : ℕ → ℕ} {latest : ℕ} {U : List Up} {D : List Down} (p t : ℕ) (said set : ℕ → Bool)
    → Ranged wr due D → Locks i kind num opened wr ol wl due OL WL latest (WrittenSet p t said ∷ U) D
    → WL p ≡ suc i → wl p ≡ false → count (grants_whole p) D ≡ 0
    → ((a : ℕ) → set a ≡ true → (1 ≤ count (abort_of latest) U) ⊎ ((opened ≡ true) × (has (wr a) ≡ true)))
    → ((a : ℕ) → set a ≡ true → page_of a ≡ p → NoneUntil (abort_of latest) (dropped p) U)
    → (locking kind ≡ true → opened ≡ true → count is_end D ≡ 0 → (a : ℕ) → page_of a ≡ p → has (wr a) ≡ true → (set a ≡ true) ⊎ (OL a ≡ suc i))
    → (locking kind ≡ true → opened ≡ true → (a : ℕ) → page_of a ≡ p → has (wr a) ≡ true → latest ≡ num)
    → Locks i kind num opened wr ol wl due (λ a. cond (eqb (page_of a) p && set a) (suc i) (OL a)) (upd WL p 0) latest U D
loosened {i = i} {ol = ol} {due = due} {OL = OL} {WL = WL} {latest = latest} {U = U} {D = D} p t said set k h e unheld none sub clear full known =
    let m : Up = WrittenSet p t said in
    record {
      K1a = λ a x.
          by_b (eqb (page_of a) p && set a) (λ f. either (sub a (and_r (eqb (page_of a) p) _ f)) (λ y. inl y) (λ y. inr (inl y)))
          (λ f. either (h.K1a a (rw f at x)) (λ y. inl (omega arith)) (λ y. inr y));
      K1b = λ v r x.
          let g = gone r x in
          either (h.K1b v r g.1) (λ y. inl (omega arith))
          (λ y. inr (either y (λ z. inl (z.0, z.1, either z.2 (λ v. inl v) (λ v. inr (omega (arith, rw (far r g.0) at v))))) (λ z. inr z)));
      K2a = λ l o c a x.
          by_eq (page_of a) p (λ f. inl (either (full l o c a (eqb_yes (page_of a) p f) x) (λ y. rw (f, y) refl) (λ y. own a y)))
          (λ f. either (h.K2a l o c a x) (λ y. inl (own a y)) (λ y. inr (rw f y)));
      K2b = λ r x s. by_eq r p (λ f. absurd (false≢true (sym unheld ∙ (rw (← eqb_yes r p f) x)))) (λ f. rw f (h.K2b r x s));
      K3a = h.K3a;
      K3b = h.K3b;
      K7 =
          all_both (λ n. InRange n × (grants_whole p n ≡ false)) (Granted i OL WL due ol) (Granted i (λ a. cond (eqb (page_of a) p && set a) (suc i) (OL a)) (upd WL p 0) due ol)
          (λ n x g. regrant i OL WL (λ a. cond (eqb (page_of a) p && set a) (suc i) (OL a)) (upd WL p 0) due ol (λ a b. own a) n (λ r u v. by_eq r p (λ f. absurd (false≢true (sym x.1 ∙ (rw (← eqb_yes r p f) u)))) (λ f. rw f v)) x.0 g)
          D (all_both InRange (λ n. grants_whole p n ≡ false) (λ n. InRange n × (grants_whole p n ≡ false)) (λ n x y. (x, y)) D k.granted (count_none (grants_whole p) D none)) h.K7;
      K9 = λ l o a x. by_eq (page_of a) p (λ f. inl (known l o a (eqb_yes (page_of a) p f) x)) (λ f. either (h.K9 l o a x) (λ y. inl y) (λ y. inr (y.0, rw f y.1)));
      N9 = λ r. (
        λ a f x.
            by_b (eqb (page_of a) p && set a)
            (λ g.
            let page : page_of a ≡ p = eqb_yes (page_of a) p (and_l (eqb (page_of a) p) _ g) in
            rw (sym f ∙ page) (clear a (and_r (eqb (page_of a) p) _ g) page))
            (λ g. until_pop (abort_of latest) (dropped r) m U refl ((h.N9 r).0 a f (rw g at x))),
        λ v x. until_pop (abort_of latest) (dropped r) m U refl ((h.N9 r).1 v (gone r x).1),
      );
    }
  where
    own : (a : ℕ) → OL a ≡ suc i → cond (eqb (page_of a) p && set a) (suc i) (OL a) ≡ suc i
    own a x = by_b (eqb (page_of a) p && set a) (λ f. rw f refl) (λ f. rw f x)

    gone : (r : ℕ) → upd WL p 0 r ≡ suc i → (eqb r p ≡ false) × (WL r ≡ suc i)
    gone r x = by_eq r p (λ f. let z : 0 ≡ suc i = rw f at x in absurd (omega arith)) (λ f. (f, rw f at x))

    far : (r : ℕ) → eqb r p ≡ false → eqb p r ≡ false
    far r n = by_eq p r (λ y. absurd (eqb_no r p n (sym (eqb_yes p r y)))) (λ y. y)
