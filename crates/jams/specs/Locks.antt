-- Locks of one station (K1, K2, K3, K7, K9, N9): what one event does to them. Over values only.
use Rattle.std.specs.Prelude.{◌≡◌, refl, Bool, true, false, ◌&&◌, ◌||◌, cond, List, [], ◌∷◌, ◌⊎◌, ◌≢◌, ℕ, suc, ◌%◌, ◌≤◌, eqb}
use Rattle.std.proofs.Common.{sym, ap, ◌∙◌, inl, inr, arith}
use Rattle.std.proofs.lemmas.Bool.{false≢true}
use Rattle.sets.specs.Base.{upd, snoc, nowhere, Val, none, some, has, none_at}
use Rattle.sets.specs.Laws.{by_b, by_eq, or_yes}
use Rattle.sets.proofs.Laws.{eqb_same, eqb_yes, any_yes, any_some}
use Rattle.line.specs.All.{All, all_map}
use Rattle.line.specs.Messages.{page_of, address, locking, keeps, Up, Abort, WrittenSet, NoLock, ObjectLock, WholeLock, Down, Page, Deescalate, Callback, Committed, Aborted, Invalidate}
use Rattle.line.specs.Truth.{count}
use Rattle.truth.specs.Clauses.{dropped, set_of, brings, stale, token_down}
use Rattle.truth.proofs.Frame.{count_snoc, count_less, all_snoc, count_none}
use Rattle.truth.proofs.Coverage.{on_page_lem}
use Rattle.truth.specs.GoalsLists.{either}
use Rattle.jams.specs.Clauses.{abort_of, is_end, grants_object, grants_whole, meets, NoneUntil, Granted, Locks}
use Rattle.jams.specs.Until.{until_ended, until_snoc, until_pop}
use Rattle.line.specs.Station.{or_val}
use Rattle.truth.specs.Tokens.{Quiet}
use Rattle.line.specs.Server.{Waiter}

-- WHAT IS WRITTEN ON A PAGE

pub meets_yes : (wr : ℕ → Val) (p a : ℕ) → page_of a ≡ p → has (wr a) ≡ true → meets wr p ≡ true
meets_yes wr p a e h = any_yes 8 (λ o. has (wr (address p o))) (a % 8) (omega arith) (rw (on_page_lem a p e) h)

pub meets_some : (wr : ℕ → Val) (p : ℕ) → meets wr p ≡ true → (a : ℕ) × (page_of a ≡ p) × (has (wr a) ≡ true)
meets_some wr p e =
    let r = any_some 8 (λ o. has (wr (address p o))) e in
    (address p r.0, omega (arith, r.1), r.2)

-- a set written over it
has_over : (v w : Val) → has w ≡ true → has (or_val v w) ≡ true
has_over none w e = e
has_over (some x) w e = refl

has_first : (v w : Val) → has v ≡ true → has (or_val v w) ≡ true
has_first none w e = absurd (false≢true e)
has_first (some x) w e = refl

pub has_either : (v w : Val) → has (or_val v w) ≡ true → (has v ≡ true) ⊎ (has w ≡ true)
has_either none w e = inr e
has_either (some x) w e = inl refl

abbrev pub over : (ℕ → Val) → (ℕ → Val) → ℕ → Val
over f wr b = or_val (f b) (wr b)

pub wrote_more : (f wr : ℕ → Val) (b : ℕ) → has (wr b) ≡ true → has (over f wr b) ≡ true
wrote_more f wr b e = has_over (f b) (wr b) e

pub wrote_now : (f wr : ℕ → Val) (b : ℕ) → has (f b) ≡ true → has (over f wr b) ≡ true
wrote_now f wr b e = has_first (f b) (wr b) e

pub meets_more : (f wr : ℕ → Val) (p : ℕ) → meets wr p ≡ true → meets (over f wr) p ≡ true
meets_more f wr p e = let r = meets_some wr p e in meets_yes (over f wr) p r.0 r.1 (wrote_more f wr r.0 r.2)

-- WHO HAS NO LOCK

module _ {i kind num : ℕ} {opened : Bool} {wr : ℕ → Val} {ol wl due : ℕ → Bool} {OL WL : ℕ → ℕ} {latest : ℕ} {U : List Up} {D : List Down} where
  -- .. but pages that it keeps, and has ended at the server or written nothing elsewhere
  pub bare : ((a : ℕ) → ol a ≡ true → has (wr a) ≡ true) → (keeps kind ≡ false → (p : ℕ) → wl p ≡ true → meets wr p ≡ true)
      → ((a : ℕ) → OL a ≢ suc i) → (keeps kind ≡ false → (p : ℕ) → WL p ≢ suc i)
      → (locking kind ≡ true → opened ≡ true → count is_end D ≡ 0 → (a : ℕ) → has (wr a) ≡ true → (keeps kind ≡ true) × (WL (page_of a) ≡ suc i))
      → (keeps kind ≡ true → (p : ℕ) → wl p ≡ true → WL p ≡ suc i)
      → (locking kind ≡ true → opened ≡ true → (a : ℕ) → has (wr a) ≡ true → (latest ≡ num) ⊎ ((keeps kind ≡ true) × (WL (page_of a) ≡ suc i)))
      → All (Granted i OL WL due ol) D → Locks i kind num opened wr ol wl due OL WL latest U D
  bare x y no_object no_whole over own known g =
      record {
        K1a = λ a e. absurd (no_object a e);
        K1b = λ v p e. absurd (no_whole v p e);
        K2a = λ k o n a e. inr (over k o n a e).1;
        K2b = λ p e s.
            by_b (keeps kind) (λ v. own v p e)
            (λ v.
            either s (λ t. absurd (false≢true (sym v ∙ t)))
            (λ t. let r = meets_some wr p (y v p e) in absurd (false≢true (sym v ∙ (over t.0 t.1 t.2 r.0 r.2).0))));
        K3a = x;
        K3b = y;
        K7 = g;
        K9 = known;
        N9 = λ p. (λ a f e. absurd (no_object a e), λ v e. absurd (no_whole v p e));
      }

-- the server notices transaction T: the latest already, or no lock is left of the one before but pages that are kept
pub renumbered : {i kind num : ℕ} {opened : Bool} {wr : ℕ → Val} {ol wl due : ℕ → Bool} {OL WL : ℕ → ℕ} {latest : ℕ} {U : List Up} {D : List Down} (T : ℕ)
    → (eqb T latest ≡ false → ((a : ℕ) → OL a ≢ suc i) × (keeps kind ≡ false → (p : ℕ) → WL p ≢ suc i))
    → (locking kind ≡ true → opened ≡ true → (a : ℕ) → has (wr a) ≡ true → (T ≡ num) ⊎ ((keeps kind ≡ true) × (WL (page_of a) ≡ suc i)))
    → Locks i kind num opened wr ol wl due OL WL latest U D → Locks i kind num opened wr ol wl due OL WL T U D
renumbered {latest = latest} T n k h =
    by_eq T latest (λ e. rw (eqb_yes T latest e) h)
    (λ e.
    let z = n e in
    record {
      K1a = λ a x. absurd (z.0 a x);
      K1b = λ v p x. absurd (z.1 v p x);
      K2a = h.K2a;
      K2b = h.K2b;
      K3a = h.K3a;
      K3b = h.K3b;
      K7 = h.K7;
      K9 = k;
      N9 = λ p. (λ a f x. absurd (z.0 a x), λ v x. absurd (z.1 v p x));
    })

-- EVERY LOCK HAS ITS 4 UNDER WAY: then the transaction may be closed, and anything sent

pub record Settled (i kind : ℕ) (wl : ℕ → Bool) (OL WL : ℕ → ℕ) (latest : ℕ) (U : List Up) (D : List Down) : Type 0 where
  pub object : (a : ℕ) → OL a ≡ suc i → 1 ≤ count (abort_of latest) U
  pub whole : keeps kind ≡ false → (p : ℕ) → WL p ≡ suc i → 1 ≤ count (abort_of latest) U
  pub granted : All (Granted i OL WL nowhere nowhere) D
  pub behind_object : (a : ℕ) → OL a ≡ suc i → NoneUntil (abort_of latest) (dropped (page_of a)) U
  pub behind_whole : keeps kind ≡ false → (p : ℕ) → WL p ≡ suc i → NoneUntil (abort_of latest) (dropped p) U
  pub stands : (p : ℕ) → wl p ≡ true → (keeps kind ≡ true) × (WL p ≡ suc i)  -- what is left are pages that are kept

-- who has no lock but those may close
pub free : {i kind : ℕ} {wl : ℕ → Bool} {OL WL : ℕ → ℕ} {latest : ℕ} {U : List Up} {D : List Down} → ((a : ℕ) → OL a ≢ suc i) → (keeps kind ≡ false → (p : ℕ) → WL p ≢ suc i) → ((p : ℕ) → wl p ≡ true → (keeps kind ≡ true) × (WL p ≡ suc i)) → All (Granted i OL WL nowhere nowhere) D → Settled i kind wl OL WL latest U D
free x y z g =
    record {
      object = λ a e. absurd (x a e);
      whole = λ v p e. absurd (y v p e);
      granted = g;
      behind_object = λ a e. absurd (x a e);
      behind_whole = λ v p e. absurd (y v p e);
      stands = z;
    }

module _ {i kind : ℕ} {wl : ℕ → Bool} {OL WL : ℕ → ℕ} {latest : ℕ} {U : List Up} {D : List Down} (h : Settled i kind wl OL WL latest U D) where
  pub settled_add : (m : Up) → Settled i kind wl OL WL latest (snoc U m) D
  settled_add m =
      let more = count_snoc (abort_of latest) U m in
      record {
        object = λ a e. omega (arith, h.object a e);
        whole = λ v p e. omega (arith, h.whole v p e);
        granted = h.granted;
        behind_object = λ a e. until_ended (abort_of latest) (dropped (page_of a)) U (m ∷ []) (h.object a e) (h.behind_object a e);
        behind_whole = λ v p e. until_ended (abort_of latest) (dropped p) U (m ∷ []) (h.whole v p e) (h.behind_whole v p e);
        stands = h.stands;
      }

  pub settled_locks : (num : ℕ) → Locks i kind num false none_at nowhere wl nowhere OL WL latest U D
  settled_locks num =
      record {
        K1a = λ a e. inl (h.object a e);
        K1b = λ v p e. inl (h.whole v p e);
        K2a = λ k o n a e. absurd (false≢true e);
        K2b = λ p e s. (h.stands p e).1;
        K3a = λ a e. absurd (false≢true e);
        K3b = λ v p e. absurd (false≢true (sym v ∙ (h.stands p e).0));
        K7 = h.granted;
        K9 = λ k o a e. absurd (false≢true e);
        N9 = λ p. (λ a f e. rw (← f) (h.behind_object a e), λ v e. h.behind_whole v p e);
      }

-- THE LINES

-- a lock on the page has its 4 under way
abbrev pub Leaving : ℕ → ℕ → (ℕ → ℕ) → (ℕ → ℕ) → ℕ → List Up → ℕ → Type 0
Leaving i kind OL WL latest U p = ((a : ℕ) → page_of a ≡ p → OL a ≡ suc i → 1 ≤ count (abort_of latest) U) × (keeps kind ≡ false → WL p ≡ suc i → 1 ≤ count (abort_of latest) U)

module _ {i kind num : ℕ} {opened : Bool} {wr : ℕ → Val} {ol wl due : ℕ → Bool} {OL WL : ℕ → ℕ} {latest : ℕ} {U : List Up} {D : List Down} where
  -- a message goes up; a drop of a page that is locked comes behind the 4
  pub push_up : (m : Up) → ((p : ℕ) → dropped p m ≡ true → Leaving i kind OL WL latest U p) → Locks i kind num opened wr ol wl due OL WL latest U D → Locks i kind num opened wr ol wl due OL WL latest (snoc U m) D
  push_up m k h =
      let more : (f : Up → Bool) → count f U ≤ count f (snoc U m) = λ f. omega (arith, count_snoc f U m) in
      record {
        K1a = λ a e. either (h.K1a a e) (λ x. inl (omega (arith, more (abort_of latest)))) (λ x. inr x);
        K1b = λ v p e.
            either (h.K1b v p e) (λ x. inl (omega (arith, more (abort_of latest))))
            (λ x. inr (either x (λ y. inl (y.0, y.1, either y.2 (λ z. inl z) (λ z. inr (omega (arith, more (set_of p latest)))))) (λ y. inr y)));
        K2a = h.K2a;
        K2b = h.K2b;
        K3a = h.K3a;
        K3b = h.K3b;
        K7 = h.K7;
        K9 = h.K9;
        N9 = λ p. (
          λ a f g. until_snoc (abort_of latest) (dropped p) U m (λ e. (k p e).0 a f g) ((h.N9 p).0 a f g),
          λ v g. until_snoc (abort_of latest) (dropped p) U m (λ e. (k p e).1 v g) ((h.N9 p).1 v g),
        );
      }

  -- .. one that drops nothing
  pub plain_up : (m : Up) → ((p : ℕ) → dropped p m ≡ false) → Locks i kind num opened wr ol wl due OL WL latest U D → Locks i kind num opened wr ol wl due OL WL latest (snoc U m) D
  plain_up m e h = push_up m (λ p f. absurd (false≢true (sym (e p) ∙ f))) h

  -- the server takes a message: no 4 of the latest, no 8 that a whole lock needs
  pub pop_up : (m : Up) → abort_of latest m ≡ false → (keeps kind ≡ false → (p : ℕ) → WL p ≡ suc i → meets wr p ≡ true → set_of p latest m ≡ false)
      → Locks i kind num opened wr ol wl due OL WL latest (m ∷ U) D → Locks i kind num opened wr ol wl due OL WL latest U D
  pop_up m e f h =
      record {
        K1a = λ a g. either (h.K1a a g) (λ x. inl (omega (arith, rw e at x))) (λ x. inr x);
        K1b = λ v p g.
            either (h.K1b v p g) (λ x. inl (omega (arith, rw e at x)))
            (λ x. inr (either x (λ y. inl (y.0, y.1, either y.2 (λ z. inl z) (λ z. inr (omega (arith, rw (f v p g y.1) at z))))) (λ y. inr y)));
        K2a = h.K2a;
        K2b = h.K2b;
        K3a = h.K3a;
        K3b = h.K3b;
        K7 = h.K7;
        K9 = h.K9;
        N9 = λ p. (λ a g x. until_pop (abort_of latest) (dropped p) m U e ((h.N9 p).0 a g x), λ v x. until_pop (abort_of latest) (dropped p) m U e ((h.N9 p).1 v x));
      }

  -- a message comes down; the lock that it brings stands at the server
  pub push_down : (m : Down) → Granted i OL WL due ol m → Locks i kind num opened wr ol wl due OL WL latest U D → Locks i kind num opened wr ol wl due OL WL latest U (snoc D m)
  push_down m g h =
      let more : (f : Down → Bool) → count f D ≤ count f (snoc D m) = λ f. omega (arith, count_snoc f D m) in
      record {
        K1a = λ a e. either (h.K1a a e) (λ x. inl x) (λ x. inr (either x (λ y. inl y) (λ y. inr (omega (arith, y.0, more (grants_object (page_of a))), y.1))));
        K1b = λ v p e. either (h.K1b v p e) (λ x. inl x) (λ x. inr (either x (λ y. inl y) (λ y. inr (omega (arith, more (grants_whole p))))));
        K2a = λ k o n. h.K2a k o (omega (arith, more is_end));
        K2b = λ p e s. h.K2b p e (either s (λ x. inl x) (λ x. inr (x.0, x.1, omega (arith, x.2, more is_end))));
        K3a = h.K3a;
        K3b = h.K3b;
        K7 = all_snoc (Granted i OL WL due ol) D m h.K7 g;
        K9 = h.K9;
        N9 = h.N9;
      }

  -- the station takes a message that does not end its transaction; what it locks is written
  pub pop_down : (m : Down) → is_end m ≡ false → ((a : ℕ) → grants_object (page_of a) m ≡ true → due a ≡ true → (opened ≡ true) × (has (wr a) ≡ true))
      → ((p : ℕ) → grants_whole p m ≡ true → (opened ≡ true) × (meets wr p ≡ true) × (wl p ≡ true))
      → Locks i kind num opened wr ol wl due OL WL latest U (m ∷ D) → Locks i kind num opened wr ol wl due OL WL latest U D
  pop_down m e f g h =
      record {
        K1a = λ a x.
            either (h.K1a a x) (λ y. inl y)
            (λ y. inr (either y (λ z. inl z) (λ z. by_b (grants_object (page_of a) m) (λ t. inl (f a t z.1)) (λ t. inr (omega (arith, rw t at z.0), z.1)))));
        K1b = λ v p x.
            either (h.K1b v p x) (λ y. inl y)
            (λ y. inr (either y (λ z. inl z) (λ z. by_b (grants_whole p m) (λ t. let w = g p t in inl (w.0, w.1, inl w.2)) (λ t. inr (omega (arith, rw t at z))))));
        K2a = λ k o n. h.K2a k o (rw e (omega arith));
        K2b = λ p x s. h.K2b p x (either s (λ y. inl y) (λ y. inr (y.0, y.1, rw e (omega (arith, y.2)))));
        K3a = h.K3a;
        K3b = h.K3b;
        K7 = h.K7.1;
        K9 = h.K9;
        N9 = h.N9;
      }

-- less is due, more is locked
pub more_granted : (i : ℕ) (OL WL : ℕ → ℕ) (due due' ol ol' : ℕ → Bool) → ((b : ℕ) → due' b ≡ true → due b ≡ true) → ((b : ℕ) → ol b ≡ true → ol' b ≡ true) → (m : Down) → Granted i OL WL due ol m → Granted i OL WL due' ol' m
more_granted i OL WL due due' ol ol' x y (Page NoLock a t v u z) g = tt
more_granted i OL WL due due' ol ol' x y (Page ObjectLock a t v u z) g = λ b e. either (g b (x b e)) (λ k. inl k) (λ k. inr (y b k))
more_granted i OL WL due due' ol ol' x y (Page WholeLock a t v u z) g = g
more_granted i OL WL due due' ol ol' x y (Deescalate p t) g = tt
more_granted i OL WL due due' ol ol' x y (Callback r t set) g = tt
more_granted i OL WL due due' ol ol' x y (Committed t n) g = tt
more_granted i OL WL due due' ol ol' x y (Aborted t c) g = tt
more_granted i OL WL due due' ol ol' x y (Invalidate d) g = tt

-- who waits to write nothing
pub none_due : (i : ℕ) (OL WL : ℕ → ℕ) (due ol : ℕ → Bool) (ol' : ℕ → Bool) (D : List Down) → All (Granted i OL WL due ol) D → All (Granted i OL WL nowhere ol') D
none_due i OL WL due ol ol' D g = all_map (Granted i OL WL due ol) (Granted i OL WL nowhere ol') (undue i OL WL due ol ol') D g
  where
    undue : (i : ℕ) (OL WL : ℕ → ℕ) (due ol ol' : ℕ → Bool) (m : Down) → Granted i OL WL due ol m → Granted i OL WL nowhere ol' m
    undue i OL WL due ol ol' (Page NoLock a t v u z) g = tt
    undue i OL WL due ol ol' (Page ObjectLock a t v u z) g = λ b e. absurd (false≢true e)
    undue i OL WL due ol ol' (Page WholeLock a t v u z) g = g
    undue i OL WL due ol ol' (Deescalate p t) g = tt
    undue i OL WL due ol ol' (Callback r t set) g = tt
    undue i OL WL due ol ol' (Committed t n) g = tt
    undue i OL WL due ol ol' (Aborted t c) g = tt
    undue i OL WL due ol ol' (Invalidate d) g = tt

-- no token is on its way down, so no lock
token_granted : (old : ℕ → Bool) (j : ℕ) (OL WL : ℕ → ℕ) (due ol : ℕ → Bool) (m : Down) → token_down old m ≡ false → Granted j OL WL due ol m
token_granted old j OL WL due ol (Page NoLock a t v u x) e = tt
token_granted old j OL WL due ol (Page ObjectLock a t v u x) e = absurd (false≢true (sym e))
token_granted old j OL WL due ol (Page WholeLock a t v u x) e = absurd (false≢true (sym e))
token_granted old j OL WL due ol (Deescalate p t) e = tt
token_granted old j OL WL due ol (Callback r t set) e = tt
token_granted old j OL WL due ol (Committed t n) e = tt
token_granted old j OL WL due ol (Aborted t c) e = tt
token_granted old j OL WL due ol (Invalidate d) e = tt

-- whatever the server's locks and whatever is due, none is on its way to station j
abbrev pub NoGrants : ℕ → List Down → Type 0
NoGrants j D = (OL WL : ℕ → ℕ) (due ol : ℕ → Bool) → All (Granted j OL WL due ol) D

pub quiet_grants : {skind kind num : ℕ} {opened : Bool} {q : Waiter} {U : List Up} {D : List Down} → Quiet skind kind num opened q U D → (j : ℕ) → NoGrants j D
quiet_grants {kind = kind} {num = num} {opened = opened} {D = D} h j OL WL due ol =
    let old : ℕ → Bool = stale kind num opened in
    all_map (λ m. token_down old m ≡ false) (Granted j OL WL due ol) (token_granted old j OL WL due ol) D (count_none (token_down old) D h.no_down)

-- .. nor a 17
object_token : (old : ℕ → Bool) (p : ℕ) (m : Down) → grants_object p m ≡ true → token_down old m ≡ true
object_token old p (Page NoLock a t v u x) e = absurd (false≢true e)
object_token old p (Page ObjectLock a t v u x) e = refl
object_token old p (Page WholeLock a t v u x) e = refl
object_token old p (Deescalate q t) e = absurd (false≢true e)
object_token old p (Callback r t set) e = absurd (false≢true e)
object_token old p (Committed t n) e = refl
object_token old p (Aborted t c) e = refl
object_token old p (Invalidate d) e = absurd (false≢true e)

pub quiet_objects : {skind kind num : ℕ} {opened : Bool} {q : Waiter} {U : List Up} {D : List Down} → Quiet skind kind num opened q U D → (p : ℕ) → 1 ≤ count (grants_object p) D → ⊥
quiet_objects {kind = kind} {num = num} {opened = opened} {D = D} h p n =
    let old : ℕ → Bool = stale kind num opened in
    absurd (omega (arith, h.no_down, count_less (grants_object p) (token_down old) (object_token old p) D))

-- a page that comes with a lock
object_brings : (p : ℕ) (m : Down) → grants_object p m ≡ true → brings p m ≡ true
object_brings p (Page NoLock b t v u x) e = absurd (false≢true e)
object_brings p (Page ObjectLock b t v u x) e = e
object_brings p (Page WholeLock b t v u x) e = absurd (false≢true e)
object_brings p (Deescalate q t) e = absurd (false≢true e)
object_brings p (Callback r t set) e = absurd (false≢true e)
object_brings p (Committed t n) e = absurd (false≢true e)
object_brings p (Aborted t c) e = absurd (false≢true e)
object_brings p (Invalidate d) e = absurd (false≢true e)

pub whole_brings : (p : ℕ) (m : Down) → grants_whole p m ≡ true → brings p m ≡ true
whole_brings p (Page NoLock b t v u x) e = absurd (false≢true e)
whole_brings p (Page ObjectLock b t v u x) e = absurd (false≢true e)
whole_brings p (Page WholeLock b t v u x) e = e
whole_brings p (Deescalate q t) e = absurd (false≢true e)
whole_brings p (Callback r t set) e = absurd (false≢true e)
whole_brings p (Committed t n) e = absurd (false≢true e)
whole_brings p (Aborted t c) e = absurd (false≢true e)
whole_brings p (Invalidate d) e = absurd (false≢true e)

-- THE STATION

module _ {i kind num : ℕ} {opened : Bool} {wr : ℕ → Val} {ol wl due : ℕ → Bool} {OL WL : ℕ → ℕ} {latest : ℕ} {U : List Up} {D : List Down} (h : Locks i kind num opened wr ol wl due OL WL latest U D) where
  -- a lock on a page where nothing is written and for which nothing is under way has its 4 under way
  pub unused_leaving : (p : ℕ) → meets wr p ≡ false → count (brings p) D ≡ 0 → Leaving i kind OL WL latest U p
  unused_leaving p n z = (
    λ a f e. either (h.K1a a e) (λ x. x) (λ x. absurd (either x (λ y. unmet (meets_yes wr p a f y.1)) (λ y. brought (grants_object p) (object_brings p) (rw f at y.0)))),
    λ v e. either (h.K1b v p e) (λ x. x) (λ x. absurd (either x (λ y. unmet y.1) (λ y. brought (grants_whole p) (whole_brings p) y))),
  )
    where
      unmet : meets wr p ≡ true → ⊥
      unmet e = false≢true (sym n ∙ e)

      brought : (f : Down → Bool) → ((m : Down) → f m ≡ true → brings p m ≡ true) → 1 ≤ count f D → ⊥
      brought f k x = absurd (omega (arith, count_less f (brings p) k D))

  -- a transaction begins: nothing is written
  pub began : (num' : ℕ) → opened ≡ false → ((a : ℕ) → wr a ≡ none) → Locks i kind num' true wr ol wl due OL WL latest U D
  began num' o n =
      record {
        K1a = λ a e. either (h.K1a a e) (λ x. inl x) (λ x. inr (either x (λ y. absurd (false≢true (sym o ∙ y.0))) (λ y. inr y)));
        K1b = λ v p e. either (h.K1b v p e) (λ x. inl x) (λ x. inr (either x (λ y. absurd (false≢true (sym o ∙ y.0))) (λ y. inr y)));
        K2a = λ k t z a e. absurd (unwritten a e);
        K2b = λ p e s. by_b (keeps kind) (λ v. h.K2b p e (inl v)) (λ v. let r = meets_some wr p (h.K3b v p e) in absurd (unwritten r.0 r.2));
        K3a = h.K3a;
        K3b = h.K3b;
        K7 = h.K7;
        K9 = λ k t a e. absurd (unwritten a e);
        N9 = h.N9;
      }
    where
      unwritten : (a : ℕ) → has (wr a) ≡ true → ⊥
      unwritten a e = false≢true (sym (ap has (n a)) ∙ e)

  -- a set is written, under locks known to the server; they may be new ones
  pub writes : (f : ℕ → Val) (ol' wl' : ℕ → Bool) → ((b : ℕ) → ol b ≡ true → ol' b ≡ true) → ((b : ℕ) → ol' b ≡ true → (ol b ≡ true) ⊎ (has (f b) ≡ true))
      → ((p : ℕ) → wl' p ≡ true → (wl p ≡ true) ⊎ ((meets f p ≡ true) × (WL p ≡ suc i))) → ((p : ℕ) → wl p ≡ true → wl' p ≡ true)
      → (locking kind ≡ true → opened ≡ true → count is_end D ≡ 0 → (a : ℕ) → has (f a) ≡ true → (OL a ≡ suc i) ⊎ (WL (page_of a) ≡ suc i))
      → (locking kind ≡ true → opened ≡ true → (a : ℕ) → has (f a) ≡ true → (latest ≡ num) ⊎ ((keeps kind ≡ true) × (WL (page_of a) ≡ suc i))) → Locks i kind num opened (over f wr) ol' wl' due OL WL latest U D
  writes f ol' wl' w x y z l n =
      record {
        K1a = λ b e. either (h.K1a b e) (λ u. inl u) (λ u. inr (either u (λ v. inl (v.0, wrote_more f wr b v.1)) (λ v. inr v)));
        K1b = λ x p e.
            either (h.K1b x p e) (λ u. inl u)
            (λ u. inr (either u (λ v. inl (v.0, meets_more f wr p v.1, either v.2 (λ t. inl (z p t)) (λ t. inr t))) (λ v. inr v)));
        K2a = λ k o c b e. either (has_either (f b) (wr b) e) (λ g. l k o c b g) (λ g. h.K2a k o c b g);
        K2b = λ p e s. either (y p e) (λ u. h.K2b p u s) (λ u. u.1);
        K3a = λ b e. either (x b e) (λ u. wrote_more f wr b (h.K3a b u)) (λ u. wrote_now f wr b u);
        K3b = λ v p e. either (y p e) (λ u. meets_more f wr p (h.K3b v p u)) (λ u. let r = meets_some f p u.0 in meets_yes (over f wr) p r.0 r.1 (wrote_now f wr r.0 r.2));
        K7 = all_map (Granted i OL WL due ol) (Granted i OL WL due ol') (more_granted i OL WL due due ol ol' (λ b e. e) w) D h.K7;
        K9 = λ k o b e. either (has_either (f b) (wr b) e) (λ g. n k o b g) (λ g. h.K9 k o b g);
        N9 = h.N9;
      }

  -- the owner waits for something else, or no more
  pub rewaits : (due' : ℕ → Bool) → ((a : ℕ) → 1 ≤ count (grants_object (page_of a)) D → due a ≡ true → due' a ≡ true) → All (Granted i OL WL due' ol) D → Locks i kind num opened wr ol wl due' OL WL latest U D
  rewaits due' x g =
      record {
        K1a = λ a e. either (h.K1a a e) (λ u. inl u) (λ u. inr (either u (λ v. inl v) (λ v. inr (v.0, x a v.0 v.1))));
        K1b = h.K1b;
        K2a = h.K2a;
        K2b = h.K2b;
        K3a = h.K3a;
        K3b = h.K3b;
        K7 = g;
        K9 = h.K9;
        N9 = h.N9;
      }

  -- 19: the whole lock becomes locks on what is written, and the 8 goes up
  pub splits : (p t : ℕ) (set : ℕ → Bool) → ((a : ℕ) → set a ≡ true → has (wr a) ≡ true) → (keeps kind ≡ false → WL p ≡ suc i → opened ≡ true → meets wr p ≡ true → t ≡ latest)
      → Locks i kind num opened wr (λ a. ol a || set a) (upd wl p false) due OL WL latest (snoc U (WrittenSet p t set)) D
  splits p t set w n =
      let m : Up = WrittenSet p t set in
      let g : Locks i kind num opened wr ol wl due OL WL latest (snoc U m) D = plain_up m (λ q. refl) h in
      record {
        K1a = g.K1a;
        K1b = λ v q e.
            either (g.K1b v q e) (λ x. inl x)
            (λ x.
            inr (either x
            (λ y. inl (y.0, y.1, by_eq q p (λ f. inr (sent q f (n v (rw (eqb_yes q p f) at e) y.0 (rw (eqb_yes q p f) at y.1)))) (λ f. either y.2 (λ z. inl (rw f z)) (λ z. inr z))))
            (λ y. inr y)));
        K2a = g.K2a;
        K2b = λ q e s. g.K2b q (before q e) s;
        K3a = λ a e. or_yes (ol a) (set a) e (λ f. h.K3a a f) (λ f. w a f);
        K3b = λ v q e. h.K3b v q (before q e);
        K7 = all_map (Granted i OL WL due ol) (Granted i OL WL due (λ a. ol a || set a)) (more_granted i OL WL due due ol _ (λ b e. e) (λ b e. rw e refl)) D g.K7;
        K9 = g.K9;
        N9 = g.N9;
      }
    where
      before : (q : ℕ) → upd wl p false q ≡ true → wl q ≡ true
      before q e = by_eq q p (λ f. absurd (false≢true (rw f at e))) (λ f. rw f at e)

      sent : (q : ℕ) → eqb q p ≡ true → t ≡ latest → 1 ≤ count (set_of q latest) (snoc U (WrittenSet p t set))
      sent q f e =
          let y : cond {A = ℕ} (eqb p q && eqb t latest) 1 0 ≡ 1 = rw (eqb_yes q p f, e, eqb_same p, eqb_same latest) refl in
          omega (arith, count_snoc (set_of q latest) U (WrittenSet p t set))

  -- the owner aborts, and the 4 goes up; whose lock it is, is the latest, or has its 4 under way
  pub aborts : (wl' : ℕ → Bool) → ((p : ℕ) → wl' p ≡ true → (keeps kind ≡ true) × (wl p ≡ true))
      → ((a : ℕ) → OL a ≡ suc i → (latest ≡ num) ⊎ (1 ≤ count (abort_of latest) U)) → (keeps kind ≡ false → (p : ℕ) → WL p ≡ suc i → (latest ≡ num) ⊎ (1 ≤ count (abort_of latest) U))
      → Settled i kind wl' OL WL latest (snoc U (Abort num)) D
  aborts wl' left object whole =
      record {
        object = λ a e. four (object a e);
        whole = λ v p e. four (whole v p e);
        granted = none_due i OL WL due ol nowhere D h.K7;
        behind_object = λ a e. (g.N9 (page_of a)).0 a refl e;
        behind_whole = λ v p e. (g.N9 p).1 v e;
        stands = λ p e. let z = left p e in (z.0, h.K2b p z.1 (inl z.0));
      }
    where
      g : Locks i kind num opened wr ol wl due OL WL latest (snoc U (Abort num)) D
      g = plain_up (Abort num) (λ p. refl) h

      four : (latest ≡ num) ⊎ (1 ≤ count (abort_of latest) U) → 1 ≤ count (abort_of latest) (snoc U (Abort num))
      four (inl e) =
          let z : cond {A = ℕ} (eqb num latest) 1 0 ≡ 1 = rw (e, eqb_same num) refl in
          omega (arith, count_snoc (abort_of latest) U (Abort num))
      four (inr e) = omega (arith, count_snoc (abort_of latest) U (Abort num))
