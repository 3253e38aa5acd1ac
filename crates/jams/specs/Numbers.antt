-- What each event does to the clauses on numbers of one station: over plain values.
use Rattle.std.specs.Prelude.{◌≡◌, refl, Bool, true, false, not, ◌&&◌, cond, List, [], ◌∷◌, ◌⊎◌, ℕ, ◌+◌, ◌≤◌, ◌<◌, eqb}
use Rattle.std.proofs.Common.{sym, inl, inr, arith}
use Rattle.sets.specs.Base.{snoc, Val}
use Rattle.sets.specs.Laws.{by_b, by_eq}
use Rattle.sets.proofs.Laws.{eqb_same, eqb_yes, eqb_no, and_l, and_r, not_yes, not_no}
use Rattle.line.specs.All.{All, all_map}
use Rattle.line.specs.Messages.{locking, Up, ReadRequest, WriteRequest, Commit, Abort, Purge, Busy, Done, WrittenSet, Lock, NoLock, ObjectLock, WholeLock, Down, Page, Deescalate, Callback, Committed, Aborted, Invalidate}
use Rattle.line.specs.Station.{Wait, Idle}
use Rattle.line.specs.Server.{Waiter, Want, NoWant, WantRead, WantWrite, WantCommit, is_want}
use Rattle.line.specs.Truth.{count}
use Rattle.truth.specs.Clauses.{stale, token_up, token_down, FitUp, FitDown, FitWaiter, Tokens}
use Rattle.truth.proofs.Frame.{count_snoc, all_snoc, count_none, count_less, all_both}
use Rattle.truth.specs.GoalsLists.{either}
use Rattle.truth.specs.Tokens.{both, Quiet}
use Rattle.truth.proofs.Tokens.{took_up}
use Rattle.jams.specs.Clauses.{KindUp, KindDown, numbered, named, Above, Rising, Next, abort_of, AbortOver, is_end, Latest, AskBelow, answer_number, AnswersFirst, Met, Numbers}

-- ONE MESSAGE

not_so : {G : Type 0} → true ≡ false → G
not_so e = both true refl e

-- kinds 5 to 8 are no 4
plain_over : (num : ℕ) (opened : Bool) (m : Up) → numbered m ≡ false → AbortOver num opened m
plain_over num opened (ReadRequest a t) e = tt
plain_over num opened (WriteRequest p' t set) e = tt
plain_over num opened (Commit w) e = tt
plain_over num opened (Abort t) e = not_so e
plain_over num opened (Purge p) e = tt
plain_over num opened (Busy r t) e = tt
plain_over num opened (Done r t d) e = tt
plain_over num opened (WrittenSet p t set) e = tt

plain_abort : (t : ℕ) (m : Up) → numbered m ≡ false → abort_of t m ≡ false
plain_abort t (ReadRequest a u) e = refl
plain_abort t (WriteRequest p' u set) e = refl
plain_abort t (Commit w) e = refl
plain_abort t (Abort u) e = not_so e
plain_abort t (Purge p) e = refl
plain_abort t (Busy r u) e = refl
plain_abort t (Done r u d) e = refl
plain_abort t (WrittenSet p u set) e = refl

-- a number under way is not above the station's ..
pub up_below : (kind num : ℕ) (opened : Bool) (w : Wait) (m : Up) → FitUp kind num opened w m → AbortOver num opened m → numbered m ≡ true → named m ≤ num
up_below kind num opened w (ReadRequest a t) f o e = f.below
up_below kind num opened w (WriteRequest p' t set) f o e = f.below
up_below kind num opened w (Commit k) f o e = f.below
up_below kind num opened w (Abort t) f o e = either o (λ b. omega (arith, b)) (λ b. omega (arith, b.0))
up_below kind num opened w (Purge p) f o e = not_so (sym e)
up_below kind num opened w (Busy r t) f o e = not_so (sym e)
up_below kind num opened w (Done r t d) f o e = not_so (sym e)
up_below kind num opened w (WrittenSet p t set) f o e = not_so (sym e)

-- .. and below that of the open transaction, if it is no token
pub up_old : (kind num : ℕ) (opened : Bool) (w : Wait) → opened ≡ true → (m : Up) → token_up (stale kind num opened) m ≡ false → FitUp kind num opened w m → AbortOver num opened m → numbered m ≡ true → named m < num
up_old kind num opened w o (ReadRequest a t) c f q e =
    let z : stale kind num opened t ≡ true = not_no (stale kind num opened t) c in
    let y : not (eqb t num) ≡ true = rw o at (and_r (not (locking kind)) (not (opened && eqb t num)) z) in
    omega (arith, f.below, eqb_no t num (not_yes (eqb t num) y))
up_old kind num opened w o (WriteRequest p' t set) c f q e = not_so c
up_old kind num opened w o (Commit k) c f q e = not_so c
up_old kind num opened w o (Abort t) c f q e = either q (λ b. b) (λ b. both opened o b.1)
up_old kind num opened w o (Purge p) c f q e = not_so (sym e)
up_old kind num opened w o (Busy r t) c f q e = not_so (sym e)
up_old kind num opened w o (Done r t d) c f q e = not_so (sym e)
up_old kind num opened w o (WrittenSet p t set) c f q e = not_so (sym e)

-- a page for the open transaction, a 21, a 22
abbrev pub answering : ℕ → Bool → Down → Bool
answering num opened (Page l a t v u x) = opened && eqb t num
answering num opened (Deescalate p t) = false
answering num opened (Callback r t set) = false
answering num opened (Committed t n) = true
answering num opened (Aborted t c) = true
answering num opened (Invalidate d) = false

abbrev pub Calm : ℕ → Bool → List Down → Type 0
Calm num opened D = All (λ m. answering num opened m ≡ false) D

token_calm : (kind num : ℕ) (opened : Bool) (m : Down) → token_down (stale kind num opened) m ≡ false → answering num opened m ≡ false
token_calm kind num opened (Page NoLock a t v u x) e = not_yes (opened && eqb t num) (and_r (not (locking kind)) _ (not_no (stale kind num opened t) e))
token_calm kind num opened (Page ObjectLock a t v u x) e = not_so e
token_calm kind num opened (Page WholeLock a t v u x) e = not_so e
token_calm kind num opened (Deescalate p t) e = refl
token_calm kind num opened (Callback r t set) e = refl
token_calm kind num opened (Committed t n) e = e
token_calm kind num opened (Aborted t c) e = e
token_calm kind num opened (Invalidate d) e = refl

calm_latest : (num : ℕ) (opened : Bool) (latest : ℕ) (fin : Bool) (m : Down) → answering num opened m ≡ false → Latest num opened latest fin m
calm_latest num opened latest fin (Page l a t v u x) e = λ z. both (opened && eqb t num) z e
calm_latest num opened latest fin (Deescalate p t) e = tt
calm_latest num opened latest fin (Callback r t set) e = tt
calm_latest num opened latest fin (Committed t n) e = not_so e
calm_latest num opened latest fin (Aborted t c) e = not_so e
calm_latest num opened latest fin (Invalidate d) e = tt

-- a 21 or 22 is a token, and its transaction is finished
pub end_token : (old : ℕ → Bool) (m : Down) → is_end m ≡ true → token_down old m ≡ true
end_token old (Page l a t v u x) e = not_so (sym e)
end_token old (Deescalate p t) e = e
end_token old (Callback r t set) e = e
end_token old (Committed t n) e = e
end_token old (Aborted t c) e = e
end_token old (Invalidate d) e = e

end_fin : (num : ℕ) (opened : Bool) (latest : ℕ) (fin : Bool) (m : Down) → is_end m ≡ true → Latest num opened latest fin m → fin ≡ true
end_fin num opened latest fin (Page l a t v u x) e h = not_so (sym e)
end_fin num opened latest fin (Deescalate p t) e h = not_so (sym e)
end_fin num opened latest fin (Callback r t set) e h = not_so (sym e)
end_fin num opened latest fin (Committed t n) e h = h.1
end_fin num opened latest fin (Aborted t c) e h = h.1
end_fin num opened latest fin (Invalidate d) e h = not_so (sym e)

-- a waiter's transaction is the open one
pub waiter_open : (kind num : ℕ) (opened : Bool) (v : Wait) (latest : ℕ) (want : Want) (a : ℕ) → is_want want ≡ true → FitWaiter kind num opened v latest want a → (latest ≡ num) × (opened ≡ true)
waiter_open kind num opened v latest NoWant a e f = both false e refl
waiter_open kind num opened v latest WantRead a e f = (f.same refl, f.alive refl)
waiter_open kind num opened v latest WantWrite a e f = (f.same refl, f.alive refl)
waiter_open kind num opened v latest WantCommit a e f = (f.same refl, f.alive refl)

-- begin, and the end of a transaction
begun_over : (num : ℕ) (opened : Bool) (m : Up) → AbortOver num opened m → AbortOver (num + 1) true m
begun_over num opened (ReadRequest a t) h = tt
begun_over num opened (WriteRequest p' t set) h = tt
begun_over num opened (Commit w) h = tt
begun_over num opened (Abort t) h = inl (either h (λ b. omega (arith, b)) (λ b. omega (arith, b.0)))
begun_over num opened (Purge p) h = tt
begun_over num opened (Busy r t) h = tt
begun_over num opened (Done r t d) h = tt
begun_over num opened (WrittenSet p t set) h = tt

page_below : (kind num : ℕ) (opened : Bool) (w : Wait) (l : Lock) (a t : ℕ) (v : ℕ → ℕ) (u : ℕ → Bool) (x : ℕ → ℕ) → FitDown kind num opened w (Page l a t v u x) → t ≤ num
page_below kind num opened w NoLock a t v u x f = f.below
page_below kind num opened w ObjectLock a t v u x f = f.below
page_below kind num opened w WholeLock a t v u x f = f.below

begun_latest : (kind num : ℕ) (opened : Bool) (w : Wait) (latest : ℕ) (fin : Bool) (m : Down) → FitDown kind num opened w m → Latest num opened latest fin m → Latest (num + 1) true latest fin m
begun_latest kind num opened w latest fin (Page l a t v u x) f h = λ z. absurd (omega (arith, eqb_yes t (num + 1) z, page_below kind num opened w l a t v u x f))
begun_latest kind num opened w latest fin (Deescalate p t) f h = tt
begun_latest kind num opened w latest fin (Callback r t set) f h = tt
begun_latest kind num opened w latest fin (Committed t n) f h = h
begun_latest kind num opened w latest fin (Aborted t c) f h = h
begun_latest kind num opened w latest fin (Invalidate d) f h = tt

shut_over : (num : ℕ) (opened : Bool) (m : Up) → AbortOver num opened m → AbortOver num false m
shut_over num opened (ReadRequest a t) h = tt
shut_over num opened (WriteRequest p' t set) h = tt
shut_over num opened (Commit w) h = tt
shut_over num opened (Abort t) h = either h (λ b. inl b) (λ b. inr (b.0, refl))
shut_over num opened (Purge p) h = tt
shut_over num opened (Busy r t) h = tt
shut_over num opened (Done r t d) h = tt
shut_over num opened (WrittenSet p t set) h = tt

shut_latest : (num : ℕ) (opened : Bool) (latest : ℕ) (fin : Bool) (m : Down) → Latest num opened latest fin m → Latest num false latest fin m
shut_latest num opened latest fin (Page l a t v u x) h = λ z. not_so (sym z)
shut_latest num opened latest fin (Deescalate p t) h = tt
shut_latest num opened latest fin (Callback r t set) h = tt
shut_latest num opened latest fin (Committed t n) h = h
shut_latest num opened latest fin (Aborted t c) h = h
shut_latest num opened latest fin (Invalidate d) h = tt

-- ALONG A LINE

every : {A : Type 0} (P : A → Type 0) → ((x : A) → P x) → (l : List A) → All P l
every P f [] = tt
every P f (x ∷ l) = (f x, every P f l)

rising_snoc : (U : List Up) (m : Up) → Rising U → All (λ x. numbered x ≡ true → Above (named x) m) U → Rising (snoc U m)
rising_snoc [] m r a = (λ e. tt, tt)
rising_snoc (x ∷ U) m r a = (λ e. all_snoc (Above (named x)) U m (r.0 e) (a.0 e), rising_snoc U m r.1 a.1)

-- ANSWERS TO 19, 8

first_snoc : (num : ℕ) (U : List Up) (m : Up) → (numbered m ≡ true → num ≤ named m) → All (λ x. answer_number x ≤ num) U → AnswersFirst U → AnswersFirst (snoc U m)
first_snoc num [] m e a h = (tt, tt)
first_snoc num (x ∷ U) m e a h = (all_snoc (λ y. numbered y ≡ true → answer_number x ≤ named y) U m h.0 (λ f. omega (arith, e f, a.0)), first_snoc num U m e a.1 h.1)

-- a longer line has as many 4s
met_more : (num : ℕ) (opened : Bool) (latest : ℕ) (U : List Up) (m x : Up) → Met num opened latest U x → Met num opened latest (snoc U m) x
met_more num opened latest U m x h b = either (h b) (λ e. inl e) (λ e. inr (omega (arith, e, count_snoc (abort_of (answer_number x)) U m)))

met_less : (num : ℕ) (opened : Bool) (latest : ℕ) (U : List Up) (m : Up) → ((t : ℕ) → latest < t → abort_of t m ≡ false) → (x : Up) → Met num opened latest (m ∷ U) x → Met num opened latest U x
met_less num opened latest U m n x h b = either (h b) (λ e. inl e) (λ e. inr (omega (arith, rw (n (answer_number x) b) at e)))

-- a 4 of a number that is not below
low_abort : (t : ℕ) (m : Up) → numbered m ≡ true → named m < t → abort_of t m ≡ false
low_abort t (ReadRequest a u) e b = refl
low_abort t (WriteRequest p u set) e b = refl
low_abort t (Commit w) e b = refl
low_abort t (Abort u) e b = by_eq u t (λ f. absurd (omega (arith, eqb_yes u t f))) (λ f. f)
low_abort t (Purge p) e b = refl
low_abort t (Busy r u) e b = refl
low_abort t (Done r u d) e b = refl
low_abort t (WrittenSet p u set) e b = refl

pub ask_below : (L T : ℕ) → L ≤ T → (m : Down) → AskBelow L m → AskBelow T m
ask_below L T b (Page l a u v x y) c = tt
ask_below L T b (Deescalate q u) c = omega arith
ask_below L T b (Callback r u set) c = tt
ask_below L T b (Committed u n) c = tt
ask_below L T b (Aborted u n) c = tt
ask_below L T b (Invalidate d) c = tt

end_ask : (L : ℕ) (m : Down) → is_end m ≡ true → AskBelow L m
end_ask L (Page l a u v x y) e = tt
end_ask L (Deescalate q u) e = not_so (sym e)
end_ask L (Callback r u set) e = tt
end_ask L (Committed u n) e = tt
end_ask L (Aborted u n) e = tt
end_ask L (Invalidate d) e = tt

-- an 8 comes from a locking station
answer_kind : (kind : ℕ) (m : Up) → KindUp kind m → 0 < answer_number m → locking kind ≡ true
answer_kind kind (ReadRequest a t) k b = absurd (omega arith)
answer_kind kind (WriteRequest p t set) k b = k
answer_kind kind (Commit w) k b = absurd (omega arith)
answer_kind kind (Abort t) k b = k
answer_kind kind (Purge p) k b = absurd (omega arith)
answer_kind kind (Busy r t) k b = k
answer_kind kind (Done r t d) k b = k
answer_kind kind (WrittenSet p t set) k b = k

-- EVENTS
module _ {kind num : ℕ} {opened : Bool} {latest : ℕ} {fin : Bool} {U : List Up} {D : List Down} where
  -- what the station sends

  pub push_up : (m : Up) → KindUp kind m → All (λ x. numbered x ≡ true → Above (named x) m) U → Next latest fin m → AbortOver num opened m → (numbered m ≡ true → num ≤ named m) → answer_number m ≤ num → (latest < answer_number m → (opened ≡ true) × (answer_number m ≡ num)) → Numbers kind num opened latest fin U D → Numbers kind num opened latest fin (snoc U m) D
  push_up m k a n o v w z h =
      record {
        N1_up = all_snoc (KindUp kind) U m h.N1_up k;
        N1_down = h.N1_down;
        N2 = rising_snoc U m h.N2 a;
        N3 = all_snoc (Next latest fin) U m h.N3 n;
        N4 = λ l f. either (h.N4 l f) (λ b. inl b) (λ b. inr (omega (arith, b, count_snoc (abort_of latest) U m)));
        N5 = h.N5;
        N6 = h.N6;
        N7 = all_snoc (AbortOver num opened) U m h.N7 o;
        N8 = h.N8;
        N2s = first_snoc num U m v h.N10a h.N2s;
        N10 = all_snoc (Met num opened latest (snoc U m)) U m (all_map (Met num opened latest U) (Met num opened latest (snoc U m)) (met_more num opened latest U m) U h.N10) (λ b. inl (z b));
        N10a = all_snoc (λ x. answer_number x ≤ num) U m h.N10a w;
        K6a = h.K6a;
      }

  -- kinds 5 to 8; an 8 of the open transaction, or of one that the server has met
  pub answer_up : (m : Up) → numbered m ≡ false → KindUp kind m → answer_number m ≤ num → (latest < answer_number m → (opened ≡ true) × (answer_number m ≡ num)) → Numbers kind num opened latest fin U D → Numbers kind num opened latest fin (snoc U m) D
  answer_up m e k w z h = push_up m k (every (λ x. numbered x ≡ true → Above (named x) m) (λ x f g. both (numbered m) g e) U) (λ g. both (numbered m) g e) (plain_over num opened m e) (λ g. both (numbered m) g e) w z h

  pub plain_up : (m : Up) → numbered m ≡ false → answer_number m ≡ 0 → KindUp kind m → Numbers kind num opened latest fin U D → Numbers kind num opened latest fin (snoc U m) D
  plain_up m e z k h = answer_up m e k (rw z (omega arith)) (λ b. absurd (omega (arith, z, b))) h

  -- what the server sends: no 21 or 22
  pub push_down : (m : Down) → KindDown kind m → Latest num opened latest fin m → AskBelow latest m → Numbers kind num opened latest fin U D → Numbers kind num opened latest fin U (snoc D m)
  push_down m k l b h =
      record {
        N1_up = h.N1_up;
        N1_down = all_snoc (KindDown kind) D m h.N1_down k;
        N2 = h.N2;
        N3 = h.N3;
        N4 = h.N4;
        N5 = λ o e f. omega (arith, h.N5 o e f, count_snoc is_end D m);
        N6 = h.N6;
        N7 = h.N7;
        N8 = all_snoc (Latest num opened latest fin) D m h.N8 l;
        N2s = h.N2s;
        N10 = h.N10;
        N10a = h.N10a;
        K6a = all_snoc (AskBelow latest) D m h.K6a b;
      }

  -- what an end takes from its line
  pub pop_up : (m : Up) → numbered m ≡ false → Numbers kind num opened latest fin (m ∷ U) D → Numbers kind num opened latest fin U D
  pop_up m e h =
      record {
        N1_up = h.N1_up.1;
        N1_down = h.N1_down;
        N2 = h.N2.1;
        N3 = h.N3.1;
        N4 = λ l f. either (h.N4 l f) (λ b. inl b) (λ b. inr (omega (arith, rw (plain_abort latest m e) at b)));
        N5 = h.N5;
        N6 = h.N6;
        N7 = h.N7.1;
        N8 = h.N8;
        N2s = h.N2s.1;
        N10 = all_map (Met num opened latest (m ∷ U)) (Met num opened latest U) (met_less num opened latest U m (λ t b. plain_abort t m e)) U h.N10.1;
        N10a = h.N10a.1;
        K6a = h.K6a;
      }

  pub pop_down : (m : Down) → is_end m ≡ false → Numbers kind num opened latest fin U (m ∷ D) → Numbers kind num opened latest fin U D
  pop_down m e h =
      record {
        N1_up = h.N1_up;
        N1_down = h.N1_down.1;
        N2 = h.N2;
        N3 = h.N3;
        N4 = h.N4;
        N5 = λ o q f. omega (arith, rw e at (h.N5 o q f));
        N6 = h.N6;
        N7 = h.N7;
        N8 = h.N8.1;
        N2s = h.N2s;
        N10 = h.N10;
        N10a = h.N10a;
        K6a = h.K6a.1;
      }

  -- the station begins, while nothing names its next number
  pub begin : (w : Wait) → opened ≡ false → All (FitDown kind num opened w) D → Numbers kind num opened latest fin U D → Numbers kind (num + 1) true latest fin U D
  begin w o f h =
      record {
        N1_up = h.N1_up;
        N1_down = h.N1_down;
        N2 = h.N2;
        N3 = h.N3;
        N4 = λ l g. either (h.N4 l g) (λ b. both opened b.0 o) (λ b. inr b);
        N5 = λ a b c. absurd (omega (arith, h.N6, b));
        N6 = omega (arith, h.N6);
        N7 = all_map (AbortOver num opened) (AbortOver (num + 1) true) (begun_over num opened) U h.N7;
        N8 = all_both (FitDown kind num opened w) (Latest num opened latest fin) (Latest (num + 1) true latest fin) (begun_latest kind num opened w latest fin) D f h.N8;
        N2s = h.N2s;
        N10 = all_map (Met num opened latest U) (Met (num + 1) true latest U) (λ x m b. either (m b) (λ e. both opened e.0 o) (λ e. inr e)) U h.N10;
        N10a = all_map (λ x. answer_number x ≤ num) (λ x. answer_number x ≤ num + 1) (λ x b. omega (arith, b)) U h.N10a;
        K6a = h.K6a;
      }

  -- .. and ends its transaction
  pub shut : locking kind ≡ false → Numbers kind num opened latest fin U D → Numbers kind num false latest fin U D
  shut v h =
      record {
        N1_up = h.N1_up;
        N1_down = h.N1_down;
        N2 = h.N2;
        N3 = h.N3;
        N4 = λ l f. both (locking kind) l v;
        N5 = λ o e f. not_so (sym o);
        N6 = h.N6;
        N7 = all_map (AbortOver num opened) (AbortOver num false) (shut_over num opened) U h.N7;
        N8 = all_map (Latest num opened latest fin) (Latest num false latest fin) (shut_latest num opened latest fin) D h.N8;
        N2s = h.N2s;
        N10 = all_both (KindUp kind) (Met num opened latest U) (Met num false latest U) (λ x k m b. both (locking kind) (answer_kind kind x k (omega arith)) v) U h.N1_up h.N10;
        N10a = h.N10a;
        K6a = h.K6a;
      }

  -- .. by its 21 or 22
  pub took_end : (m : Down) → is_end m ≡ true → latest ≡ num → Numbers kind num opened latest fin U (m ∷ D) → Numbers kind num false latest fin U D
  took_end m e v h =
      let z : fin ≡ true = end_fin num opened latest fin m e h.N8.0 in
      record {
        N1_up = h.N1_up;
        N1_down = h.N1_down.1;
        N2 = h.N2;
        N3 = h.N3;
        N4 = λ l f. both fin z f;
        N5 = λ o q f. not_so (sym o);
        N6 = h.N6;
        N7 = all_map (AbortOver num opened) (AbortOver num false) (shut_over num opened) U h.N7;
        N8 = all_map (Latest num opened latest fin) (Latest num false latest fin) (shut_latest num opened latest fin) D h.N8.1;
        N2s = h.N2s;
        N10 = all_both (λ x. answer_number x ≤ num) (Met num opened latest U) (Met num false latest U) (λ x k m b. absurd (omega (arith, k, v, b))) U h.N10a h.N10;
        N10a = h.N10a;
        K6a = h.K6a.1;
      }

  -- .. by its owner's abort, with a 4
  pub own_abort : locking kind ≡ true → All (λ x. numbered x ≡ true → named x < num) U → (latest < num) ⊎ ((num ≡ latest) × (fin ≡ false)) → Numbers kind num opened latest fin U D → Numbers kind num false latest fin (snoc U (Abort num)) D
  own_abort k a n h =
      let c : count (abort_of latest) (snoc U (Abort num)) ≡ count (abort_of latest) U + cond (eqb num latest) 1 0 = count_snoc (abort_of latest) U (Abort num) in
      record {
        N1_up = all_snoc (KindUp kind) U (Abort num) h.N1_up k;
        N1_down = h.N1_down;
        N2 = rising_snoc U (Abort num) h.N2 (all_map (λ x. numbered x ≡ true → named x < num) (λ x. numbered x ≡ true → Above (named x) (Abort num)) (λ x b e f. b e) U a);
        N3 = all_snoc (Next latest fin) U (Abort num) h.N3 (λ e. n);
        N4 = λ l f.
            inr
            (either (h.N4 l f)
            (λ b.
            let z : eqb num latest ≡ true = rw b.1 (eqb_same num) in
            omega (arith, rw z at c))
            (λ b. omega (arith, b, c)));
        N5 = λ o e f. not_so (sym o);
        N6 = h.N6;
        N7 = all_snoc (AbortOver num false) U (Abort num) (all_map (AbortOver num opened) (AbortOver num false) (shut_over num opened) U h.N7) (inr (refl, refl));
        N8 = all_map (Latest num opened latest fin) (Latest num false latest fin) (shut_latest num opened latest fin) D h.N8;
        N2s = first_snoc num U (Abort num) (λ e. omega arith) h.N10a h.N2s;
        N10 = all_snoc (Met num false latest (snoc U (Abort num))) U (Abort num) (all_map (Met num opened latest U) (Met num false latest (snoc U (Abort num))) over U h.N10) (λ e. absurd (omega arith));
        N10a = all_snoc (λ x. answer_number x ≤ num) U (Abort num) h.N10a (omega arith);
        K6a = h.K6a;
      }
    where
      -- an 8 of the transaction that ends: its 4 is under way now
      over : (x : Up) → Met num opened latest U x → Met num false latest (snoc U (Abort num)) x
      over x m e =
          let c = count_snoc (abort_of (answer_number x)) U (Abort num) in
          either (m e)
          (λ z.
          let y : eqb num (answer_number x) ≡ true = rw z.1 (eqb_same num) in
          inr (omega (arith, rw y at c)))
          (λ z. inr (omega (arith, z, c)))

  -- the server takes a number: it is the latest now, and what is behind it is above it
  pub renumber : (m : Up) → numbered m ≡ true → named m ≤ num → (fin' : Bool) → (locking kind ≡ true → fin' ≡ false → (opened ≡ true) × (named m ≡ num)) → (opened ≡ true → named m ≡ num → fin' ≡ true → ⊥) → Calm num opened D → Numbers kind num opened latest fin (m ∷ U) D → Numbers kind num opened (named m) fin' U D
  renumber m n b fin' x y c h =
      record {
        N1_up = h.N1_up.1;
        N1_down = h.N1_down;
        N2 = h.N2.1;
        N3 = all_map (Above (named m)) (Next (named m) fin') (λ z a e. inl (a e)) U (h.N2.0 n);
        N4 = λ l f. inl (x l f);
        N5 = λ o e f. absurd (y o e f);
        N6 = b;
        N7 = h.N7.1;
        N8 = all_map (λ z. answering num opened z ≡ false) (Latest num opened (named m) fin') (calm_latest num opened (named m) fin') D c;
        N2s = h.N2s.1;
        N10 = all_map (Met num opened latest (m ∷ U)) (Met num opened (named m) U) later U h.N10.1;
        N10a = h.N10a.1;
        K6a = all_map (AskBelow latest) (AskBelow (named m)) (ask_below latest (named m) up) D h.K6a;
      }
    where
      up : latest ≤ named m
      up = either (h.N3.0 n) (λ e. omega (arith, e)) (λ e. omega (arith, e.0))

      later : (x : Up) → Met num opened latest (m ∷ U) x → Met num opened (named m) U x
      later x k e = either (k (omega (arith, e, up))) (λ z. inl z) (λ z. inr (omega (arith, rw (low_abort (answer_number x) m n e) at z)))

  -- .. and finishes the latest, with a 21 or 22
  pub finished : (m : Down) → is_end m ≡ true → KindDown kind m → Latest num opened latest true m → Calm num opened D → All (Above latest) U → Numbers kind num opened latest fin U D → Numbers kind num opened latest true U (snoc D m)
  finished m e k l c a h =
      record {
        N1_up = h.N1_up;
        N1_down = all_snoc (KindDown kind) D m h.N1_down k;
        N2 = h.N2;
        N3 = all_map (Above latest) (Next latest true) (λ z b f. inl (b f)) U a;
        N4 = λ o f. not_so f;
        N5 = λ o q f. omega (arith, rw e at (count_snoc is_end D m));
        N6 = h.N6;
        N7 = h.N7;
        N8 = all_snoc (Latest num opened latest true) D m (all_map (λ z. answering num opened z ≡ false) (Latest num opened latest true) (calm_latest num opened latest true) D c) l;
        N2s = h.N2s;
        N10 = h.N10;
        N10a = h.N10a;
        K6a = all_snoc (AskBelow latest) D m h.K6a (end_ask latest m e);
      }

  -- an 8 brings transaction T, which the server has not met: the one before is finished, and nothing answers the open one
  pub met : (p T : ℕ) (set : ℕ → Bool) → latest < T → Calm num opened D → Numbers kind num opened latest fin (WrittenSet p T set ∷ U) D → Numbers kind num opened T false U D
  met p T set b c h =
      record {
        N1_up = h.N1_up.1;
        N1_down = h.N1_down;
        N2 = h.N2.1;
        N3 = all_map (λ x. numbered x ≡ true → T ≤ named x) (Next T false) (λ x a e. by_eq (named x) T (λ q. inr (eqb_yes (named x) T q, refl)) (λ q. inl (omega (arith, a e, eqb_no (named x) T q)))) U h.N2s.0;
        N4 = λ l f. either (h.N10.0 b) (λ e. inl (e.0, e.1)) (λ e. inr (omega arith));
        N5 = λ o e f. not_so (sym f);
        N6 = h.N10a.0;
        N7 = h.N7.1;
        N8 = all_map (λ z. answering num opened z ≡ false) (Latest num opened T false) (calm_latest num opened T false) D c;
        N2s = h.N2s.1;
        N10 = all_map (Met num opened latest (WrittenSet p T set ∷ U)) (Met num opened T U) (λ x k e. either (k (omega (arith, e, b))) (λ z. inl z) (λ z. inr (omega (arith, z)))) U h.N10.1;
        N10a = h.N10a.1;
        K6a = all_map (AskBelow latest) (AskBelow T) (ask_below latest T (omega arith)) D h.K6a;
      }

-- WHILE A STATION IS QUIET: it has no token under way
module _ {skind kind num : ℕ} {opened : Bool} {q : Waiter} {U : List Up} {D : List Down} (k : Quiet skind kind num opened q U D) where
  pub quiet_calm : Calm num opened D
  quiet_calm = all_map (λ x. token_down (stale kind num opened) x ≡ false) (λ x. answering num opened x ≡ false) (token_calm kind num opened) D (count_none (token_down (stale kind num opened)) D k.no_down)

  module _ {latest : ℕ} {fin : Bool} (o : opened ≡ true) (h : Numbers kind num opened latest fin U D) where
    -- the numbers under way are older than its open transaction
    pub quiet_old : All (λ x. numbered x ≡ true → named x < num) U
    quiet_old =
        all_both (λ x. token_up (stale kind num opened) x ≡ false) (λ x. FitUp kind num opened Idle x × AbortOver num opened x) (λ x. numbered x ≡ true → named x < num)
        (λ x a b. up_old kind num opened Idle o x a b.0 b.1) U (count_none (token_up (stale kind num opened)) U k.no_up)
        (all_both (FitUp kind num opened Idle) (AbortOver num opened) (λ x. FitUp kind num opened Idle x × AbortOver num opened x) (λ x a b. (a, b)) U (k.fits_up Idle) h.N7)

    -- the server would take its number
    pub quiet_next : (latest < num) ⊎ ((num ≡ latest) × (fin ≡ false))
    quiet_next =
        by_eq latest num
        (λ e.
        by_b fin
        (λ f. absurd (omega (arith, h.N5 o (eqb_yes latest num e) f, count_less is_end (token_down (stale kind num opened)) (end_token (stale kind num opened)) D, k.no_down)))
        (λ f. inr (sym (eqb_yes latest num e), f)))
        (λ e. inl (omega (arith, h.N6, eqb_no latest num e)))

    -- if the server has noticed it, nothing under way names it again
    pub quiet_above : latest ≡ num → All (Above latest) U
    quiet_above e =
        all_both (λ x. numbered x ≡ true → named x < num) (Next latest fin) (Above latest)
        (λ x a b f. either (b f) (λ y. y) (λ y. absurd (omega (arith, a f, y.0, e)))) U quiet_old h.N3

-- A NUMBER AT THE HEAD OF THE LINE: no page for the open transaction, 21 or 22 comes down
module _ (kind num : ℕ) (opened : Bool) (w : Wait) (latest : ℕ) (fin : Bool) (t : ℕ) (b : t ≤ num) (o : opened ≡ true → t < num) (n : (latest < t) ⊎ ((t ≡ latest) × (fin ≡ false))) where
  head_calm : (x : Down) → FitDown kind num opened w x → Latest num opened latest fin x → answering num opened x ≡ false
  head_calm (Page l a u v s y) f h =
      by_b (opened && eqb u num)
      (λ z.
      let c : u ≡ num = eqb_yes u num (and_r opened (eqb u num) z) in
      let d : t < num = o (and_l opened (eqb u num) z) in
      let e : u ≡ latest = (h z).0 in
      absurd (either n (λ g. omega (arith, g)) (λ g. omega (arith, g.0))))
      (λ z. z)
  head_calm (Deescalate p u) f h = refl
  head_calm (Callback r u set) f h = refl
  head_calm (Committed u c) f h = either n (λ g. absurd (omega (arith, f.same refl, h.0, g))) (λ g. both fin h.1 g.1)
  head_calm (Aborted u c) f h = either n (λ g. absurd (omega (arith, f.same refl, h.0, g))) (λ g. both fin h.1 g.1)
  head_calm (Invalidate d) f h = refl

-- AN 8 OF A TRANSACTION NOT MET, behind a finished one: nothing that answers the open one comes down
new_calm : (kind num : ℕ) (opened : Bool) (w : Wait) (latest : ℕ) (fin : Bool) (t : ℕ) → t ≤ num → latest < t → fin ≡ true → (x : Down) → FitDown kind num opened w x → Latest num opened latest fin x → answering num opened x ≡ false
new_calm kind num opened w latest fin t b n e (Page l a u v s y) f h = by_b (opened && eqb u num) (λ z. both fin e (h z).1) (λ z. z)
new_calm kind num opened w latest fin t b n e (Deescalate p u) f h = refl
new_calm kind num opened w latest fin t b n e (Callback r u set) f h = refl
new_calm kind num opened w latest fin t b n e (Committed u c) f h = absurd (omega (arith, f.same refl, h.0))
new_calm kind num opened w latest fin t b n e (Aborted u c) f h = absurd (omega (arith, f.same refl, h.0))
new_calm kind num opened w latest fin t b n e (Invalidate d) f h = refl

pub met_calm : {skind kind num : ℕ} {opened : Bool} {rd wr : ℕ → Val} {w : Wait} {q : Waiter} {latest : ℕ} {fin : Bool} {U : List Up} {D : List Down} (p T : ℕ) (set : ℕ → Bool) → latest < T → fin ≡ true → Tokens skind kind num opened rd wr w q latest fin (WrittenSet p T set ∷ U) D → Numbers kind num opened latest fin (WrittenSet p T set ∷ U) D → Calm num opened D
met_calm {skind} {kind} {num} {opened} {rd} {wr} {w} {q} {latest} {fin} {U} {D} p T set b e k h =
    all_both (FitDown kind num opened w) (Latest num opened latest fin) (λ x. answering num opened x ≡ false) (new_calm kind num opened w latest fin T h.N10a.0 b e) D k.S1b_down h.N8

pub number_calm : {skind kind num : ℕ} {opened : Bool} {rd wr : ℕ → Val} {w : Wait} {q : Waiter} {latest : ℕ} {fin : Bool} {U : List Up} {D : List Down} (m : Up) → numbered m ≡ true → Tokens skind kind num opened rd wr w q latest fin (m ∷ U) D → Numbers kind num opened latest fin (m ∷ U) D → Calm num opened D
number_calm {skind} {kind} {num} {opened} {rd} {wr} {w} {q} {latest} {fin} {U} {D} m n k h =
    by_b (token_up (stale kind num opened) m) (λ e. quiet_calm (took_up m e k))
    (λ e.
    all_both (FitDown kind num opened w) (Latest num opened latest fin) (λ x. answering num opened x ≡ false)
    (head_calm kind num opened w latest fin (named m) (up_below kind num opened w m k.S1b_up.0 h.N7.0 n) (λ o. up_old kind num opened w o m e k.S1b_up.0 h.N7.0 n) (h.N3.0 n))
    D k.S1b_down h.N8)
