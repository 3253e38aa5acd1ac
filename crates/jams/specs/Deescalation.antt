-- De-escalation of page p at station i (K4, K6, K10): what one event does to it. Over values only.
use Rattle.std.specs.Prelude.{◌≡◌, refl, Bool, true, false, ◌&&◌, cond, List, [], ◌∷◌, ◌⊎◌, ◌≢◌, ℕ, zero, suc, ◌+◌, ◌≤◌, ◌<◌, eqb}
use Rattle.std.proofs.Common.{sym, ap, ◌∙◌, inl, inr, arith}
use Rattle.std.proofs.lemmas.Bool.{false≢true}
use Rattle.sets.specs.Base.{snoc, Val, some, has, none_at, none}
use Rattle.sets.specs.Laws.{by_b, by_eq}
use Rattle.sets.proofs.Laws.{eqb_same, eqb_yes, and_l, and_r}
use Rattle.line.specs.All.{All, all_map}
use Rattle.line.specs.Messages.{page_of, Up, ReadRequest, WriteRequest, Commit, Abort, Purge, Busy, Done, WrittenSet, Down, Page, Deescalate, Callback, Committed, Aborted, Invalidate}
use Rattle.line.specs.Server.{Want, NoWant, WantRead, WantWrite, WantCommit}
use Rattle.line.specs.Truth.{count}
use Rattle.truth.specs.Clauses.{ask_of, set_of, ask_tokens}
use Rattle.truth.proofs.Frame.{one_most, count_snoc, all_snoc, count_none, none_count}
use Rattle.truth.specs.GoalsLists.{either}
use Rattle.jams.specs.Until.{until_snoc, until_none, until_pop}
use Rattle.jams.specs.Clauses.{grants_whole, asks_lock, AskBelow, SetBelow, SetFull, SetWritten, NoWholeBehind, gives_up, Deescalation}
use Rattle.line.specs.Station.{or_val}

-- a wait for a lock
abbrev pub is_write : Want → Bool
is_write NoWant = false
is_write WantRead = false
is_write WantWrite = true
is_write WantCommit = false

-- ALONG A DOWN LINE

-- some message passes, or none
pub some_or_none : {G : Type 0} (n : ℕ) → (1 ≤ n → G) → (n ≡ 0 → G) → G
some_or_none zero s z = z refl
some_or_none (suc n) s z = s (omega arith)

module _ (p t : ℕ) where
  pub behind_snoc : (D : List Down) (m : Down) → grants_whole p m ≡ false → NoWholeBehind p t D → NoWholeBehind p t (snoc D m)
  behind_snoc [] m e h = (λ q. refl, tt)
  behind_snoc (k ∷ D) m e h = (λ q. count_snoc (grants_whole p) D m ∙ rw e (omega (arith, h.0 q)), behind_snoc D m e h.1)

  -- no 19, so nothing is behind one
  pub behind_none : (D : List Down) → count (ask_of p t) D ≡ 0 → NoWholeBehind p t D
  behind_none [] e = tt
  behind_none (k ∷ D) e =
      let rest : count (ask_of p t) D ≡ 0 → NoWholeBehind p t D = behind_none D in
      by_b (ask_of p t k) (λ q. absurd (omega (arith, rw q at e))) (λ q. (λ f. absurd (false≢true (sym q ∙ f)), rest (omega (arith, rw q at e))))

-- WHAT TOKENS NAME

-- not above the latest, so not above a later one
ask_below : (L T : ℕ) → L ≤ T → (m : Down) → AskBelow L m → AskBelow T m
ask_below L T b (Page l a u v x y) c = tt
ask_below L T b (Deescalate q u) c = omega arith
ask_below L T b (Callback r u set) c = tt
ask_below L T b (Committed u n) c = tt
ask_below L T b (Aborted u n) c = tt
ask_below L T b (Invalidate d) c = tt

set_below : (L T : ℕ) → L ≤ T → (m : Up) → SetBelow L m → SetBelow T m
set_below L T b (ReadRequest a u) c = tt
set_below L T b (WriteRequest p' u set) c = tt
set_below L T b (Commit w) c = tt
set_below L T b (Abort u) c = tt
set_below L T b (Purge q) c = tt
set_below L T b (Busy r u) c = tt
set_below L T b (Done r u d) c = tt
set_below L T b (WrittenSet q u set) c = omega arith

-- .. and none names a later one
above : (q p u L T : ℕ) → L < T → u ≤ L → (eqb q p && eqb u T) ≡ false
above q p u L T b c = by_eq q p (λ e. by_eq u T (λ f. absurd (omega (arith, eqb_yes u T f))) (λ f. rw (e, f) refl)) (λ e. rw e refl)

ask_above : (p L T : ℕ) → L < T → (m : Down) → AskBelow L m → ask_of p T m ≡ false
ask_above p L T b (Page l a u v x y) c = refl
ask_above p L T b (Deescalate q u) c = above q p u L T b c
ask_above p L T b (Callback r u set) c = refl
ask_above p L T b (Committed u n) c = refl
ask_above p L T b (Aborted u n) c = refl
ask_above p L T b (Invalidate d) c = refl

set_above : (p L T : ℕ) → L < T → (m : Up) → SetBelow L m → set_of p T m ≡ false
set_above p L T b (ReadRequest a u) c = refl
set_above p L T b (WriteRequest p' u set) c = refl
set_above p L T b (Commit w) c = refl
set_above p L T b (Abort u) c = refl
set_above p L T b (Purge q) c = refl
set_above p L T b (Busy r u) c = refl
set_above p L T b (Done r u d) c = refl
set_above p L T b (WrittenSet q u set) c = above q p u L T b c

-- the two tests of a token
token : (q p u L : ℕ) → q ≡ p → u ≡ L → (eqb q p && eqb u L) ≡ true
token q p u L e f = rw (e, f, eqb_same p, eqb_same L) refl

-- no token, so nothing that K4 and K4b speak of
full_none : (i p L : ℕ) (wr : ℕ → Val) (OL : ℕ → ℕ) (m : Up) → set_of p L m ≡ false → SetFull i p L wr OL m
full_none i p L wr OL (ReadRequest a u) c = tt
full_none i p L wr OL (WriteRequest p' u set) c = tt
full_none i p L wr OL (Commit w) c = tt
full_none i p L wr OL (Abort u) c = tt
full_none i p L wr OL (Purge q) c = tt
full_none i p L wr OL (Busy r u) c = tt
full_none i p L wr OL (Done r u d) c = tt
full_none i p L wr OL (WrittenSet q u set) c = λ e f. absurd (false≢true (sym c ∙ token q p u L e f))

written_none : (p L : ℕ) (wr : ℕ → Val) (m : Up) → set_of p L m ≡ false → SetWritten p L wr m
written_none p L wr (ReadRequest a u) c = tt
written_none p L wr (WriteRequest p' u set) c = tt
written_none p L wr (Commit w) c = tt
written_none p L wr (Abort u) c = tt
written_none p L wr (Purge q) c = tt
written_none p L wr (Busy r u) c = tt
written_none p L wr (Done r u d) c = tt
written_none p L wr (WrittenSet q u set) c = λ e f. absurd (false≢true (sym c ∙ token q p u L e f))

all_full_none : (i p L : ℕ) (wr : ℕ → Val) (OL : ℕ → ℕ) (U : List Up) → count (set_of p L) U ≡ 0 → All (SetFull i p L wr OL) U
all_full_none i p L wr OL U e = all_map (λ m. set_of p L m ≡ false) (SetFull i p L wr OL) (full_none i p L wr OL) U (count_none (set_of p L) U e)

-- what is locked stays locked, what is written stays written
full_keeps : (i p L : ℕ) (wr wr' : ℕ → Val) (OL OL' : ℕ → ℕ)
    → ((a : ℕ) → page_of a ≡ p → OL a ≡ suc i → OL' a ≡ suc i)
    → ((a : ℕ) → page_of a ≡ p → has (wr' a) ≡ true → (has (wr a) ≡ true) ⊎ (OL' a ≡ suc i))
    → (m : Up) → SetFull i p L wr OL m → SetFull i p L wr' OL' m
full_keeps i p L wr wr' OL OL' l w (ReadRequest a u) c = tt
full_keeps i p L wr wr' OL OL' l w (WriteRequest p' u set) c = tt
full_keeps i p L wr wr' OL OL' l w (Commit k) c = tt
full_keeps i p L wr wr' OL OL' l w (Abort u) c = tt
full_keeps i p L wr wr' OL OL' l w (Purge q) c = tt
full_keeps i p L wr wr' OL OL' l w (Busy r u) c = tt
full_keeps i p L wr wr' OL OL' l w (Done r u d) c = tt
full_keeps i p L wr wr' OL OL' l w (WrittenSet q u set) c =
    λ e f a g h. either (w a g h) (λ x. either (c e f a g x) (λ y. inl y) (λ y. inr (l a g y))) (λ x. inr x)

pub written_keeps : (p L : ℕ) (wr wr' : ℕ → Val) → ((a : ℕ) → has (wr a) ≡ true → has (wr' a) ≡ true) → (m : Up) → SetWritten p L wr m → SetWritten p L wr' m
written_keeps p L wr wr' w (ReadRequest a u) c = tt
written_keeps p L wr wr' w (WriteRequest p' u set) c = tt
written_keeps p L wr wr' w (Commit k) c = tt
written_keeps p L wr wr' w (Abort u) c = tt
written_keeps p L wr wr' w (Purge q) c = tt
written_keeps p L wr wr' w (Busy r u) c = tt
written_keeps p L wr wr' w (Done r u d) c = tt
written_keeps p L wr wr' w (WrittenSet q u set) c = λ e f a g. w a (c e f a g)

-- THE LINES

-- a message taken: fewer tokens. Of the up line, none that gives the page up while it is held
module _ {i p kind num : ℕ} {o : Bool} {wr : ℕ → Val} {wl : Bool} {OL : ℕ → ℕ} {WL : ℕ} {asked : Bool} {want : Want} {req L : ℕ} {F : Bool} {U : List Up} {D : List Down} where
  pub pop_down : (m : Down) → Deescalation i p kind num o wr wl OL WL asked want req L F U (m ∷ D) → Deescalation i p kind num o wr wl OL WL asked want req L F U D
  pop_down m h =
      record {
        K4 = h.K4;
        K4b = h.K4b;
        K6a_down = h.K6a_down.1;
        K6a_up = h.K6a_up;
        K6b = λ f n. h.K6b f (omega arith);
        K6c = λ f. omega (arith, h.K6c f);
        K6d_up = λ f n. let g = h.K6d_up f n in (g.0, omega (arith, g.1));
        K6d_down = λ f. (h.K6d_down f).1;
        K10 = h.K10;
        K10_up = h.K10_up;
      }

  pub pop_up : (m : Up) → (WL ≡ suc i → gives_up p L m ≡ false) → Deescalation i p kind num o wr wl OL WL asked want req L F (m ∷ U) D → Deescalation i p kind num o wr wl OL WL asked want req L F U D
  pop_up m e h =
      record {
        K4 = λ a b c d. (h.K4 a b c d).1;
        K4b = λ a b c. (h.K4b a b c).1;
        K6a_down = h.K6a_down;
        K6a_up = h.K6a_up.1;
        K6b = λ f n. h.K6b f (omega arith);
        K6c = λ f. omega (arith, h.K6c f);
        K6d_up = λ f n. h.K6d_up f (omega arith);
        K6d_down = h.K6d_down;
        K10 = h.K10;
        K10_up = λ w. until_pop (gives_up p L) (asks_lock p) m U (e w) (h.K10_up w);
      }

  -- a message sent that is no token; one that asks for a lock comes behind an 8 or 4, if the page is held
  pub push_down : (m : Down) → ask_of p L m ≡ false → AskBelow L m → grants_whole p m ≡ false → Deescalation i p kind num o wr wl OL WL asked want req L F U D → Deescalation i p kind num o wr wl OL WL asked want req L F U (snoc D m)
  push_down m e b g h =
      let c : count (ask_of p L) (snoc D m) ≡ count (ask_of p L) D = count_snoc (ask_of p L) D m ∙ rw e (omega arith) in
      let d : count (grants_whole p) (snoc D m) ≡ count (grants_whole p) D = count_snoc (grants_whole p) D m ∙ rw g (omega arith) in
      record {
        K4 = h.K4;
        K4b = h.K4b;
        K6a_down = all_snoc (AskBelow L) D m h.K6a_down b;
        K6a_up = h.K6a_up;
        K6b = λ f n. h.K6b f (omega arith);
        K6c = λ f. omega (arith, h.K6c f);
        K6d_up = λ f n. let k = h.K6d_up f n in (k.0, d ∙ k.1);
        K6d_down = λ f. behind_snoc p L D m g (h.K6d_down f);
        K10 = h.K10;
        K10_up = h.K10_up;
      }

  pub push_up : (m : Up) → set_of p L m ≡ false → SetBelow L m → (asks_lock p m ≡ true → WL ≡ suc i → 1 ≤ count (gives_up p L) U) → Deescalation i p kind num o wr wl OL WL asked want req L F U D → Deescalation i p kind num o wr wl OL WL asked want req L F (snoc U m) D
  push_up m e b g h =
      let c : count (set_of p L) (snoc U m) ≡ count (set_of p L) U = count_snoc (set_of p L) U m ∙ rw e (omega arith) in
      record {
        K4 = λ a f n w. all_snoc (SetFull i p L wr OL) U m (h.K4 a f n w) (full_none i p L wr OL m e);
        K4b = λ a f n. all_snoc (SetWritten p L wr) U m (h.K4b a f n) (written_none p L wr m e);
        K6a_down = h.K6a_down;
        K6a_up = all_snoc (SetBelow L) U m h.K6a_up b;
        K6b = λ f n. h.K6b f (omega arith);
        K6c = λ f. omega (arith, h.K6c f);
        K6d_up = λ f n. h.K6d_up f (omega arith);
        K6d_down = h.K6d_down;
        K10 = h.K10;
        K10_up = λ w. until_snoc (gives_up p L) (asks_lock p) U m (λ t. g t w) (h.K10_up w);
      }

  -- THE STATION

  -- a 19 is answered with an 8: the token moves
  pub answers : (q t : ℕ) (set : ℕ → Bool) (wl' : Bool)
      → (q ≡ p → t ≡ L → o ≡ true → L ≡ num → (a : ℕ) → page_of a ≡ p → has (wr a) ≡ true → set a ≡ true)
      → ((a : ℕ) → set a ≡ true → has (wr a) ≡ true)
      → (wl ≡ false → wl' ≡ false) → (q ≡ p → t ≡ L → wl' ≡ false)
      → Deescalation i p kind num o wr wl OL WL asked want req L F U (Deescalate q t ∷ D)
      → Deescalation i p kind num o wr wl' OL WL asked want req L F (snoc U (WrittenSet q t set)) D
  answers q t set wl' s r y z h =
      let m : Up = WrittenSet q t set in
      let c = count_snoc (set_of p L) U m in
      record {
        K4 = λ a f n w. all_snoc (SetFull i p L wr OL) U m (h.K4 a f n w) (λ e g b k x. inl (s e g a n b k x));
        K4b = λ a f n. all_snoc (SetWritten p L wr) U m (h.K4b a f n) (λ e g b x. r b x);
        K6a_down = h.K6a_down.1;
        K6a_up = all_snoc (SetBelow L) U m h.K6a_up h.K6a_down.0;
        K6b = λ f n. h.K6b f (omega arith);
        K6c = λ f. omega (arith, h.K6c f);
        K6d_up = λ f n.
            by_b (eqb q p && eqb t L)
            (λ e. (z (eqb_yes q p (and_l (eqb q p) (eqb t L) e)) (eqb_yes t L (and_r (eqb q p) (eqb t L) e)), (h.K6d_down f).0 e))
            (λ e. let g = h.K6d_up f (omega (arith, rw e at c)) in (y g.0, omega (arith, g.1)));
        K6d_down = λ f. (h.K6d_down f).1;
        K10 = h.K10;
        K10_up = λ w. until_snoc (gives_up p L) (asks_lock p) U m (λ e. absurd (false≢true e)) (h.K10_up w);
      }

module _ {i p kind num : ℕ} {o : Bool} {wr : ℕ → Val} {wl : Bool} {OL : ℕ → ℕ} {WL : ℕ} {asked : Bool} {want : Want} {req L : ℕ} {F : Bool} {U : List Up} {D : List Down} (h : Deescalation i p kind num o wr wl OL WL asked want req L F U D) where
  -- a transaction begins: the server has not heard of it
  pub opens : L ≤ num → Deescalation i p kind (num + 1) true wr wl OL WL asked want req L F U D
  opens b =
      record {
        K4 = λ a f n w. absurd (omega arith);
        K4b = λ a f n. absurd (omega arith);
        K6a_down = h.K6a_down;
        K6a_up = h.K6a_up;
        K6b = h.K6b;
        K6c = h.K6c;
        K6d_up = h.K6d_up;
        K6d_down = h.K6d_down;
        K10 = h.K10;
        K10_up = h.K10_up;
      }

  -- .. and ends
  pub ends : (kind' num' : ℕ) → Deescalation i p kind' num' false none_at false OL WL asked want req L F U D
  ends kind' num' =
      record {
        K4 = λ a f n w. absurd (false≢true a);
        K4b = λ a f n. absurd (false≢true a);
        K6a_down = h.K6a_down;
        K6a_up = h.K6a_up;
        K6b = h.K6b;
        K6c = h.K6c;
        K6d_up = λ f n. (refl, (h.K6d_up f n).1);
        K6d_down = h.K6d_down;
        K10 = h.K10;
        K10_up = h.K10_up;
      }

  -- a set is written; where an 8 of its page is under way each was written before, or is locked by itself
  pub writes : (f : ℕ → Val) → (F ≡ false → 1 ≤ count (set_of p L) U → (a : ℕ) → has (f a) ≡ true → page_of a ≡ p → (has (wr a) ≡ true) ⊎ (OL a ≡ suc i)) → Deescalation i p kind num o (λ a. or_val (f a) (wr a)) wl OL WL asked want req L F U D
  writes f e =
      record {
        K4 = λ x g n w.
            some_or_none (count (set_of p L) U)
            (λ s.
            all_map (SetFull i p L wr OL) (SetFull i p L (λ a. or_val (f a) (wr a)) OL)
            (full_keeps i p L wr (λ a. or_val (f a) (wr a)) OL OL (λ b c k. k)
            (λ b c k. before b (f b) refl c k (e g s)))
            U (h.K4 x g n w))
            (λ s. all_full_none i p L (λ a. or_val (f a) (wr a)) OL U s);
        K4b = λ x g n. all_map (SetWritten p L wr) (SetWritten p L (λ a. or_val (f a) (wr a))) (written_keeps p L wr (λ a. or_val (f a) (wr a)) (λ b k. still (f b) (wr b) k)) U (h.K4b x g n);
        K6a_down = h.K6a_down;
        K6a_up = h.K6a_up;
        K6b = h.K6b;
        K6c = h.K6c;
        K6d_up = h.K6d_up;
        K6d_down = h.K6d_down;
        K10 = h.K10;
        K10_up = h.K10_up;
      }
    where
      still : (v w : Val) → has w ≡ true → has (or_val v w) ≡ true
      still none w k = k
      still (some x) w k = refl

      before : (b : ℕ) (v : Val) → f b ≡ v → page_of b ≡ p → has (or_val v (wr b)) ≡ true → ((a : ℕ) → has (f a) ≡ true → page_of a ≡ p → (has (wr a) ≡ true) ⊎ (OL a ≡ suc i)) → (has (wr b) ≡ true) ⊎ (OL b ≡ suc i)
      before b none q c k g = inl k
      before b (some x) q c k g = g b (ap has q) c

  -- the station has the page whole, or no more
  pub holds : (wl' : Bool) → (F ≡ false → 1 ≤ count (set_of p L) U → wl' ≡ false) → Deescalation i p kind num o wr wl' OL WL asked want req L F U D
  holds wl' e =
      record {
        K4 = h.K4;
        K4b = h.K4b;
        K6a_down = h.K6a_down;
        K6a_up = h.K6a_up;
        K6b = h.K6b;
        K6c = h.K6c;
        K6d_up = λ f n. (e f n, (h.K6d_up f n).1);
        K6d_down = h.K6d_down;
        K10 = h.K10;
        K10_up = h.K10_up;
      }

  -- THE SERVER

  -- no lock of the station's, or not asked for: no token
  pub no_token : F ≡ false → (WL ≡ suc i → asked ≡ true → ⊥) → ask_tokens p L U D ≡ 0
  no_token f n = some_or_none (ask_tokens p L U D) (λ s. let g = h.K6b f s in absurd (n g.0 g.1)) (λ z. z)

  -- its entry of the waiting list changes
  pub waits_for : (want' : Want) (req' : ℕ) → (want' ≡ WantWrite → page_of req' ≡ p → WL ≢ suc i) → Deescalation i p kind num o wr wl OL WL asked want' req' L F U D
  waits_for want' req' e =
      record {
        K4 = h.K4;
        K4b = h.K4b;
        K6a_down = h.K6a_down;
        K6a_up = h.K6a_up;
        K6b = h.K6b;
        K6c = h.K6c;
        K6d_up = h.K6d_up;
        K6d_down = h.K6d_down;
        K10 = e;
        K10_up = h.K10_up;
      }

  -- locks change, but not the station's on the page
  pub others : (OL' : ℕ → ℕ) (WL' : ℕ) (asked' : Bool) → (WL' ≡ suc i → WL ≡ suc i) → (WL ≡ suc i → asked ≡ true → (WL' ≡ suc i) × (asked' ≡ true)) → (WL' ≡ suc i → (a : ℕ) → page_of a ≡ p → OL a ≡ suc i → OL' a ≡ suc i) → Deescalation i p kind num o wr wl OL' WL' asked' want req L F U D
  others OL' WL' asked' b c e =
      record {
        K4 = λ x f n w. all_map (SetFull i p L wr OL) (SetFull i p L wr OL') (full_keeps i p L wr wr OL OL' (e w) (λ a g k. inl k)) U (h.K4 x f n (b w));
        K4b = h.K4b;
        K6a_down = h.K6a_down;
        K6a_up = h.K6a_up;
        K6b = λ f n. let g = h.K6b f n in c g.0 g.1;
        K6c = h.K6c;
        K6d_up = h.K6d_up;
        K6d_down = h.K6d_down;
        K10 = λ x y w. h.K10 x y (b w);
        K10_up = λ w. h.K10_up (b w);
      }

  -- a new transaction: every token is older
  pub begun : (T : ℕ) → L < T → WL ≢ suc i → Deescalation i p kind num o wr wl OL WL asked want req T false U D
  begun T b n =
      let x : count (ask_of p T) D ≡ 0 = none_count (ask_of p T) D (all_map (AskBelow L) (λ m. ask_of p T m ≡ false) (ask_above p L T b) D h.K6a_down) in
      let z = all_map (SetBelow L) (λ m. set_of p T m ≡ false) (set_above p L T b) U h.K6a_up in
      let y : count (set_of p T) U ≡ 0 = none_count (set_of p T) U z in
      record {
        K4 = λ a f e w. absurd (n w);
        K4b = λ a f e. all_map (λ m. set_of p T m ≡ false) (SetWritten p T wr) (written_none p T wr) U z;
        K6a_down = all_map (AskBelow L) (AskBelow T) (ask_below L T (omega arith)) D h.K6a_down;
        K6a_up = all_map (SetBelow L) (SetBelow T) (set_below L T (omega arith)) U h.K6a_up;
        K6b = λ f m. absurd (omega arith);
        K6c = λ f. omega arith;
        K6d_up = λ f m. absurd (omega arith);
        K6d_down = λ f. behind_none p T D x;
        K10 = λ a e. n;
        K10_up = λ w. absurd (n w);
      }

  -- the transaction is over, and its locks are gone
  pub over : (OL' : ℕ → ℕ) (WL' : ℕ) (asked' : Bool) → WL' ≢ suc i → Deescalation i p kind num o wr wl OL' WL' asked' want req L true U D
  over OL' WL' asked' n =
      record {
        K4 = λ a f e w. absurd (false≢true (sym f));
        K4b = λ a f e. absurd (false≢true (sym f));
        K6a_down = h.K6a_down;
        K6a_up = h.K6a_up;
        K6b = λ f m. absurd (false≢true (sym f));
        K6c = λ f. absurd (false≢true (sym f));
        K6d_up = λ f m. absurd (false≢true (sym f));
        K6d_down = λ f. absurd (false≢true (sym f));
        K10 = λ a e. n;
        K10_up = λ w. absurd (n w);
      }

  -- 19 is sent for the page that it holds, for the first time
  pub asks : WL ≡ suc i → asked ≡ false → Deescalation i p kind num o wr wl OL WL true want req L F U (snoc D (Deescalate p L))
  asks w n =
      let m : Down = Deescalate p L in
      let c = count_snoc (ask_of p L) D m in
      let z : F ≡ false → ask_tokens p L U D ≡ 0 = λ f. no_token f (λ a b. false≢true (sym n ∙ b)) in
      record {
        K4 = h.K4;
        K4b = h.K4b;
        K6a_down = all_snoc (AskBelow L) D m h.K6a_down (omega arith);
        K6a_up = h.K6a_up;
        K6b = λ f k. (w, refl);
        K6c = λ f. omega (arith, z f, one_most (eqb p p && eqb L L));
        K6d_up = λ f k. absurd (omega (arith, z f));
        K6d_down = λ f. behind_snoc p L D m refl (h.K6d_down f);
        K10 = h.K10;
        K10_up = h.K10_up;
      }

  -- 18 is sent for the page to a waiter that did not hold it: there is no token, and no other request
  pub grants : (m : Down) → ask_of p L m ≡ false → AskBelow L m → (WL' : ℕ) (asked' : Bool) → WL ≢ suc i → count (asks_lock p) U ≡ 0 → Deescalation i p kind num o wr wl OL WL' asked' NoWant 0 L F U (snoc D m)
  grants m e b WL' asked' n g =
      let c : count (ask_of p L) (snoc D m) ≡ count (ask_of p L) D = count_snoc (ask_of p L) D m ∙ rw e (omega arith) in
      let z : F ≡ false → ask_tokens p L U D ≡ 0 = λ f. no_token f (λ a k. n a) in
      record {
        K4 = λ a f x w. all_full_none i p L wr OL U (omega (arith, z f));
        K4b = h.K4b;
        K6a_down = all_snoc (AskBelow L) D m h.K6a_down b;
        K6a_up = h.K6a_up;
        K6b = λ f k. absurd (omega (arith, z f));
        K6c = λ f. omega (arith, z f);
        K6d_up = λ f k. absurd (omega (arith, z f));
        K6d_down = λ f. behind_none p L (snoc D m) (omega (arith, z f));
        K10 = λ a x. absurd (false≢true (ap is_write a));
        K10_up = λ w. until_none (gives_up p L) (asks_lock p) U (count_none (asks_lock p) U g);
      }

-- the 8 is taken: the whole lock is gone, and the 8 was the only token
pub loosens : {i p kind num : ℕ} {o : Bool} {wr : ℕ → Val} {wl : Bool} {OL : ℕ → ℕ} {WL : ℕ} {asked : Bool} {want : Want} {req L : ℕ} {F : Bool} {U : List Up} {D : List Down} (t : ℕ) (set : ℕ → Bool) (OL' : ℕ → ℕ) → t ≡ L
    → Deescalation i p kind num o wr wl OL WL asked want req L F (WrittenSet p t set ∷ U) D → Deescalation i p kind num o wr wl OL' 0 false want req L F U D
loosens {i} {p} {L = L} {U = U} {D = D} t set OL' e h =
    let n : 0 ≢ suc i = λ z. absurd (omega arith) in
    let c : cond {A = ℕ} (eqb p p && eqb t L) 1 0 ≡ 1 = rw (eqb_same p, e, eqb_same L) refl in
    record {
      K4 = λ a f x w. absurd (n w);
      K4b = λ a f x. (h.K4b a f x).1;
      K6a_down = h.K6a_down;
      K6a_up = h.K6a_up.1;
      K6b = λ f k. absurd (omega (arith, h.K6c f));
      K6c = λ f. omega (arith, h.K6c f);
      K6d_up = λ f k. h.K6d_up f (omega arith);
      K6d_down = h.K6d_down;
      K10 = λ a x. n;
      K10_up = λ w. absurd (n w);
    }
