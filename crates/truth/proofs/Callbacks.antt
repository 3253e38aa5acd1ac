-- Callback tokens of requester r at station j (G1a, G1b, G1c, G5): what one event does to them. Over values only.
use Rattle.std.specs.Prelude.{◌≡◌, refl, Bool, true, false, ◌&&◌, cond, List, ◌∷◌, ℕ, ◌≤◌, ◌<◌, eqb, ltb}
use Rattle.std.proofs.Common.{sym, ◌∙◌, arith}
use Rattle.std.proofs.lemmas.Bool.{false≢true}
use Rattle.sets.specs.Base.{snoc}
use Rattle.sets.specs.Laws.{by_b, by_eq}
use Rattle.sets.proofs.Laws.{eqb_same, eqb_yes, ltb_yes, ltb_no}
use Rattle.line.specs.All.{all_map}
use Rattle.line.specs.Messages.{Up, ReadRequest, WriteRequest, Commit, Abort, Purge, Busy, Done, WrittenSet, Down, Page, Deescalate, Callback, Committed, Aborted, Invalidate}
use Rattle.line.specs.Station.{Kept, NotKept, KeptCall}
use Rattle.line.specs.Server.{Waiter, is_want, waiter_pend, waiter_called}
use Rattle.line.specs.Truth.{count}
use Rattle.truth.specs.Clauses.{call_of, kept_of, done_of, call_tokens, CallBelow, KeptBelow, DoneBelow, CallNames, KeptNames, Callbacks}
use Rattle.truth.proofs.Frame.{one_most, count_snoc, all_snoc, count_none, none_count}

-- WHAT TOKENS NAME

-- not above the latest, so not above a later one
call_below : (r L T : ℕ) → L ≤ T → (m : Down) → CallBelow r L m → CallBelow r T m
call_below r L T b (Page l a u v x y) c = tt
call_below r L T b (Deescalate p u) c = tt
call_below r L T b (Callback k u set) c = λ e. omega (arith, c e)
call_below r L T b (Committed u n) c = tt
call_below r L T b (Aborted u n) c = tt
call_below r L T b (Invalidate d) c = tt

done_below : (r L T : ℕ) → L ≤ T → (m : Up) → DoneBelow r L m → DoneBelow r T m
done_below r L T b (ReadRequest a u) c = tt
done_below r L T b (WriteRequest p u set) c = tt
done_below r L T b (Commit w) c = tt
done_below r L T b (Abort u) c = tt
done_below r L T b (Purge p) c = tt
done_below r L T b (Busy k u) c = tt
done_below r L T b (Done k u d) c = λ e. omega (arith, c e)
done_below r L T b (WrittenSet p u set) c = tt

kept_below : (L T : ℕ) → L ≤ T → (k : Kept) → KeptBelow L k → KeptBelow T k
kept_below L T b NotKept c = tt
kept_below L T b (KeptCall u set) c = omega arith

-- .. and none names a later one
above : (r k u L T : ℕ) → L < T → (k ≡ r → u ≤ L) → (eqb k r && eqb u T) ≡ false
above r k u L T b c =
    by_eq k r (λ e. by_eq u T (λ f. absurd (omega (arith, c (eqb_yes k r e), eqb_yes u T f))) (λ f. rw (e, f) refl)) (λ e. rw e refl)

call_above : (r L T : ℕ) → L < T → (m : Down) → CallBelow r L m → call_of r T m ≡ false
call_above r L T b (Page l a u v x y) c = refl
call_above r L T b (Deescalate p u) c = refl
call_above r L T b (Callback k u set) c = above r k u L T b c
call_above r L T b (Committed u n) c = refl
call_above r L T b (Aborted u n) c = refl
call_above r L T b (Invalidate d) c = refl

done_above : (r L T : ℕ) → L < T → (m : Up) → DoneBelow r L m → done_of r T m ≡ false
done_above r L T b (ReadRequest a u) c = refl
done_above r L T b (WriteRequest p u set) c = refl
done_above r L T b (Commit w) c = refl
done_above r L T b (Abort u) c = refl
done_above r L T b (Purge p) c = refl
done_above r L T b (Busy k u) c = refl
done_above r L T b (Done k u d) c = above r k u L T b c
done_above r L T b (WrittenSet p u set) c = refl

kept_above : (L T : ℕ) → L < T → (k : Kept) → KeptBelow L k → kept_of T k ≡ false
kept_above L T b NotKept c = refl
kept_above L T b (KeptCall u set) c = by_eq u T (λ f. absurd (omega (arith, eqb_yes u T f))) (λ f. f)

-- no token, so nothing that G5 speaks of
call_unnamed : (r L : ℕ) (W : ℕ → Bool) (m : Down) → call_of r L m ≡ false → CallNames r L W m
call_unnamed r L W (Page l a u v x y) c = tt
call_unnamed r L W (Deescalate p u) c = tt
call_unnamed r L W (Callback k u set) c =
    λ e f. absurd (false≢true (sym c ∙ (rw (e, f, eqb_same r, eqb_same L) refl)))
call_unnamed r L W (Committed u n) c = tt
call_unnamed r L W (Aborted u n) c = tt
call_unnamed r L W (Invalidate d) c = tt

kept_unnamed : (L : ℕ) (W : ℕ → Bool) (k : Kept) → kept_of L k ≡ false → KeptNames L W k
kept_unnamed L W NotKept c = tt
kept_unnamed L W (KeptCall u set) c = λ f. absurd (false≢true (sym c ∙ (rw (f, eqb_same L) refl)))

-- THE LINES

-- a message taken: fewer tokens
pub pop_down : {r L : ℕ} {F : Bool} {q : Waiter} {p : Bool} {k : Kept} {U : List Up} {D : List Down} (m : Down) → Callbacks r L F q p k U (m ∷ D) → Callbacks r L F q p k U D
pop_down m h =
    record {
      G1a_down = h.G1a_down.1;
      G1a_kept = h.G1a_kept;
      G1a_up = h.G1a_up;
      G1b = λ f n. h.G1b f (omega arith);
      G1c = λ f. omega (arith, h.G1c f);
      G5_down = λ a b. (h.G5_down a b).1;
      G5_kept = h.G5_kept;
    }

pub pop_up : {r L : ℕ} {F : Bool} {q : Waiter} {p : Bool} {k : Kept} {U : List Up} {D : List Down} (m : Up) → Callbacks r L F q p k (m ∷ U) D → Callbacks r L F q p k U D
pop_up m h =
    record {
      G1a_down = h.G1a_down;
      G1a_kept = h.G1a_kept;
      G1a_up = h.G1a_up.1;
      G1b = λ f n. h.G1b f (omega arith);
      G1c = λ f. omega (arith, h.G1c f);
      G5_down = h.G5_down;
      G5_kept = h.G5_kept;
    }

module _ {r L : ℕ} {F : Bool} {q : Waiter} {p : Bool} {k : Kept} {U : List Up} {D : List Down} where
  -- a message that is no token of r
  pub push_down : (m : Down) → call_of r L m ≡ false → CallBelow r L m → Callbacks r L F q p k U D → Callbacks r L F q p k U (snoc D m)
  push_down m e b h =
      let c : count (call_of r L) (snoc D m) ≡ count (call_of r L) D = count_snoc (call_of r L) D m ∙ rw e (omega arith) in
      record {
        G1a_down = all_snoc (CallBelow r L) D m h.G1a_down b;
        G1a_kept = h.G1a_kept;
        G1a_up = h.G1a_up;
        G1b = λ f n. h.G1b f (omega arith);
        G1c = λ f. omega (arith, h.G1c f);
        G5_down = λ x y. all_snoc (CallNames r L q.writes) D m (h.G5_down x y) (call_unnamed r L q.writes m e);
        G5_kept = h.G5_kept;
      }

  pub push_up : (m : Up) → done_of r L m ≡ false → DoneBelow r L m → Callbacks r L F q p k U D → Callbacks r L F q p k (snoc U m) D
  push_up m e b h =
      let c : count (done_of r L) (snoc U m) ≡ count (done_of r L) U = count_snoc (done_of r L) U m ∙ rw e (omega arith) in
      record {
        G1a_down = h.G1a_down;
        G1a_kept = h.G1a_kept;
        G1a_up = all_snoc (DoneBelow r L) U m h.G1a_up b;
        G1b = λ f n. h.G1b f (omega arith);
        G1c = λ f. omega (arith, h.G1c f);
        G5_down = h.G5_down;
        G5_kept = h.G5_kept;
      }

  -- THE TOKEN MOVES

  -- a 20 is kept; one that was kept before is lost
  pub call_kept : (t : ℕ) (set : ℕ → Bool) → Callbacks r L F q p k U (Callback r t set ∷ D) → Callbacks r L F q p (KeptCall t set) U D
  call_kept t set h =
      let c : cond {A = ℕ} (eqb r r && eqb t L) 1 0 ≡ cond (eqb t L) 1 0 = rw (eqb_same r) refl in
      record {
        G1a_down = h.G1a_down.1;
        G1a_kept = h.G1a_down.0 refl;
        G1a_up = h.G1a_up;
        G1b = λ f n. h.G1b f (omega arith);
        G1c = λ f. omega (arith, h.G1c f);
        G5_down = λ x y. (h.G5_down x y).1;
        G5_kept = λ x y. (h.G5_down x y).0 refl;
      }

  -- a 20 is answered with a 7
  pub call_done : (t : ℕ) (set d : ℕ → Bool) → Callbacks r L F q p k U (Callback r t set ∷ D) → Callbacks r L F q p k (snoc U (Done r t d)) D
  call_done t set d h =
      let c = count_snoc (done_of r L) U (Done r t d) in
      record {
        G1a_down = h.G1a_down.1;
        G1a_kept = h.G1a_kept;
        G1a_up = all_snoc (DoneBelow r L) U (Done r t d) h.G1a_up h.G1a_down.0;
        G1b = λ f n. h.G1b f (omega arith);
        G1c = λ f. omega (arith, h.G1c f);
        G5_down = λ x y. (h.G5_down x y).1;
        G5_kept = h.G5_kept;
      }

  -- THE SERVER

  -- a 7 is taken that answers the open call: it was the only token
  pub answered_none : (t : ℕ) (d : ℕ → Bool) → eqb t L ≡ true → F ≡ false → Callbacks r L F q p k (Done r t d ∷ U) D → call_tokens r L k U D ≡ 0
  answered_none t d e f h =
      let z : cond {A = ℕ} (eqb r r && eqb t L) 1 0 ≡ 1 = rw (eqb_same r, e) refl in
      omega (arith, h.G1c f)

-- a kept one is answered with a 7
pub kept_done : {r L : ℕ} {F : Bool} {q : Waiter} {p : Bool} {U : List Up} {D : List Down} (t : ℕ) (set d : ℕ → Bool) → Callbacks r L F q p (KeptCall t set) U D → Callbacks r L F q p NotKept (snoc U (Done r t d)) D
kept_done {r} {L} {F} {q} {p} {U} {D} t set d h =
    let c = count_snoc (done_of r L) U (Done r t d) in
    let z : cond {A = ℕ} (eqb r r && eqb t L) 1 0 ≡ cond (eqb t L) 1 0 = rw (eqb_same r) refl in
    record {
      G1a_down = h.G1a_down;
      G1a_kept = tt;
      G1a_up = all_snoc (DoneBelow r L) U (Done r t d) h.G1a_up (λ e. h.G1a_kept);
      G1b = λ f n. h.G1b f (omega arith);
      G1c = λ f. omega (arith, h.G1c f);
      G5_down = h.G5_down;
      G5_kept = λ x y. tt;
    }

module _ {r L : ℕ} {F : Bool} {q : Waiter} {p : Bool} {k : Kept} {U : List Up} {D : List Down} (h : Callbacks r L F q p k U D) where
  -- no call is open, so there is no token
  pub no_token : F ≡ false → (is_want q.want ≡ true → q.called ≡ true → p ≡ true → ⊥) → call_tokens r L k U D ≡ 0
  no_token f n =
      by_b (ltb 0 (call_tokens r L k U D)) (λ e. absurd (let g = h.G1b f (some e) in n g.0 g.1 g.2)) (λ e. nothing e)
    where
      some : ltb 0 (call_tokens r L k U D) ≡ true → 1 ≤ call_tokens r L k U D
      some e = omega (arith, ltb_yes 0 (call_tokens r L k U D) e)

      nothing : ltb 0 (call_tokens r L k U D) ≡ false → call_tokens r L k U D ≡ 0
      nothing e = omega (arith, ltb_no 0 (call_tokens r L k U D) e)

  -- the transaction is over
  pub over : (q' : Waiter) (p' : Bool) → is_want q'.want ≡ false → Callbacks r L true q' p' k U D
  over q' p' e =
      record {
        G1a_down = h.G1a_down;
        G1a_kept = h.G1a_kept;
        G1a_up = h.G1a_up;
        G1b = λ f n. absurd (false≢true (sym f));
        G1c = λ f. absurd (false≢true (sym f));
        G5_down = λ x y. absurd (false≢true (sym e ∙ x));
        G5_kept = λ x y. absurd (false≢true (sym e ∙ x));
      }

  -- no call is open, and the entry becomes one that is not called
  pub changes : (q' : Waiter) (p' : Bool) → (F ≡ false → call_tokens r L k U D ≡ 0) → (is_want q'.want ≡ true → q'.called ≡ true → ⊥) → Callbacks r L F q' p' k U D
  changes q' p' z n =
      record {
        G1a_down = h.G1a_down;
        G1a_kept = h.G1a_kept;
        G1a_up = h.G1a_up;
        G1b = λ f m. absurd (omega (arith, z f));
        G1c = λ f. omega (arith, z f);
        G5_down = λ x y. absurd (n x y);
        G5_kept = λ x y. absurd (n x y);
      }

  -- a 7 came: the entry as before, and nothing owed
  pub answers : (q' : Waiter) (p' : Bool) → (F ≡ false → call_tokens r L k U D ≡ 0) → q'.want ≡ q.want → q'.called ≡ q.called → q'.writes ≡ q.writes → Callbacks r L F q' p' k U D
  answers q' p' z a b c =
      record {
        G1a_down = h.G1a_down;
        G1a_kept = h.G1a_kept;
        G1a_up = h.G1a_up;
        G1b = λ f m. absurd (omega (arith, z f));
        G1c = h.G1c;
        G5_down = λ x y. rw c (h.G5_down (rw a at x) (rw b at y));
        G5_kept = λ x y. rw c (h.G5_kept (rw a at x) (rw b at y));
      }

  -- of the entry only what is not said here changes
  pub alike : (q' : Waiter) → q'.want ≡ q.want → q'.called ≡ q.called → q'.writes ≡ q.writes → Callbacks r L F q' p k U D
  alike q' a b c =
      record {
        G1a_down = h.G1a_down;
        G1a_kept = h.G1a_kept;
        G1a_up = h.G1a_up;
        G1b = λ f m. let g = h.G1b f m in (rw a g.0, rw b g.1, g.2);
        G1c = h.G1c;
        G5_down = λ x y. rw c (h.G5_down (rw a at x) (rw b at y));
        G5_kept = λ x y. rw c (h.G5_kept (rw a at x) (rw b at y));
      }

  -- a new transaction: every token is older
  pub begun : (T : ℕ) → L < T → is_want q.want ≡ false → Callbacks r T false q p k U D
  begun T b n =
      let x : count (call_of r T) D ≡ 0 = none_count (call_of r T) D (all_map (CallBelow r L) (λ m. call_of r T m ≡ false) (call_above r L T b) D h.G1a_down) in
      let y : count (done_of r T) U ≡ 0 = none_count (done_of r T) U (all_map (DoneBelow r L) (λ m. done_of r T m ≡ false) (done_above r L T b) U h.G1a_up) in
      let z : cond {A = ℕ} (kept_of T k) 1 0 ≡ 0 = rw (kept_above L T b k h.G1a_kept) refl in
      record {
        G1a_down = all_map (CallBelow r L) (CallBelow r T) (call_below r L T (omega arith)) D h.G1a_down;
        G1a_kept = kept_below L T (omega arith) k h.G1a_kept;
        G1a_up = all_map (DoneBelow r L) (DoneBelow r T) (done_below r L T (omega arith)) U h.G1a_up;
        G1b = λ f m. absurd (omega arith);
        G1c = λ f. omega arith;
        G5_down = λ a c. absurd (false≢true (sym n ∙ a));
        G5_kept = λ a c. absurd (false≢true (sym n ∙ a));
      }

  -- P.call: there was no token; a station that is not called gets none
  pub called_far : (P : ℕ → Bool) → call_tokens r L k U D ≡ 0 → Callbacks r L F (waiter_pend (waiter_called q true) P) false k U D
  called_far P z =
      record {
        G1a_down = h.G1a_down;
        G1a_kept = h.G1a_kept;
        G1a_up = h.G1a_up;
        G1b = λ f m. absurd (omega arith);
        G1c = λ f. omega arith;
        G5_down = λ a c. all_map (λ m. call_of r L m ≡ false) (CallNames r L q.writes) (call_unnamed r L q.writes) D (count_none (call_of r L) D (omega arith));
        G5_kept = λ a c. kept_unnamed L q.writes k (unkept (kept_of L k) (omega arith));
      }
    where
      unkept : (b : Bool) → cond {A = ℕ} b 1 0 ≡ 0 → b ≡ false
      unkept true e = absurd (omega arith)
      unkept false e = refl

  -- .. a called one gets one, which names what is to be written
  pub called_near : (P : ℕ → Bool) → is_want q.want ≡ true → call_tokens r L k U D ≡ 0 → Callbacks r L F (waiter_pend (waiter_called q true) P) true k U (snoc D (Callback r L q.writes))
  called_near P t z =
      let g = called_far P z in
      let m : Down = Callback r L q.writes in
      let c = count_snoc (call_of r L) D m in
      record {
        G1a_down = all_snoc (CallBelow r L) D m h.G1a_down (λ e. omega arith);
        G1a_kept = h.G1a_kept;
        G1a_up = h.G1a_up;
        G1b = λ f n. (t, refl, refl);
        G1c = λ f. omega (arith, one_most (eqb r r && eqb L L));
        G5_down = λ a b. all_snoc (CallNames r L q.writes) D m (g.G5_down a b) (λ e f. refl);
        G5_kept = λ a b. g.G5_kept a b;
      }
