-- Who owes a 7 to requester r at station j (P2, P3, P4, P7): what one event does. Over values only.
use Rattle.std.specs.Prelude.{◌≡◌, refl, Bool, true, false, ◌&&◌, cond, List, [], ◌∷◌, ◌++◌, ◌⊎◌, ℕ, ◌≤◌, ◌<◌, eqb}
use Rattle.std.proofs.Common.{sym, ◌∙◌, inl, inr, arith}
use Rattle.std.proofs.lemmas.Bool.{false≢true}
use Rattle.sets.specs.Base.{snoc}
use Rattle.sets.specs.Laws.{by_b, by_eq}
use Rattle.sets.proofs.Laws.{eqb_same, eqb_yes, eqb_no}
use Rattle.line.specs.All.{All}
use Rattle.line.specs.Messages.{locking, Up, Busy, Done, Down, Page, Deescalate, Callback, Committed, Aborted, Invalidate}
use Rattle.line.specs.Station.{Kept, NotKept, KeptCall}
use Rattle.line.specs.Server.{Waiter, waiter_pend, waiter_called, waiter_busy}
use Rattle.line.specs.Truth.{count}
use Rattle.truth.specs.Clauses.{call_of, kept_of, done_of, call_tokens, CallBelow, KeptBelow}
use Rattle.truth.proofs.Frame.{count_snoc}
use Rattle.truth.specs.Tokens.{both}
use Rattle.progress.specs.Clauses.{busy_of, kept_number, RisingFrom, Owed}
use Rattle.progress.specs.Lines.{more, one_more}

-- 20s ALONG A LINE

-- a 20 of requester r
abbrev pub from : ℕ → Down → Bool
from r (Page l a u v x y) = false
from r (Deescalate p u) = false
from r (Callback k u set) = eqb k r
from r (Committed u n) = false
from r (Aborted u c) = false
from r (Invalidate d) = false

not_from : (r t : ℕ) (m : Down) → from r m ≡ false → call_of r t m ≡ false
not_from r t (Page l a u v x y) e = refl
not_from r t (Deescalate p u) e = refl
not_from r t (Callback k u set) e = rw e refl
not_from r t (Committed u n) e = refl
not_from r t (Aborted u c) e = refl
not_from r t (Invalidate d) e = refl

rising_less : (r b c : ℕ) (D : List Down) → b ≤ c → RisingFrom r c D → RisingFrom r b D
rising_less r b c [] e h = tt
rising_less r b c (Page l a u v x y ∷ D) e h = rising_less r b c D e h
rising_less r b c (Deescalate p u ∷ D) e h = rising_less r b c D e h
rising_less r b c (Callback k u set ∷ D) e h = (λ f. (omega (arith, (h.0 f).0), (h.0 f).1), λ f. rising_less r b c D e (h.1 f))
rising_less r b c (Committed u n ∷ D) e h = rising_less r b c D e h
rising_less r b c (Aborted u n ∷ D) e h = rising_less r b c D e h
rising_less r b c (Invalidate d ∷ D) e h = rising_less r b c D e h

rising_pop : (r b : ℕ) (m : Down) (D : List Down) → RisingFrom r b (m ∷ D) → RisingFrom r b D
rising_pop r b (Page l a u v x y) D h = h
rising_pop r b (Deescalate p u) D h = h
rising_pop r b (Callback k u set) D h = by_eq k r (λ e. let z = h.0 (eqb_yes k r e) in rising_less r b u D z.0 z.1) (λ e. h.1 e)
rising_pop r b (Committed u n) D h = h
rising_pop r b (Aborted u n) D h = h
rising_pop r b (Invalidate d) D h = h

rising_one : (r b : ℕ) (m : Down) → from r m ≡ false → RisingFrom r b (m ∷ [])
rising_one r b (Page l a u v x y) e = tt
rising_one r b (Deescalate p u) e = tt
rising_one r b (Callback k u set) e = (λ f. absurd (eqb_no k r e f), λ f. tt)
rising_one r b (Committed u n) e = tt
rising_one r b (Aborted u n) e = tt
rising_one r b (Invalidate d) e = tt

rising_snoc : (r b : ℕ) (m : Down) (D : List Down) → from r m ≡ false → RisingFrom r b D → RisingFrom r b (snoc D m)
rising_snoc r b m [] e h = rising_one r b m e
rising_snoc r b m (Page l a u v x y ∷ D) e h = rising_snoc r b m D e h
rising_snoc r b m (Deescalate p u ∷ D) e h = rising_snoc r b m D e h
rising_snoc r b m (Callback k u set ∷ D) e h = (λ f. ((h.0 f).0, rising_snoc r u m D e (h.0 f).1), λ f. rising_snoc r b m D e (h.1 f))
rising_snoc r b m (Committed u n ∷ D) e h = rising_snoc r b m D e h
rising_snoc r b m (Aborted u n ∷ D) e h = rising_snoc r b m D e h
rising_snoc r b m (Invalidate d ∷ D) e h = rising_snoc r b m D e h

-- a new 20 names the latest, and none names a later one
rising_call : (r b t : ℕ) (set : ℕ → Bool) (D : List Down) → b ≤ t → All (CallBelow r t) D → RisingFrom r b D → RisingFrom r b (snoc D (Callback r t set))
rising_call r b t set [] e g h = (λ f. (e, tt), λ f. tt)
rising_call r b t set (Page l a u v x y ∷ D) e g h = rising_call r b t set D e g.1 h
rising_call r b t set (Deescalate p u ∷ D) e g h = rising_call r b t set D e g.1 h
rising_call r b t set (Callback k u s ∷ D) e g h =
    (λ f. ((h.0 f).0, rising_call r u t set D (g.0 f) g.1 (h.0 f).1), λ f. rising_call r b t set D e g.1 (h.1 f))
rising_call r b t set (Committed u n ∷ D) e g h = rising_call r b t set D e g.1 h
rising_call r b t set (Aborted u n ∷ D) e g h = rising_call r b t set D e g.1 h
rising_call r b t set (Invalidate d ∷ D) e g h = rising_call r b t set D e g.1 h

-- KEPT CALLBACKS

kept_number_lem : (t : ℕ) (k : Kept) → KeptBelow t k → kept_number k ≤ t
kept_number_lem t NotKept h = omega arith
kept_number_lem t (KeptCall u set) h = h

-- an older one is not of t
kept_old : (t : ℕ) (k : Kept) → kept_number k < t → kept_of t k ≡ false
kept_old t NotKept h = refl
kept_old t (KeptCall u set) h = by_eq u t (λ e. absurd (omega (arith, eqb_yes u t e))) (λ e. e)

module _ {r j t : ℕ} {q : Waiter} {kind : ℕ} {o : Bool} {k : Kept} {U : List Up} {D : List Down} where
  -- THE LINES

  pub push_up : (l : List Up) → Owed r j t q kind o k U D → Owed r j t q kind o k (U ++ l) D
  push_up l h =
      record {
        P2a = h.P2a;
        P2b = h.P2b;
        P2c = λ p. ((h.P2c p).0, omega (arith, (h.P2c p).1, more (done_of r t) U l));
        P3 = h.P3;
        P4 = λ p e. grown (h.P4 p e);
        P7 = h.P7;
      }
    where
      grown : (q.busy j ≡ true) ⊎ (1 ≤ count (busy_of r t) U) → (q.busy j ≡ true) ⊎ (1 ≤ count (busy_of r t) (U ++ l))
      grown (inl b) = inl b
      grown (inr c) = inr (omega (arith, more (busy_of r t) U l))

  pub push_down : (m : Down) → from r m ≡ false → Owed r j t q kind o k U D → Owed r j t q kind o k U (snoc D m)
  push_down m e h =
      record {
        P2a = h.P2a;
        P2b = h.P2b;
        P2c = λ p. ((h.P2c p).0, omega (arith, (h.P2c p).1, more (call_of r t) D (m ∷ [])));
        P3 = h.P3;
        P4 = h.P4;
        P7 = rising_snoc r (kept_number k) m D e h.P7;
      }

  pub pop_down : (m : Down) → from r m ≡ false → Owed r j t q kind o k U (m ∷ D) → Owed r j t q kind o k U D
  pop_down m e h =
      record {
        P2a = h.P2a;
        P2b = h.P2b;
        P2c = λ p. ((h.P2c p).0, omega (arith, rw (not_from r t m e) at (h.P2c p).1));
        P3 = h.P3;
        P4 = h.P4;
        P7 = rising_pop r (kept_number k) m D h.P7;
      }

  pub pop_up : (m : Up) → busy_of r t m ≡ false → done_of r t m ≡ false → Owed r j t q kind o k (m ∷ U) D → Owed r j t q kind o k U D
  pop_up m e f h =
      record {
        P2a = h.P2a;
        P2b = h.P2b;
        P2c = λ p. ((h.P2c p).0, omega (arith, rw f at (h.P2c p).1));
        P3 = h.P3;
        P4 = λ p g. less (h.P4 p g);
        P7 = h.P7;
      }
    where
      less : (q.busy j ≡ true) ⊎ (1 ≤ count (busy_of r t) (m ∷ U)) → (q.busy j ≡ true) ⊎ (1 ≤ count (busy_of r t) U)
      less (inl b) = inl b
      less (inr c) = inr (omega (arith, rw e at c))

  -- whoever owes nothing may lose any
  pub pop_free : (m : Up) → q.pend j ≡ false → Owed r j t q kind o k (m ∷ U) D → Owed r j t q kind o k U D
  pop_free m p h =
      record { P2a = h.P2a; P2b = h.P2b; P2c = λ e. both (q.pend j) e p; P3 = h.P3; P4 = λ e. both (q.pend j) e p; P7 = h.P7 }

module _ {r j t : ℕ} {q : Waiter} {kind : ℕ} {o : Bool} {k : Kept} {U : List Up} {D : List Down} where
  -- THE STATION

  -- a 20 is kept, and a 6 sent; one that was kept before is older, or of the same transaction
  pub call_kept : (u : ℕ) (set : ℕ → Bool) → o ≡ true → locking kind ≡ true → u ≤ t → Owed r j t q kind o k U (Callback r u set ∷ D) → Owed r j t q kind o (KeptCall u set) (snoc U (Busy r u)) D
  call_kept u set e l b h =
      let z = h.P7.0 refl in
      record {
        P2a = h.P2a;
        P2b = h.P2b;
        P2c = λ p. ((h.P2c p).0, moved (h.P2c p).1 z.0);
        P3 = λ f. (e, l);
        P4 = λ p f. inr (one_more (busy_of r t) U (Busy r u) (rw (eqb_same r, f) refl));
        P7 = z.1;
      }
    where
      moved : 1 ≤ call_tokens r t k U (Callback r u set ∷ D) → kept_number k ≤ u → 1 ≤ call_tokens r t (KeptCall u set) (snoc U (Busy r u)) D
      moved c n =
          by_eq u t (λ f. rw f (omega arith))
          (λ f. omega (arith, rw (eqb_same r, f, kept_old t k (omega (arith, eqb_no u t f))) at c, count_snoc (done_of r t) U (Busy r u)))

  -- a 20 is answered with a 7
  pub call_done : (u : ℕ) (set d : ℕ → Bool) → Owed r j t q kind o k U (Callback r u set ∷ D) → Owed r j t q kind o k (snoc U (Done r u d)) D
  call_done u set d h =
      let g = push_up (Done r u d ∷ []) h in
      record {
        P2a = h.P2a;
        P2b = h.P2b;
        P2c = λ p. ((h.P2c p).0, omega (arith, (h.P2c p).1, count_snoc (done_of r t) U (Done r u d)));
        P3 = h.P3;
        P4 = g.P4;
        P7 = rising_pop r (kept_number k) (Callback r u set) D h.P7;
      }

  -- whoever keeps one has it open: so it may be said of a station that is being closed
  pub opens : Owed r j t q kind o k U D → Owed r j t q kind true k U D
  opens h = record { P2a = h.P2a; P2b = h.P2b; P2c = h.P2c; P3 = λ e. (refl, (h.P3 e).1); P4 = h.P4; P7 = h.P7 }

  -- THE SERVER

  -- an entry to which nobody owes, of whatever transaction
  pub free : (t' : ℕ) (q' : Waiter) → q'.busy j ≡ false → q'.pend j ≡ false → Owed r j t q kind o k U D → Owed r j t' q' kind o k U D
  free t' q' b p h =
      record {
        P2a = λ e. both (q'.busy j) e b;
        P2b = λ e. p;
        P2c = λ e. both (q'.pend j) e p;
        P3 = h.P3;
        P4 = λ e. both (q'.pend j) e p;
        P7 = h.P7;
      }

  -- what j owes stays
  pub alike : (q' : Waiter) → q'.called ≡ q.called → q'.busy j ≡ q.busy j → q'.pend j ≡ q.pend j → Owed r j t q kind o k U D → Owed r j t q' kind o k U D
  alike q' c b p h =
      record {
        P2a = λ e. p ∙ h.P2a (sym b ∙ e);
        P2b = λ e. p ∙ h.P2b (sym c ∙ e);
        P2c = λ e. h.P2c (sym p ∙ e);
        P3 = h.P3;
        P4 = λ e f. rw b (h.P4 (sym p ∙ e) f);
        P7 = h.P7;
      }

  -- a 6 that answers an open call is taken
  pub busy_taken : (u : ℕ) (b : ℕ → Bool) → q.pend j ≡ true → b j ≡ true → Owed r j t q kind o k (Busy r u ∷ U) D → Owed r j t (waiter_busy q b) kind o k U D
  busy_taken u b p e h =
      record {
        P2a = λ f. p;
        P2b = h.P2b;
        P2c = λ f. ((h.P2c f).0, omega (arith, (h.P2c f).1));
        P3 = h.P3;
        P4 = λ f g. inl e;
        P7 = h.P7;
      }

  -- P.call: nothing was owed, nothing of this transaction kept
  pub called_far : (P : ℕ → Bool) → q.called ≡ false → P j ≡ false → Owed r j t q kind o k U D → Owed r j t (waiter_pend (waiter_called q true) P) kind o k U D
  called_far P c p h =
      free t (waiter_pend (waiter_called q true) P) (by_b (q.busy j) (λ e. both (q.pend j) (h.P2a e) (h.P2b c)) (λ e. e)) p h

  pub called_near : (P : ℕ → Bool) (set : ℕ → Bool) → q.called ≡ false → eqb j r ≡ false → kept_of t k ≡ false → KeptBelow t k → All (CallBelow r t) D → Owed r j t q kind o k U D
      → Owed r j t (waiter_pend (waiter_called q true) P) kind o k U (snoc D (Callback r t set))
  called_near P set c n e f g h =
      record {
        P2a = λ b. both (q.pend j) (h.P2a b) (h.P2b c);
        P2b = λ b. absurd (false≢true (sym b));
        P2c = λ b. (n, omega (arith, one_more (call_of r t) D (Callback r t set) (rw (eqb_same r, eqb_same t) refl)));
        P3 = h.P3;
        P4 = λ b z. both (kept_of t k) z e;
        P7 = rising_call r (kept_number k) t set D (kept_number_lem t k f) g h.P7;
      }

-- a kept one is answered with a 7
pub kept_done : {r j t : ℕ} {q : Waiter} {kind : ℕ} {o : Bool} {U : List Up} {D : List Down} (u : ℕ) (set d : ℕ → Bool) → Owed r j t q kind o (KeptCall u set) U D → Owed r j t q kind o NotKept (snoc U (Done r u d)) D
kept_done {r} {j} {t} {q} {kind} {o} {U} {D} u set d h =
    let z : cond {A = ℕ} (eqb r r && eqb u t) 1 0 ≡ cond (eqb u t) 1 0 = rw (eqb_same r) refl in
    record {
      P2a = h.P2a;
      P2b = h.P2b;
      P2c = λ p. ((h.P2c p).0, omega (arith, (h.P2c p).1, count_snoc (done_of r t) U (Done r u d)));
      P3 = λ e. absurd (false≢true e);
      P4 = λ p e. absurd (false≢true e);
      P7 = rising_less r 0 u D (omega arith) h.P7;
    }

-- where nothing is kept the station may be closed
pub shut : {r j t : ℕ} {q : Waiter} {kind : ℕ} {o : Bool} {U : List Up} {D : List Down} (kind' : ℕ) (o' : Bool) → Owed r j t q kind o NotKept U D → Owed r j t q kind' o' NotKept U D
shut kind' o' h = record { P2a = h.P2a; P2b = h.P2b; P2c = h.P2c; P3 = λ e. absurd (false≢true e); P4 = h.P4; P7 = h.P7 }
