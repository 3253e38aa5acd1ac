-- Exclusion (F1, F2a, F3a, F3b, G2a, G2c, G2d): events over plain values, the clauses over the fields that they read, and what of the whole
-- invariant they use.
use Rattle.std.specs.Prelude.{◌≡◌, refl, Bool, true, false, not, ◌&&◌, ◌||◌, cond, List, [], ◌∷◌, ℕ, zero, suc, ◌+◌, ◌≤◌, eqb}
use Rattle.std.proofs.Common.{sym, ◌∙◌, arith}
use Rattle.std.proofs.lemmas.Bool.{false≢true}
use Rattle.sets.specs.Base.{snoc, Val, has}
use Rattle.sets.specs.Laws.{by_b, or_yes}
use Rattle.sets.proofs.Laws.{and_l, and_r}
use Rattle.line.specs.All.{All}
use Rattle.line.specs.Messages.{page_of, locking, Up, NoLock, ObjectLock, WholeLock, Down, Page, Deescalate, Callback, Committed, Aborted, Invalidate}
use Rattle.line.specs.Station.{Wait, Idle, ForRead, ForWrite, ForCommit, waiting, for_read, for_write, writes_to}
use Rattle.line.specs.Server.{Serving, other}
use Rattle.line.specs.Line.{World, carry_down}
use Rattle.line.specs.Truth.{count}
use Rattle.truth.specs.Clauses.{stale, token_down, FitDown, brings, Covered, call_of, done_of, shows, Hidden, Locked, NoShowBehind, Called}
use Rattle.truth.proofs.Frame.{count_snoc, count_less}
use Rattle.truth.specs.Inv.{Inv, ExclusionOf}
use Rattle.truth.specs.Exclusion.{ExclusiveIn, Known, KnownApart, lines}

pub shows_snoc : (a : ℕ) (D : List Down) (m : Down) → shows a m ≡ false → count (shows a) D ≡ 0 → count (shows a) (snoc D m) ≡ 0
shows_snoc a D m e z = let s : count (shows a) (snoc D m) ≡ count (shows a) D + cond (shows a m) 1 0 = count_snoc (shows a) D m in omega (arith, rw e at s)

pub behind_snoc : (r t a : ℕ) (D : List Down) (m : Down) → shows a m ≡ false → NoShowBehind r t a D → NoShowBehind r t a (snoc D m)
behind_snoc r t a [] m e h = (λ c. refl, tt)
behind_snoc r t a (n ∷ D) m e h = (λ c. shows_snoc a D m e (h.0 c), behind_snoc r t a D m e h.1)

-- a line that shows nothing of a, and one without a 20 of (r, t)
pub behind_none : (r t a : ℕ) (D : List Down) → count (shows a) D ≡ 0 → NoShowBehind r t a D
behind_none r t a [] z = tt
behind_none r t a (m ∷ D) z = let y : count (shows a) D ≡ 0 = omega arith in (λ c. y, behind_none r t a D y)

pub behind_uncalled : (r t a : ℕ) (D : List Down) → count (call_of r t) D ≡ 0 → NoShowBehind r t a D
behind_uncalled r t a [] z = tt
behind_uncalled r t a (m ∷ D) z =
    let y : count (call_of r t) D ≡ 0 = omega arith in
    (λ c. let x : 1 + count (call_of r t) D ≡ 0 = rw c at z in absurd (omega arith), behind_uncalled r t a D y)

-- what shows an address brings its page
shows_brings : (a : ℕ) (m : Down) → shows a m ≡ true → brings (page_of a) m ≡ true
shows_brings a (Page l b t v u x) e = and_l (eqb (page_of a) (page_of b)) _ e
shows_brings a (Deescalate p t) e = absurd (false≢true e)
shows_brings a (Callback r t set) e = absurd (false≢true e)
shows_brings a (Committed t n) e = absurd (false≢true e)
shows_brings a (Aborted t c) e = absurd (false≢true e)
shows_brings a (Invalidate d) e = absurd (false≢true e)

pub hidden_less : {a : ℕ} {cached unav : Bool} {D : List Down} (cached' unav' : Bool) (D' : List Down)
    → ((cached' && not unav') ≡ true → (cached && not unav) ≡ true) → (count (shows a) D ≡ 0 → count (shows a) D' ≡ 0)
    → Hidden a cached unav D → Hidden a cached' unav' D'
hidden_less cached' unav' D' f g h =
    record { copy = by_b (cached' && not unav') (λ e. absurd (false≢true (sym h.copy ∙ f e))) (λ e. e); under_way = g h.under_way }

-- a page that is not listed has nothing at the station [C1]
pub unlisted_hidden : {p : ℕ} (a : ℕ) {cached listed : Bool} {v : _} {req : ℕ} {U : List Up} {D : List Down} (unav : Bool) → p ≡ page_of a → Covered p cached listed v req U D → listed ≡ false → Hidden a cached unav D
unlisted_hidden {p} a {cached} {listed} {v} {req} {U} {D} unav q c e =
    record {
      copy = by_b cached (λ t. absurd (false≢true (sym e ∙ c.C1 t))) (λ t. rw t refl);
      under_way =
          let z : count (shows a) D ≤ count (brings p) D = count_less (shows a) (brings p) (λ m t. rw q (shows_brings a m t)) D in
          none (count (brings p) D) refl z;
    }
  where
    none : (n : ℕ) → count (brings p) D ≡ n → count (shows a) D ≤ n → count (shows a) D ≡ 0
    none zero k z = omega arith
    none (suc n) k z = absurd (false≢true (sym e ∙ c.C1_down (omega arith)))

module _ {j a ol wl : ℕ} {listed cached unav : Bool} {rd : Val} {D : List Down} (l : Locked j a ol wl listed cached unav rd D) where
  -- the copy shows less, the line no more
  pub locked_less : (cached' unav' : Bool) (rd' : Val) (D' : List Down)
      → ((cached' && not unav') ≡ true → (cached && not unav) ≡ true)
      → (has rd' ≡ true → has rd ≡ true)
      → (other ol j ≡ true → count (shows a) D ≡ 0 → count (shows a) D' ≡ 0)
      → Locked j a ol wl listed cached' unav' rd' D'
  locked_less cached' unav' rd' D' f g k =
      record { F1 = λ o. hidden_less cached' unav' D' f (k o) (l.F1 o); F2a = l.F2a; F3a = λ e. l.F3a (g e) }

  -- shown at the station or by a message: no other has it locked
  pub shown_free : (cached && not unav) ≡ true → other ol j ≡ false
  shown_free e = by_b (other ol j) (λ o. absurd (false≢true (sym (l.F1 o).copy ∙ e))) (λ o. o)

  pub read_free : other ol j ≡ true → has rd ≡ false
  read_free o = by_b (has rd) (λ e. absurd (false≢true (sym (l.F3a e) ∙ o))) (λ e. e)

module _ {r t a : ℕ} {pend cached unav : Bool} {rd : Val} {U : List Up} {D : List Down} (l : Called r t a pend cached unav rd U D) where
  pub called_less : (cached' unav' : Bool) (rd' : Val) (U' : List Up) (D' : List Down)
      → ((cached' && not unav') ≡ true → (cached && not unav) ≡ true)
      → (has rd' ≡ true → has rd ≡ true)
      → count (done_of r t) U' ≤ count (done_of r t) U
      → (count (shows a) D ≡ 0 → count (shows a) D' ≡ 0)
      → NoShowBehind r t a D'
      → Called r t a pend cached' unav' rd' U' D'
  called_less cached' unav' rd' U' D' f g n k b =
      record {
        F3b = λ e. ((l.F3b (g e)).0, omega (arith, (l.F3b (g e)).1));
        G2a = b;
        G2c = λ c. hidden_less cached' unav' D' f k (l.G2c (omega arith));
        G2d = λ c. hidden_less cached' unav' D' f k (l.G2d c);
      }

  -- what is not hidden is not cleared
  pub not_cleared : (Hidden a cached unav D → ⊥) → (pend ≡ true) × (count (done_of r t) U ≡ 0)
  not_cleared n = (by_b pend (λ e. e) (λ e. absurd (n (l.G2d e))), zeros (count (done_of r t) U) refl)
    where
      zeros : (m : ℕ) → count (done_of r t) U ≡ m → m ≡ 0
      zeros zero e = refl
      zeros (suc m) e = absurd (n (l.G2c (omega arith)))

-- no page message to a locking station that waits for nothing
waits_read : (w : Wait) (a : ℕ) → for_read w a ≡ true → waiting w ≡ true
waits_read Idle a e = e
waits_read (ForRead b) a e = refl
waits_read (ForWrite p f) a e = refl
waits_read ForCommit a e = refl

waits_write : (w : Wait) (p : ℕ) → writes_to w p ≡ true → waiting w ≡ true
waits_write Idle p e = e
waits_write (ForRead b) p e = refl
waits_write (ForWrite q f) p e = refl
waits_write ForCommit p e = refl

module _ (kind num : ℕ) (opened : Bool) (w : Wait) (k : locking kind ≡ true) (n : waiting w ≡ false) (a : ℕ) where
  quiet : (m : Down) → FitDown kind num opened w m → shows a m ≡ false
  quiet (Page NoLock b t v u x) f =
      let z : (for_read w b || (not (locking kind) && for_write w b)) ≡ true = f.waits (rw k refl) in
      absurd
      (or_yes (for_read w b) _ z (λ e. false≢true (sym n ∙ waits_read w b e))
      (λ e. false≢true (sym (rw k refl) ∙ and_l (not (locking kind)) _ e)))
  quiet (Page ObjectLock b t v u x) f = absurd (false≢true (sym n ∙ waits_write w (page_of b) (and_r (locking kind) _ (f.waits refl))))
  quiet (Page WholeLock b t v u x) f = absurd (false≢true (sym n ∙ waits_write w (page_of b) (and_r (locking kind) _ (f.waits refl))))
  quiet (Deescalate p t) f = refl
  quiet (Callback r t set) f = refl
  quiet (Committed t c) f = refl
  quiet (Aborted t c) f = refl
  quiet (Invalidate d) f = refl

  pub idle_none : (D : List Down) → All (FitDown kind num opened w) D → count (shows a) D ≡ 0
  idle_none [] h = refl
  idle_none (m ∷ D) h = rw (quiet m h.0) (omega (arith, idle_none D h.1))

-- nor behind its one token
module _ (kind num : ℕ) (opened : Bool) (k : locking kind ≡ true) (a : ℕ) where
  shows_token : (m : Down) → shows a m ≡ true → token_down (stale kind num opened) m ≡ true
  shows_token (Page NoLock b t v u x) e = rw k refl
  shows_token (Page ObjectLock b t v u x) e = refl
  shows_token (Page WholeLock b t v u x) e = refl
  shows_token (Deescalate p t) e = e
  shows_token (Callback r t set) e = e
  shows_token (Committed t c) e = refl
  shows_token (Aborted t c) e = refl
  shows_token (Invalidate d) e = e

  pub token_none : (m : Down) (D : List Down) → token_down (stale kind num opened) m ≡ true → count (token_down (stale kind num opened)) (m ∷ D) ≤ 1 → count (shows a) D ≡ 0
  token_none m D e z =
      let y : count (shows a) D ≤ count (token_down (stale kind num opened)) D = count_less (shows a) (token_down (stale kind num opened)) shows_token D in
      let x : 1 + count (token_down (stale kind num opened)) D ≤ 1 = rw e at z in
      omega arith

pub known : KnownApart → (w : World) → Inv w → Known w.server w.station w.up w.down
known p w h =
    record {
      tokens = λ i b. h.tokens i;
      coverage = λ i b. h.coverage i;
      callbacks = h.calls.callbacks;
      G4 = h.calls.G4;
      exclusive = record { locked = h.exclusion.locked; called = h.exclusion.called };
      values = h.values.values;
      apart = p w h;
    }

pub known_in : KnownApart → (w : World) (x : Serving) → Inv (carry_down x w) → Known x.server w.station w.up (lines w.down x)
unfolding carry_down
known_in p w x h = known p (carry_down x w) h

pub exclusion_in : (w : World) (x : Serving) → ExclusiveIn w.station w.up x.server (lines w.down x) → ExclusionOf (carry_down x w)
unfolding carry_down
exclusion_in w x h = record { locked = h.locked; called = h.called }
