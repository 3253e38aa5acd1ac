-- Values at one locking station and one address (clauses A, B, B2, E; A2 for both kinds): what each event does to them.
use Rattle.std.specs.Prelude.{◌≡◌, refl, Bool, true, false, not, ◌&&◌, ◌||◌, cond, List, [], ◌∷◌, ℕ, ◌+◌, eqb}
use Rattle.std.proofs.Common.{sym, ap, ◌∙◌, arith}
use Rattle.std.proofs.lemmas.Bool.{false≢true}
use Rattle.sets.specs.Base.{snoc, Val, none, some, has, val_or}
use Rattle.sets.proofs.Laws.{and_l, not_yes}
use Rattle.line.specs.All.{All, all_map}
use Rattle.line.specs.Messages.{page_of, Lock, NoLock, ObjectLock, WholeLock, Down, Page, Deescalate, Callback, Committed, Aborted, Invalidate}
use Rattle.line.specs.Station.{Wait, for_commit, or_val}
use Rattle.line.specs.Truth.{count}
use Rattle.truth.specs.Clauses.{FitDown, token_down, shows, is_committed, TrueValue, ShowsRequested, A2, Values}
use Rattle.truth.proofs.Frame.{count_snoc, all_snoc, count_none}
use Rattle.truth.specs.ValuesEvents.{Gone, Less}

pub less_drop : (d c u : Bool) (x : ℕ) → Less c u x (not d && c) (not d && u) (cond d 0 x)
less_drop true c u x = record { kept = λ e. absurd (false≢true e); seen = λ e. absurd (false≢true e) }
less_drop false c u x = record { kept = λ e. (e, refl); seen = λ e. e }

-- what is shown after a mark was shown and is not marked
mark_shows : (c u b : Bool) → (c && not (u || (c && b))) ≡ true → ((c && not u) ≡ true) × (b ≡ false)
mark_shows true true b e = absurd (false≢true e)
mark_shows true false true e = absurd (false≢true e)
mark_shows true false false e = (refl, refl)
mark_shows false u b e = absurd (false≢true e)

pub less_mark : (c u b : Bool) (x : ℕ) → Less c u x c (u || (c && b)) x
less_mark c u b x = record { kept = λ e. (e, refl); seen = λ e. (mark_shows c u b e).0 }

pub A2_less : {c d u v : Bool} {x y : ℕ} {wr : Val} → Less c u x d v y → A2 c x wr → A2 d y wr
A2_less l h v e q = let p = l.kept q in p.1 ∙ h v e p.0

-- nothing is written
pub A2_none : {c : Bool} {x : ℕ} → A2 c x none
A2_none v e q = absurd (false≢true (ap has e))

pub has_none : (w : Val) → has w ≡ false → w ≡ none
has_none none e = refl
has_none (some v) e = absurd (false≢true (sym e))

pub values_less : {a val : ℕ} {c d u v : Bool} {x y : ℕ} {rd wr : Val} {D : List Down} → Less c u x d v y → Values a val c u x rd wr D → Values a val d v y rd wr D
values_less {d = d} l h =
    record {
      A = λ s e. (l.kept (and_l d _ s)).1 ∙ h.A (l.seen s) e;
      A_installed = λ s n. (l.kept (and_l d _ s)).1 ∙ h.A_installed (l.seen s) n;
      B = h.B;
      B2 = h.B2;
      E = h.E;
    }

-- a transaction ends: what it wrote is marked
pub values_undone : {a val : ℕ} (c u : Bool) {x : ℕ} {rd : Val} (wr : Val) {D : List Down} → Values a val c u x rd wr D → Values a val c (u || (c && has wr)) x none none D
values_undone c u wr h =
    record {
      A = λ s e. let p = mark_shows c u (has wr) s in h.A p.0 p.1;
      A_installed = λ s n. let p = mark_shows c u (has wr) s in h.A p.0 p.1;
      B = h.B;
      B2 = h.B2;
      E = λ z v e. absurd (false≢true (ap has e));
    }

-- .. or its 21 comes
pub values_committed : {a val t n : ℕ} {c u : Bool} {x : ℕ} {rd wr : Val} {D : List Down} → Values a val c u x rd wr (Committed t n ∷ D) → Values a val c u x none none D
values_committed h =
    record {
      A = λ s e. h.A_installed s (omega arith);
      A_installed = λ s n. h.A_installed s (omega arith);
      B = h.B.1;
      B2 = h.B2.1;
      E = λ z v e. absurd (false≢true (ap has e));
    }

-- any other message is taken
pub values_taken : {a val : ℕ} (m : Down) {c u : Bool} {x : ℕ} {rd wr : Val} {D : List Down} → is_committed m ≡ false → Values a val c u x rd wr (m ∷ D) → Values a val c u x rd wr D
values_taken m {D = D} o h =
    let n : count is_committed (m ∷ D) ≡ count is_committed D = rw o (omega arith) in
    record {
      A = h.A;
      A_installed = λ s k. h.A_installed s (rw n k);
      B = h.B.1;
      B2 = h.B2.1;
      E = λ z. h.E (n ∙ z);
    }

-- a page comes: at an address on it
pub values_arrived : {a val : ℕ} {k : Lock} {b t : ℕ} {v : ℕ → ℕ} {u' : ℕ → Bool} {x' : ℕ → ℕ} {c u : Bool} {x : ℕ} {rd : Val} (wr : Val) {D : List Down} → eqb (page_of a) (page_of b) ≡ true → count is_committed D ≡ 0
    → Values a val c u x rd wr (Page k b t v u' x' ∷ D) → Values a val true (u' a) (val_or wr (x' a)) rd wr D
values_arrived {a = a} {u' = u'} {x' = x'} wr p o h =
    record {
      A = λ s e. ap (λ r. val_or r (x' a)) (has_none wr e) ∙ h.B.0 p (not_yes (u' a) s);
      A_installed = λ s n. absurd (omega (arith, n, o));
      B = h.B.1;
      B2 = h.B2.1;
      E = λ z. h.E (omega arith);
    }

-- the value shown is read
pub values_read : {a val : ℕ} {c u : Bool} {x : ℕ} {rd wr : Val} {D : List Down} (y : ℕ) → y ≡ val → Values a val c u x rd wr D → Values a val c u x (some y) wr D
values_read y q h =
    record {
      A = h.A;
      A_installed = h.A_installed;
      B = h.B;
      B2 = h.B2;
      E = λ z v e. sym (ap (λ r. val_or r 0) e) ∙ q;
    }

-- a value is written, no 21 being on its way
pub values_written : {a val : ℕ} {c u : Bool} {x : ℕ} {rd wr : Val} {D : List Down} (v : Val) → count is_committed D ≡ 0 → Values a val c u x rd wr D → Values a val c u (val_or v x) rd (or_val v wr) D
values_written none o h = h
values_written (some y) o h =
    record {
      A = λ s e. absurd (false≢true (sym e));
      A_installed = λ s n. absurd (omega (arith, n, o));
      B = h.B;
      B2 = h.B2;
      E = h.E;
    }

-- no 21 on its way where no commit is out
pub no_commit : (kind num : ℕ) (opened : Bool) (w : Wait) → for_commit w ≡ false → (D : List Down) → All (FitDown kind num opened w) D → count is_committed D ≡ 0
no_commit k i p w o [] h = refl
no_commit k i p w o (Page l a t v u x ∷ D) h = omega (arith, no_commit k i p w o D h.1)
no_commit k i p w o (Deescalate q t ∷ D) h = omega (arith, no_commit k i p w o D h.1)
no_commit k i p w o (Callback r t set ∷ D) h = omega (arith, no_commit k i p w o D h.1)
no_commit k i p w o (Committed t n ∷ D) h = absurd (false≢true (sym o ∙ h.0.waits refl))
no_commit k i p w o (Aborted t c ∷ D) h = omega (arith, no_commit k i p w o D h.1)
no_commit k i p w o (Invalidate d ∷ D) h = omega (arith, no_commit k i p w o D h.1)

-- a message is sent that says the truth and is no 21
pub values_sent : {a val : ℕ} (m : Down) {c u : Bool} {x : ℕ} {rd wr : Val} {D : List Down} → is_committed m ≡ false → TrueValue a val m → ShowsRequested m
    → Values a val c u x rd wr D → Values a val c u x rd wr (snoc D m)
values_sent {a = a} {val = val} m {D = D} o p q h =
    let n : count is_committed (snoc D m) ≡ count is_committed D = count_snoc is_committed D m ∙ rw o (omega arith) in
    record {
      A = h.A;
      A_installed = λ s k. h.A_installed s (rw n at k);
      B = all_snoc (TrueValue a val) D m h.B p;
      B2 = all_snoc ShowsRequested D m h.B2 q;
      E = λ z. h.E (sym n ∙ z);
    }

unshown : (a val : ℕ) (m : Down) → shows a m ≡ false → TrueValue a val m
unshown a val (Page l b t v u x) e = λ p q. absurd (false≢true (sym e ∙ rw (p, q) refl))
unshown a val (Deescalate p t) e = tt
unshown a val (Callback r t set) e = tt
unshown a val (Committed t n) e = tt
unshown a val (Aborted t c) e = tt
unshown a val (Invalidate d) e = tt

pub values_gone : {a val val' : ℕ} {c u : Bool} {x : ℕ} {rd wr : Val} {D : List Down} → Gone a c u rd D → Values a val c u x rd wr D → Values a val' c u x rd wr D
values_gone {a = a} {val' = val'} {D = D} g h =
    record {
      A = λ s e. absurd (false≢true (sym g.copy ∙ s));
      A_installed = λ s n. absurd (false≢true (sym g.copy ∙ s));
      B = all_map (λ m. shows a m ≡ false) (TrueValue a val') (unshown a val') D (count_none (shows a) D g.under_way);
      B2 = h.B2;
      E = λ z v e. absurd (false≢true (sym g.unread ∙ ap has e));
    }

-- the station's own commit is installed: its 21 joins a line without tokens
unsaid : (a val : ℕ) (m : Down) → token_down (λ t. false) m ≡ false → TrueValue a val m
unsaid a val (Page NoLock b t v u x) e = absurd (false≢true (sym e))
unsaid a val (Page ObjectLock b t v u x) e = absurd (false≢true (sym e))
unsaid a val (Page WholeLock b t v u x) e = absurd (false≢true (sym e))
unsaid a val (Deescalate p t) e = tt
unsaid a val (Callback r t set) e = tt
unsaid a val (Committed t n) e = tt
unsaid a val (Aborted t c) e = tt
unsaid a val (Invalidate d) e = tt

own_copy : {a val x : ℕ} {c u : Bool} {rd : Val} {D : List Down} (wr : Val) → A2 c x wr → Values a val c u x rd wr D → (c && not u) ≡ true → x ≡ val_or wr val
own_copy none k h s = h.A s refl
own_copy {c = c} (some v) k h s = k v refl (and_l c _ s)

pub values_installed : (t n : ℕ) {a val x : ℕ} {c u : Bool} {rd : Val} {wr : Val} {D : List Down} → count (token_down (λ t. false)) D ≡ 0 → A2 c x wr
    → Values a val c u x rd wr D → Values a (val_or wr val) c u x rd wr (snoc D (Committed t n))
values_installed t n {a = a} {val = val} {wr = wr} {D = D} o k h =
    let m : count is_committed (snoc D (Committed t n)) ≡ count is_committed D + 1 = count_snoc is_committed D (Committed t n) in
    record {
      A = λ s e. own_copy wr k h s;
      A_installed = λ s e. own_copy wr k h s;
      B = all_snoc (TrueValue a (val_or wr val)) D (Committed t n) (all_map (λ l. token_down (λ t. false) l ≡ false) (TrueValue a (val_or wr val)) (unsaid a (val_or wr val)) D (count_none (token_down (λ t. false)) D o)) tt;
      B2 = all_snoc ShowsRequested D (Committed t n) h.B2 tt;
      E = λ z. absurd (omega (arith, m, z));
    }
