-- Locks at the server: when station i's are freed, who can have none, what an 8 needs to split one.
use Rattle.std.specs.Prelude.{◌≡◌, refl, Bool, true, false, not, ◌&&◌, ◌||◌, cond, ◌≢◌, ℕ, suc, ◌<◌, eqb, ltb}
use Rattle.std.proofs.Common.{sym, arith}
use Rattle.std.proofs.lemmas.Bool.{false≢true}
use Rattle.sets.specs.Laws.{by_b, by_eq}
use Rattle.sets.proofs.Laws.{eqb_yes, eqb_no, ltb_no, or_no, not_yes}
use Rattle.line.specs.Messages.{keeps}
use Rattle.line.specs.Server.{Server, unlocks, waits, bad_number, open_ask}
use Rattle.line.specs.Apart.{Holder, WholeHolder}

-- a lock's holder afterwards
abbrev pub freed : ℕ → (ℕ → ℕ) → ℕ → ℕ
freed i L a = cond (eqb (L a) (suc i)) 0 (L a)

pub freed_none : (i : ℕ) (L : ℕ → ℕ) (a : ℕ) → freed i L a ≢ suc i
freed_none i L a e = by_eq (L a) (suc i) (λ f. absurd (omega (arith, rw f at e))) (λ f. eqb_no (L a) (suc i) f (rw f at e))

pub freed_back : (i j : ℕ) (L : ℕ → ℕ) (a : ℕ) → freed i L a ≡ suc j → L a ≡ suc j
freed_back i j L a e = by_eq (L a) (suc i) (λ f. absurd (omega (arith, rw f at e))) (λ f. rw f at e)

-- another's lock is not i's, and stays
pub not_own : (i j : ℕ) (L : ℕ → ℕ) (a : ℕ) → eqb j i ≡ false → L a ≡ suc j → eqb (L a) (suc i) ≡ false
not_own i j L a n e = by_eq (L a) (suc i) (λ f. absurd (eqb_no j i n (omega (arith, eqb_yes (L a) (suc i) f)))) (λ f. f)

pub freed_fore : (i j : ℕ) (L : ℕ → ℕ) (a : ℕ) → eqb j i ≡ false → L a ≡ suc j → freed i L a ≡ suc j
freed_fore i j L a n e = rw (not_own i j L a n e) e

-- .. of whole locks, which a keeping station keeps: k is i's kind
abbrev pub released : ℕ → ℕ → (ℕ → ℕ) → ℕ → ℕ
released k i L a = cond (unlocks k i (L a)) 0 (L a)

pub released_none : (k i : ℕ) (L : ℕ → ℕ) (a : ℕ) → keeps k ≡ false → released k i L a ≢ suc i
released_none k i L a n e =
    by_eq (L a) (suc i) (λ f. let z : 0 ≡ suc i = rw (f, n) at e in absurd (omega arith)) (λ f. let z : L a ≡ suc i = rw f at e in eqb_no (L a) (suc i) f z)

pub released_back : (k i j : ℕ) (L : ℕ → ℕ) (a : ℕ) → released k i L a ≡ suc j → L a ≡ suc j
released_back k i j L a e = by_b (unlocks k i (L a)) (λ f. let z : 0 ≡ suc j = rw f at e in absurd (omega arith)) (λ f. rw f at e)

pub released_not : (k i j : ℕ) (L : ℕ → ℕ) (a : ℕ) → eqb j i ≡ false → L a ≡ suc j → unlocks k i (L a) ≡ false
released_not k i j L a n e = rw (not_own i j L a n e) refl

pub released_fore : (k i j : ℕ) (L : ℕ → ℕ) (a : ℕ) → eqb j i ≡ false → L a ≡ suc j → released k i L a ≡ suc j
released_fore k i j L a n e = rw (released_not k i j L a n e) e

pub released_kept : (k i : ℕ) (L : ℕ → ℕ) (a : ℕ) → keeps k ≡ true → released k i L a ≡ L a
released_kept k i L a t = by_eq (L a) (suc i) (λ f. rw (f, t) refl) (λ f. rw f refl)

pub kept_not : (k i h : ℕ) → keeps k ≡ true → unlocks k i h ≡ false
kept_not k i h t = by_b (eqb h (suc i)) (λ e. rw (e, t) refl) (λ e. rw e refl)

-- a new number comes behind a finished transaction: its station is no lock's holder [number 6, Apart]
pub new_free : (s : Server) (i T : ℕ) → bad_number s i T ≡ false → s.latest i < T → Holder s.kind s.fin i → ⊥
new_free s i T n b o =
    let late : ltb (s.latest i) T ≡ true = by_b (ltb (s.latest i) T) (λ e. e) (λ e. absurd (omega (arith, ltb_no (s.latest i) T e))) in
    let z = (or_no (ltb T (s.latest i) || (eqb T (s.latest i) && s.fin i)) _ (or_no _ (waits s i) n).0).1 in
    false≢true (sym (rw (late, o.unfinished, o.locks) at z))

-- .. nor a whole lock's, unless it keeps it
pub new_whole : (s : Server) (i T : ℕ) → bad_number s i T ≡ false → s.latest i < T → WholeHolder s.kind s.fin i → keeps (s.kind i) ≡ false → ⊥
new_whole s i T n b o v = new_free s i T n b (record { station = o.station; unfinished = o.unfinished v; locks = o.locks })

-- an 8 that answers an open 19, of a station that keeps nothing
pub answers_open : (s : Server) (i p T : ℕ) → keeps (s.kind i) ≡ false → open_ask s i p T ≡ true → (s.wl p ≡ suc i) × (s.fin i ≡ false) × (T ≡ s.latest i)
answers_open s i p T v o =
    let e = four (eqb (s.wl p) (suc i)) (s.asked p) (not (s.fin i)) (eqb T (s.latest i)) (rw v at o) in
    (eqb_yes (s.wl p) (suc i) e.0, not_yes (s.fin i) e.1, eqb_yes T (s.latest i) e.2)
  where
    four : (x y z v : Bool) → (x && y && (z && v)) ≡ true → (x ≡ true) × (z ≡ true) × (v ≡ true)
    four true true true true e = (refl, refl, refl)
    four true true true false e = absurd (false≢true e)
    four true true false v e = absurd (false≢true e)
    four true false z v e = absurd (false≢true e)
    four false y z v e = absurd (false≢true e)
