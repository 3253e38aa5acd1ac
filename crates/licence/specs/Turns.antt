-- The turns of `framesOn` always suffice, and what each of them keeps.
use Prim.Native.Nat.{ℕ, zero, suc, ◌+◌, ◌-◌, ◌≤◌, ◌<◌}
use Rattle.std.specs.Prelude.{◌≡◌, refl, List, Bool, true, false, ◌||◌, cond, length, take, drop, get_or, eqb, ltb, pos}
use Rattle.std.proofs.Common.{sym, ◌∙◌, get_or-set_other, lt-ltb, ltb-true}
use Rattle.std.proofs.Math.Path.{ap}
use native.Mathlib.Omega.{arith}
use Rattle.std.proofs.lemmas.Bool.{eqb-false}
use Rattle.lists.specs.Stores.{to_the_end}
use Rattle.record.specs.Check.{read_count, write_count}
use Rattle.archive.specs.declared.Fields.{Fields}
use Rattle.archive.specs.declared.Answer.{Answer}
use Rattle.archive.specs.declared.Answer.TheVariants as answer
use Rattle.archive.specs.Read.{fields_of, read_of}
use Rattle.archive.specs.Facts.{recorded}
use Rattle.replay.specs.Replay.{address_at, reads_agree, stored_to, stored, Replayed, replayed, on_answer, replay_of}
use Rattle.replay.specs.Fuel.{replay_read, onwards, moves}
use Rattle.totals.specs.Writers.{any_to, writes}
use Rattle.signed.specs.declared.Change.{Change}
use Rattle.signed.specs.declared.Change.TheVariants.{By, Beyond}
use Rattle.signed.specs.Change.{diff_self, Led, Sums, plus, change_of}
use Rattle.signed.specs.Bounds.{change_small, led_on}
use Rattle.licence.specs.declared.Frames.{Frames}
use Rattle.licence.specs.Frames.{noted_of, frames_for, frames_from, frames_on}

-- with turns to spare, how many there are makes no difference
pub frames_enough : (m n : ℕ) (s : List ℕ) (first last a at commit : ℕ) (v : List ℕ) (sum : Change) → at ≤ length s → length s < at + m → length s < at + n
    → frames_from m s first last a at commit v sum ≡ frames_from n s first last a at commit v sum
unfolding frames_from
frames_enough zero n s first last a at commit v sum h hm hn = absurd (omega arith)
frames_enough (suc m) zero s first last a at commit v sum h hm hn = absurd (omega arith)
frames_enough (suc m) (suc n) s first last a at commit v sum h hm hn =
    on_answer_lem (λ p l w d. frames_enough m n s first last a p l w d) (replay_of s at commit v).answer refl
  where
    w₁ : List ℕ
    w₁ = (replay_of s at commit v).values

    on_answer_lem : ((p l : ℕ) (w : List ℕ) (d : Change) → p ≤ length s → length s < p + m → length s < p + n
        → frames_from m s first last a p l w d ≡ frames_from n s first last a p l w d)
        → (b : Answer) → (replay_of s at commit v).answer ≡ b
        → frames_for (frames_from m s first last a) (drop at s) first last a commit v w₁ sum b ≡ frames_for (frames_from n s first last a) (drop at s) first last a commit v w₁ sum b
    on_answer_lem rest (answer.Record f) e =
        let o = onwards s at commit f (replay_read s at commit v f e) in
        rest f.end f.commit w₁ (noted_of sum (drop at s) f.commit first last a (get_or w₁ a 0) (get_or v a 0)) o.within (omega arith) (omega arith)
    on_answer_lem rest answer.End e = refl
    on_answer_lem rest (answer.Refused k) e = refl

-- before the first turn
pub begins : (s : List ℕ) (first last a : ℕ) (v : List ℕ) → frames_on s first last a v ≡ frames_from (suc (length s) - 0) s first last a 0 0 v (By (pos 0))
unfolding frames_on
begins s first last a v = ap (λ (k : ℕ). frames_from k s first last a 0 0 v (By (pos 0))) (omega arith)

-- one turn, with the turns that are left counted by the bytes that are left
module _ (s : List ℕ) (first last a at commit : ℕ) (v : List ℕ) (sum : Change) (inside : at ≤ length s) where
  pub turn : (w : List ℕ) (b : Answer) → replayed w b ≡ replay_of s at commit v
      → frames_from (suc (length s) - at) s first last a at commit v sum ≡ frames_for (frames_from (length s - at) s first last a) (drop at s) first last a commit v w sum b
  unfolding frames_from
  turn w b e =
      let n : suc (length s) - at ≡ suc (length s - at) = omega arith in
      ap (λ (k : ℕ). frames_from k s first last a at commit v sum) n ∙ rw (← e)

  -- a record's turn leaves the sum from its end on
  pub turn_record : (w : List ℕ) (f : Fields) (more : Change) → replayed w (answer.Record f) ≡ replay_of s at commit v
      → more ≡ noted_of sum (take (length s - at) (drop at s)) f.commit first last a (get_or w a 0) (get_or v a 0)
      → frames_from (suc (length s) - at) s first last a at commit v sum ≡ frames_from (suc (length s) - f.end) s first last a f.end f.commit w more
  turn_record w f more e em =
      let o = moves s at commit v w f e in
      turn w (answer.Record f) e
      ∙ frames_enough (length s - at) (suc (length s) - f.end) s first last a f.end f.commit w _ o.within (omega arith) (omega arith)
      ∙ ap (frames_from (suc (length s) - f.end) s first last a f.end f.commit w) (sym (rw to_the_end at em))

-- a test joined to those before it
pub or_is : (x y : Bool) {b : Bool} → y ≡ b → (y || x) ≡ cond x true b
or_is true true e = refl
or_is true false e = refl
or_is false true e = e
or_is false false e = e

-- a record that is replayed has stored its writes
pub record_stored : (s : List ℕ) (at last : ℕ) (v w : List ℕ) (f : Fields) → replayed w (answer.Record f) ≡ replay_of s at last v → w ≡ stored (drop at s) v
unfolding replay_of
record_stored s at last v w f h = on_answer_lem (read_of s at last) h
  where
    on_agree : (b : Bool) (g : Fields) → replayed w (answer.Record f) ≡ cond b (replayed (stored (drop at s) v) (answer.Record g)) (replayed v (answer.Refused 14)) → w ≡ stored (drop at s) v
    on_agree true g e = ap (λ (r : Replayed). r.values) e
    on_agree false g e =
        let k : answer.Record f ≡ answer.Refused 14 = ap (λ (r : Replayed). r.answer) e in
        let z : ◌≡◌ {A = ℕ} 0 1 = cc in absurd (omega arith)

    on_answer_lem : (b : Answer) → replayed w (answer.Record f) ≡ on_answer (drop at s) v b → w ≡ stored (drop at s) v
    on_answer_lem (answer.Record g) e = on_agree (reads_agree (drop at s) v) g e
    on_answer_lem answer.End e =
        let k : answer.Record f ≡ answer.End = ap (λ (r : Replayed). r.answer) e in
        let z : ◌≡◌ {A = ℕ} 0 1 = cc in absurd (omega arith)
    on_answer_lem (answer.Refused n) e =
        let k : answer.Record f ≡ answer.Refused n = ap (λ (r : Replayed). r.answer) e in
        let z : ◌≡◌ {A = ℕ} 0 1 = cc in absurd (omega arith)

-- an address that a record does not write keeps its value
kept_to : (c : ℕ) (t v : List ℕ) (k n a : ℕ) → any_to t n a c ≡ false → get_or (stored_to t v k n c) a 0 ≡ get_or v a 0
unfolding any_to stored_to
kept_to zero t v k n a h = refl
kept_to (suc c) t v k n a h = by_test (λ g. kept_to c t v k n a g) (eqb (address_at t (n + c)) a) refl h
  where
    by_test : (any_to t n a c ≡ false → get_or (stored_to t v k n c) a 0 ≡ get_or v a 0) → (b : Bool) → eqb (address_at t (n + c)) a ≡ b → cond b true (any_to t n a c) ≡ false
        → get_or (stored_to t v k n (suc c)) a 0 ≡ get_or v a 0
    by_test rest true e g = let z : ◌≡◌ {A = ℕ} 0 1 = cc in absurd (omega arith)
    by_test rest false e g = get_or-set_other (stored_to t v k n c) (address_at t (n + c)) a _ 0 (λ q. eqb-false _ _ e (sym q)) ∙ rest g

pub kept : (t v : List ℕ) (a : ℕ) → writes t a ≡ false → get_or (stored t v) a 0 ≡ get_or v a 0
unfolding stored
kept t v a h = kept_to (write_count t) t v (read_count t + write_count t) (read_count t) a h

-- what holds of the sum behind a commit: 0 before the stretch, and up to its end a sum of changes that led to the address's value
pub record Going (first last commit : ℕ) (sum : Change) (here : ℕ) : Type 0 where
  pub ahead : commit < first → sum ≡ By (pos 0)
  pub leads : commit < last → Sums sum here

nothing_led : (here : ℕ) → Led (pos 0) here
nothing_led here = record { from = here; is = sym (diff_self here); small = λ h. h }

pub going_first : (first last here : ℕ) → Going first last 0 (By (pos 0)) here
going_first first last here = record { ahead = λ h. refl; leads = λ h. nothing_led here }

sums_on : (sum : Change) (new old : ℕ) → Sums sum old → Sums (plus sum (change_of new old)) new
sums_on (By s) new old h = on_change (change_of new old) refl
  where
    on_change : (d : Change) → change_of new old ≡ d → Sums (plus (By s) d) new
    on_change (By x) e = led_on s x new old h (change_small new old x (sym e))
    on_change Beyond e = tt
sums_on Beyond new old h = tt

pub going_on : (first last commit : ℕ) (sum : Change) (t : List ℕ) (a new old : ℕ) → (writes t a ≡ false → new ≡ old) → Going first last commit sum old
    → Going first last (commit + 1) (noted_of sum t (commit + 1) first last a new old) new
unfolding noted_of
going_on first last commit sum t a new old same g =
    record {
      ahead = λ h. rw (lt-ltb (commit + 1) first h) (g.ahead (omega arith));
      leads = λ h. by_tests h (ltb (commit + 1) first) (ltb last (commit + 1)) (writes t a) refl refl refl;
    }
  where
    by_tests : commit + 1 < last → (b c d : Bool) → ltb (commit + 1) first ≡ b → ltb last (commit + 1) ≡ c → writes t a ≡ d
        → Sums (cond b sum (cond c sum (cond d (plus sum (change_of new old)) sum))) new
    by_tests h true c d eb ec ed = let early : commit + 1 < first = ltb-true _ _ eb in rw (g.ahead (omega arith)) (nothing_led new)
    by_tests h false true d eb ec ed = let late : last < commit + 1 = ltb-true _ _ ec in absurd (omega arith)
    by_tests h false false true eb ec ed = sums_on sum new old (g.leads (omega arith))
    by_tests h false false false eb ec ed = rw (same ed) (g.leads (omega arith))

-- the same, told by the record's turn
module _ (s : List ℕ) (first last a at commit : ℕ) (v w : List ℕ) (sum : Change) (f : Fields) (e : replayed w (answer.Record f) ≡ replay_of s at commit v) (g : Going first last commit sum (get_or v a 0)) where
  next_number : f.commit ≡ commit + 1
  unfolding fields_of
  next_number =
      let r = recorded s at commit f (replay_read s at commit v f (sym (ap (λ (q : Replayed). q.answer) e))) in
      rw (← r.fields) r.follows

  -- the value before it is where the sum led
  pub sums_there : f.commit ≤ last → Sums sum (get_or v a 0)
  sums_there h = let n = next_number in g.leads (omega arith)

  -- its number is one more, and what it does not write stays
  pub going_record : (more : Change) → more ≡ noted_of sum (take (length s - at) (drop at s)) f.commit first last a (get_or w a 0) (get_or v a 0)
      → Going first last f.commit more (get_or w a 0)
  going_record more em =
      let same : writes (drop at s) a ≡ false → get_or w a 0 ≡ get_or v a 0 = λ h. rw (record_stored s at commit v w f e) (kept (drop at s) v a h) in
      rw (next_number, rw (to_the_end, next_number) at em) (going_on first last commit sum (drop at s) a (get_or w a 0) (get_or v a 0) same g)

-- an address as a byte and as an index
pub noted_at : (more sum : Change) (t : List ℕ) (commit first last a b new old : ℕ) → a ≡ b → more ≡ noted_of sum t commit first last b new old → more ≡ noted_of sum t commit first last a new old
noted_at more sum t commit first last a b new old q e = rw q e

pub frames_at : (r : Frames) (s : List ℕ) (first last a b : ℕ) (v : List ℕ) → a ≡ b → r ≡ frames_on s first last a v → r ≡ frames_on s first last b v
frames_at r s first last a b v q e = rw (← q) e
