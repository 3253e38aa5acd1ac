-- One turn of the search, and what a record that is found tells.
use Rattle.std.specs.Prelude.{ℕ, zero, suc, ◌-◌, ◌≤◌, ◌<◌, ◌≡◌, refl, List, Bool, true, false, cond, length, drop, eqb}
use Rattle.std.proofs.Common.{sym, ap, ◌∙◌, arith, eq-eqb, ne_eqb}
use Rattle.record.specs.Check.{check_of}
use Rattle.archive.specs.declared.Fields.{Fields}
use Rattle.archive.specs.declared.Answer.{Answer}
use Rattle.archive.specs.declared.Answer.TheVariants.{Record, End, Refused}
use Rattle.archive.specs.Read.{fields_of}
use Rattle.archive.specs.Facts.{recorded}
use Rattle.replay.specs.Replay.{replayed, replay_of}
use Rattle.replay.specs.Fuel.{replay_read}
use Rattle.seek.specs.Seek.{on_sought, sought_from}

-- a turn, with `left` records to go
pub turn : (left : ℕ) (s : List ℕ) (at last : ℕ) (v w : List ℕ) (a : Answer) → 0 < left → replayed w a ≡ replay_of s at last v
    → sought_from left s at last v ≡ on_sought (sought_from (left - 1) s) (left - 1) w a
unfolding sought_from
turn zero s at last v w a h e = absurd (omega arith)
turn (suc k) s at last v w a h e = let p : suc k - 1 ≡ k = omega arith in rw (p, ← e)

-- the record itself
pub turn_here : (left : ℕ) (s : List ℕ) (at last : ℕ) (v w : List ℕ) (f : Fields) → left ≡ 1 → replayed w (Record f) ≡ replay_of s at last v
    → sought_from left s at last v ≡ Record f
turn_here left s at last v w f one e =
    let z : left - 1 ≡ 0 = omega arith in
    turn left s at last v w (Record f) (omega arith) e ∙ rw (eq-eqb (left - 1) 0 z)

-- a record on the way
pub turn_on : (left : ℕ) (s : List ℕ) (at last : ℕ) (v w : List ℕ) (f : Fields) → 0 < left → (left ≡ 1 → ⊥) → replayed w (Record f) ≡ replay_of s at last v
    → sought_from left s at last v ≡ sought_from (left - 1) s f.end f.commit w
turn_on left s at last v w f h more e =
    turn left s at last v w (Record f) h e ∙ rw (ne_eqb (left - 1) 0 (λ z. more (omega arith)))

-- nothing is left to go
pub turn_none : (left : ℕ) (s : List ℕ) (at last : ℕ) (v : List ℕ) → left ≤ 0 → sought_from left s at last v ≡ End
unfolding sought_from
turn_none zero s at last v h = refl
turn_none (suc k) s at last v h = absurd (omega arith)

-- a record that is found stands where its fields say, and is one
pub record Stands (s : List ℕ) (f : Fields) : Type 0 where
  pub starts : f.at < length s
  pub checks : check_of (drop f.at s) ≡ 0
  pub fields : fields_of (drop f.at s) f.at ≡ f

placed : (t : List ℕ) (at : ℕ) (g : Fields) → fields_of t at ≡ g → at ≡ g.at
unfolding fields_of
placed t at g e = ap (λ (x : Fields). x.at) e

-- a record that is replayed
pub replayed_stands : (s : List ℕ) (at last : ℕ) (v : List ℕ) (g : Fields) → (replay_of s at last v).answer ≡ Record g → Stands s g
replayed_stands s at last v g q =
    let r = recorded s at last g (replay_read s at last v g q) in
    let p = placed (drop at s) at g r.fields in
    record { starts = rw (← p) r.starts; checks = rw (← p) r.checks; fields = ap (λ (n : ℕ). fields_of (drop n s) n) (sym p) ∙ r.fields }

pub found_stands : (k : ℕ) (s : List ℕ) (at last : ℕ) (v : List ℕ) (f : Fields) → sought_from k s at last v ≡ Record f → Stands s f
unfolding sought_from
found_stands zero s at last v f e = let z : ◌≡◌ {A = ℕ} 0 1 = cc in absurd (omega arith)
found_stands (suc k) s at last v f e = on_answer_lem (λ p l w h. found_stands k s p l w f h) (replay_of s at last v).answer refl e
  where
    on_last : (b : Bool) (g : Fields) (rest : Answer) → Stands s g → (rest ≡ Record f → Stands s f) → cond b (Record g) rest ≡ Record f → Stands s f
    on_last true g rest st more q = let same : g ≡ f = cc in rw (← same) st
    on_last false g rest st more q = more q

    on_answer_lem : ((p l : ℕ) (w : List ℕ) → sought_from k s p l w ≡ Record f → Stands s f) → (a : Answer) → (replay_of s at last v).answer ≡ a
        → on_sought (sought_from k s) k (replay_of s at last v).values a ≡ Record f → Stands s f
    on_answer_lem rest (Record g) ea q =
        on_last (eqb k 0) g (sought_from k s g.end g.commit (replay_of s at last v).values) (replayed_stands s at last v g ea) (rest g.end g.commit (replay_of s at last v).values) q
    on_answer_lem rest End ea q = let z : ◌≡◌ {A = ℕ} 0 1 = cc in absurd (omega arith)
    on_answer_lem rest (Refused n) ea q = let z : ◌≡◌ {A = ℕ} 0 1 = cc in absurd (omega arith)
