-- The play of an archive from a place on is the play of the bytes from there on, by themselves.
use Rattle.std.specs.Prelude.{ℕ, zero, suc, ◌+◌, ◌-◌, ◌≤◌, ◌<◌, ◌≡◌, refl, List, [], Bool, true, false, cond, length, drop, eqb}
use Rattle.std.proofs.Common.{sym, ap, ◌∙◌, ⊎_elim, eq-or-lt_of_le, arith, length-drop, drop-drop, eqb-true}
use Rattle.record.specs.Check.{length_of}
use Rattle.record.specs.Facts.{accepted}
use Rattle.archive.specs.declared.Fields.{Fields}
use Rattle.archive.specs.declared.Answer.TheVariants.{Record, End, Refused}
use Rattle.replay.specs.Replay.{replayed, replay_of}
use Rattle.replay.specs.Played.{Played, played, record_played, play_from, archive_played}
use Rattle.replay.specs.Fuel.{moves, turn, turn_record, turn_end, begins, resume, turn_alone, accepts}

abbrev from : List ℕ → ℕ → ℕ → List ℕ → Played
from s at last v = play_from (suc (length s) - at) s at last v

abbrev Shifts : ℕ → Type 0
Shifts n = (s : List ℕ) (at last : ℕ) (v : List ℕ) → at ≤ length s → length s < at + n → from s at last v ≡ from (drop at s) 0 last v

module _ (n : ℕ) (rest : Shifts n) (s : List ℕ) (at last : ℕ) (v : List ℕ) (inside : at < length s) (few : length s < at + suc n) where
  resumes : (p : Played) → record_played (drop at s) last v ≡ p → resume s at p ≡ resume (drop at s) 0 p
  resumes p e = by_test (eqb p.number 0) refl
    where
      by_test : (b : Bool) → eqb p.number 0 ≡ b → resume s at p ≡ resume (drop at s) 0 p
      by_test false eb = rw eb
      by_test true eb =
          let x = drop at s in
          let k = length_of x in
          let a = accepted x (accepts s at last v inside (ap (λ (q : Played). q.number) e ∙ eqb-true _ _ eb)) in
          let all = a.all_there in
          let l = length-drop at s in
          let lk = length-drop k x in
          let none : 0 + k ≡ k = omega arith in
          rw (eb, none)
          (rest s (at + k) p.last p.values (omega arith) (omega arith)
          ∙ ap (λ (t : List ℕ). from t 0 p.last p.values) (sym (drop-drop k at s))
          ∙ sym (rest x k p.last p.values (omega arith) (omega arith)))

  shift_turn : from s at last v ≡ from (drop at s) 0 last v
  shift_turn =
      let l = length-drop at s in
      turn_alone s at last v inside ∙ resumes (record_played (drop at s) last v) refl ∙ sym (turn_alone (drop at s) 0 last v (omega arith))

shift_from : (n : ℕ) → Shifts n
shift_from zero s at last v h few = absurd (omega arith)
shift_from (suc n) s at last v h few =
    ⊎_elim (λ e. let l = length-drop at s in turn_end s at last v e ∙ sym (turn_end (drop at s) 0 last v (omega arith))) (λ i. shift_turn n (shift_from n) s at last v i few) (eq-or-lt_of_le h)

pub rest_played : (s : List ℕ) (at last : ℕ) (v : List ℕ) → at ≤ length s → play_from (suc (length s) - at) s at last v ≡ archive_played (drop at s) last v
rest_played s at last v h = shift_from (suc (length s)) s at last v h (omega arith) ∙ sym (begins (drop at s) last v)

-- nothing to play
pub none_played : (last : ℕ) (v : List ℕ) → archive_played [] last v ≡ played v last 0
none_played last v = begins [] last v ∙ turn_end [] 0 last v refl

-- a record in front leaves the play of what follows it
pub first_played : (x : List ℕ) (last : ℕ) (v w : List ℕ) (f : Fields) → replayed w (Record f) ≡ replay_of x 0 last v
    → archive_played x last v ≡ archive_played (drop f.end x) f.commit w
first_played x last v w f e =
    let o = moves x 0 last v w f e in
    begins x last v ∙ turn_record x 0 last v w f (omega arith) e ∙ rest_played x f.end f.commit w o.within

-- a refusal ends it
pub refused_first : (x : List ℕ) (last : ℕ) (v w : List ℕ) (k : ℕ) → replayed w (Refused k) ≡ replay_of x 0 last v → archive_played x last v ≡ played w last k
refused_first x last v w k e = begins x last v ∙ turn x 0 last v w (Refused k) (omega arith) e
