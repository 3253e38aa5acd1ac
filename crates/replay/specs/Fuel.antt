-- The turns of `archivePlayed` always suffice: a record ends behind its start, so a turn more than the bytes that are left is enough.
use Rattle.std.specs.Prelude.{ℕ, zero, suc, ◌+◌, ◌-◌, ◌≤◌, ◌<◌, ◌≡◌, List, Bool, cond, length, drop}
use Rattle.std.proofs.Math.Path.{refl, sym}
use Rattle.std.proofs.Common.{ap, ◌∙◌, arith}
use Rattle.std.proofs.Math.Bool.{true, false}
use borrow.Author.Tests.{le-ltb, eq-eqb, ne_eqb, eqb-true}
use Rattle.std.proofs.Math.ListN.{length-drop}
use Rattle.std.proofs.Math.Dec.{eqb}
use Rattle.layout.specs.Record.{header_length}
use Rattle.record.specs.Check.{commit_number, length_of, check_of}
use Rattle.record.specs.Facts.{accepted}
use Rattle.archive.specs.declared.Fields.{Fields}
use Rattle.archive.specs.declared.Answer.{Answer}
use Rattle.archive.specs.declared.Answer.TheVariants.{Record, End, Refused}
use Rattle.archive.specs.Read.{fields_of, first_of, read_of}
use Rattle.archive.specs.Facts.{recorded}
use Rattle.replay.specs.Replay.{reads_agree, stored, Replayed, replayed, on_answer, replay_of}
use Rattle.replay.specs.Played.{Played, played, on_record, onward, play_from, record_played, archive_played}

-- a record that is replayed was read
pub replay_read : (s : List ℕ) (at last : ℕ) (v : List ℕ) (f : Fields) → (replay_of s at last v).answer ≡ Record f → read_of s at last ≡ Record f
unfolding replay_of
replay_read s at last v f h = on_answer_lem (read_of s at last) h
  where
    on_agree : (b : Bool) (g : Fields) → (cond b (replayed (stored (drop at s) v) (Record g)) (replayed v (Refused 14))).answer ≡ Record f → Record g ≡ Record f
    on_agree true g e = e
    on_agree false g e = let z : ◌≡◌ {A = ℕ} 0 1 = cc in absurd (omega arith)

    on_answer_lem : (a : Answer) → (on_answer (drop at s) v a).answer ≡ Record f → a ≡ Record f
    on_answer_lem (Record g) e = on_agree (reads_agree (drop at s) v) g e
    on_answer_lem End e = e
    on_answer_lem (Refused k) e = e

-- it ends behind its start and within the archive
pub record Onwards (s : List ℕ) (at : ℕ) (f : Fields) : Type 0 where
  pub starts : at < length s
  pub moves : at + header_length ≤ f.end
  pub within : f.end ≤ length s

pub onwards : (s : List ℕ) (at last : ℕ) (f : Fields) → read_of s at last ≡ Record f → Onwards s at f
unfolding fields_of
onwards s at last f h =
    let r = recorded s at last f h in
    let a = accepted (drop at s) r.checks in
    let e : at + length_of (drop at s) ≡ f.end = ap (λ (g : Fields). g.end) r.fields in
    let l = length-drop at s in
    let there = a.all_there in
    record { starts = r.starts; moves = omega arith; within = omega arith }

-- with turns to spare, how many there are makes no difference
pub enough : (m n : ℕ) (s : List ℕ) (at last : ℕ) (v : List ℕ) → at ≤ length s → length s < at + m → length s < at + n
    → play_from m s at last v ≡ play_from n s at last v
unfolding play_from
enough zero n s at last v h hm hn = absurd (omega arith)
enough (suc m) zero s at last v h hm hn = absurd (omega arith)
enough (suc m) (suc n) s at last v h hm hn =
    on_answer_lem (λ p l w a b c. enough m n s p l w a b c) (replay_of s at last v).answer refl
  where
    on_answer_lem : ((p l : ℕ) (w : List ℕ) → p ≤ length s → length s < p + m → length s < p + n → play_from m s p l w ≡ play_from n s p l w)
        → (a : Answer) → (replay_of s at last v).answer ≡ a
        → onward (play_from m s) last (replay_of s at last v).values a ≡ onward (play_from n s) last (replay_of s at last v).values a
    on_answer_lem rest (Record f) e =
        let o = onwards s at last f (replay_read s at last v f e) in
        rest f.end f.commit (replay_of s at last v).values o.within (omega arith) (omega arith)
    on_answer_lem rest End e = refl
    on_answer_lem rest (Refused k) e = refl

-- one turn of the play, with the turns that are left counted by the bytes that are left
pub turn : (s : List ℕ) (at last : ℕ) (v w : List ℕ) (a : Answer) → at ≤ length s → replayed w a ≡ replay_of s at last v
    → play_from (suc (length s) - at) s at last v ≡ onward (play_from (length s - at) s) last w a
unfolding play_from
turn s at last v w a h e =
    let n : suc (length s) - at ≡ suc (length s - at) = omega arith in
    ap (λ (k : ℕ). play_from k s at last v) n ∙ rw (← e)

pub moves : (s : List ℕ) (at last : ℕ) (v w : List ℕ) (f : Fields) → replayed w (Record f) ≡ replay_of s at last v → Onwards s at f
moves s at last v w f e = onwards s at last f (replay_read s at last v f (sym (ap (λ (r : Replayed). r.answer) e)))

-- a record's turn leaves the play from its end on
pub turn_record : (s : List ℕ) (at last : ℕ) (v w : List ℕ) (f : Fields) → at ≤ length s → replayed w (Record f) ≡ replay_of s at last v
    → play_from (suc (length s) - at) s at last v ≡ play_from (suc (length s) - f.end) s f.end f.commit w
turn_record s at last v w f h e =
    let o = moves s at last v w f e in
    turn s at last v w (Record f) h e
    ∙ enough (length s - at) (suc (length s) - f.end) s f.end f.commit w o.within (omega arith) (omega arith)

-- before the first turn
pub begins : (s : List ℕ) (last : ℕ) (v : List ℕ) → archive_played s last v ≡ play_from (suc (length s) - 0) s 0 last v
unfolding archive_played
begins s last v = ap (λ (k : ℕ). play_from k s 0 last v) (omega arith)

-- the same turn told by the record played by itself: t is the archive from `at` on
abbrev pub resume : List ℕ → ℕ → Played → Played
resume s at p =
    cond (eqb p.number 0)
    (play_from (suc (length s) - (at + length_of (drop at s))) s (at + length_of (drop at s)) p.last p.values)
    p

abbrev Resumes : List ℕ → ℕ → ℕ → List ℕ → Type 0
Resumes s at last v = play_from (suc (length s) - at) s at last v ≡ resume s at (record_played (drop at s) last v)

module _ (s : List ℕ) (at last : ℕ) (v : List ℕ) (inside : at < length s) where
  -- the record at its place, and by itself
  placed : replay_of s at last v ≡ on_answer (drop at s) v (first_of (drop at s) at last)
  unfolding replay_of read_of
  placed = rw (le-ltb (length s) at (omega arith), ne_eqb at (length s) (λ e. omega arith))

  alone : replay_of (drop at s) 0 last v ≡ on_answer (drop at s) v (first_of (drop at s) 0 last)
  unfolding replay_of read_of
  alone =
      let l = length-drop at s in
      rw (le-ltb (length (drop at s)) 0 (omega arith), ne_eqb 0 (length (drop at s)) (λ e. omega arith))

  played_alone : (w : List ℕ) (a : Answer) → replayed w a ≡ replay_of (drop at s) 0 last v → record_played (drop at s) last v ≡ on_record last w a
  unfolding record_played
  played_alone w a e = rw (← e)

  refused_turn : (k : ℕ) → eqb k 0 ≡ false → ((place : ℕ) → replayed v (Refused k) ≡ on_answer (drop at s) v (first_of (drop at s) place last)) → Resumes s at last v
  refused_turn k n e =
      let ends : resume s at (played v last k) ≡ played v last k = rw n in
      turn s at last v v (Refused k) (omega arith) (e at ∙ sym placed) ∙ sym (ap (resume s at) (played_alone v (Refused k) (e 0 ∙ sym alone)) ∙ ends)

  record_turn : ((place : ℕ) → replayed (stored (drop at s) v) (Record (fields_of (drop at s) place)) ≡ on_answer (drop at s) v (first_of (drop at s) place last))
      → Resumes s at last v
  unfolding fields_of
  record_turn e =
      turn_record s at last v (stored (drop at s) v) (fields_of (drop at s) at) (omega arith) (e at ∙ sym placed)
      ∙ sym (ap (resume s at) (played_alone (stored (drop at s) v) (Record (fields_of (drop at s) 0)) (e 0 ∙ sym alone)))

  by_tests : (a b c : Bool) → eqb (check_of (drop at s)) 0 ≡ a → eqb (commit_number (drop at s)) (last + 1) ≡ b → reads_agree (drop at s) v ≡ c → Resumes s at last v
  unfolding first_of
  by_tests false b c ea eb ec = refused_turn (check_of (drop at s)) ea (λ place. rw ea)
  by_tests true false c ea eb ec = refused_turn 13 refl (λ place. rw (ea, eb))
  by_tests true true false ea eb ec = refused_turn 14 refl (λ place. rw (ea, eb, ec))
  by_tests true true true ea eb ec = record_turn (λ place. rw (ea, eb, ec))

  pub turn_alone : Resumes s at last v
  turn_alone = by_tests _ _ _ refl refl refl

  -- a record that is played is one
  pub accepts : (record_played (drop at s) last v).number ≡ 0 → check_of (drop at s) ≡ 0
  unfolding first_of
  accepts h = on_check (eqb (check_of (drop at s)) 0) refl
    where
      on_check : (a : Bool) → eqb (check_of (drop at s)) 0 ≡ a → check_of (drop at s) ≡ 0
      on_check true e = eqb-true _ _ e
      on_check false e =
          let k = check_of (drop at s) in
          let r : replayed v (Refused k) ≡ on_answer (drop at s) v (first_of (drop at s) 0 last) = rw e in
          sym (ap (λ (p : Played). p.number) (played_alone v (Refused k) (r ∙ sym alone))) ∙ h

-- the last turn: nothing is left
pub turn_end : (s : List ℕ) (at last : ℕ) (v : List ℕ) → at ≡ length s → play_from (suc (length s) - at) s at last v ≡ played v last 0
unfolding replay_of read_of
turn_end s at last v e =
    turn s at last v v End (omega arith) (rw (le-ltb (length s) at (omega arith), eq-eqb at (length s) e))
