-- The lines of an archive from a place on (`lines_from` of crate report), with turns counted by the bytes that are left.
use Rattle.std.specs.Prelude.{ℕ, zero, suc, ◌+◌, ◌-◌, ◌≤◌, ◌<◌, ◌≡◌, Bool, length}
use Rattle.std.proofs.Math.Path.{refl, sym, ap}
use Rattle.std.proofs.Common.{◌∙◌, ⊎_elim, eq-or-lt_of_le, drop-drop, le-ltb, eq-eqb, eqb-true}
use mathlib.Core.List.{List, ◌++◌}
use Rattle.std.proofs.Math.Bool.{true, false}
use native.Mathlib.Omega.{arith}
use Rattle.std.proofs.Math.ListN.{drop, length-drop}
use Rattle.std.proofs.Math.Dec.{eqb}
use Rattle.record.specs.Check.{commit_number, length_of, check_of}
use Rattle.record.specs.Facts.{accepted}
use Rattle.archive.specs.declared.Fields.{Fields}
use Rattle.archive.specs.declared.Answer.{Answer}
use Rattle.archive.specs.declared.Answer.TheVariants.{Record, End, Refused}
use Rattle.archive.specs.Read.{fields_of, first_of, read_of}
use Rattle.replay.specs.Replay.{reads_agree, stored, replayed, on_answer, replay_of}
use Rattle.replay.specs.Fuel.{moves}
use Rattle.report.specs.Text.{line_of, end_line, refused_line, lines_for, lines_from}
use Rattle.report.specs.Turns.{lines_enough}
use Rattle.replay_parts.specs.Prefix.{placed}
use Rattle.player_meaning.specs.Lines.{Shifts, lines_on, turn_of}

pub ended_answer : (z : List ℕ) (at last : ℕ) (v : List ℕ) → at ≡ length z → replay_of z at last v ≡ replayed v End
unfolding replay_of read_of
ended_answer z at last v e = rw (le-ltb (length z) at (omega arith), eq-eqb at (length z) e)

module _ (z : List ℕ) (at last : ℕ) (v : List ℕ) (inside : at ≤ length z) where
  one_turn : lines_on z at last v ≡ lines_from (suc (length z - at)) z at last v
  one_turn = let n : suc (length z) - at ≡ suc (length z - at) = omega arith in ap (λ (k : ℕ). lines_from k z at last v) n

  on_turn : (w : List ℕ) (a : Answer) → replay_of z at last v ≡ replayed w a → lines_on z at last v ≡ lines_for (lines_from (length z - at) z) last w a
  unfolding lines_from
  on_turn w a e = one_turn ∙ rw e

  -- a record's line, then the lines from its end on
  pub on_record : (w : List ℕ) (f : Fields) → replay_of z at last v ≡ replayed w (Record f)
      → lines_on z at last v ≡ line_of f ++ lines_on z f.end f.commit w
  on_record w f e =
      let o = moves z at last v w f (sym e) in
      on_turn w (Record f) e
      ∙ ap (λ (t : List ℕ). line_of f ++ t) (lines_enough (length z - at) (suc (length z) - f.end) z f.end f.commit w o.within (omega arith) (omega arith))

  pub on_refused : (w : List ℕ) (k : ℕ) → replay_of z at last v ≡ replayed w (Refused k) → lines_on z at last v ≡ refused_line k last
  on_refused w k e = on_turn w (Refused k) e

  pub on_end : at ≡ length z → lines_on z at last v ≡ end_line last
  on_end e = on_turn v End (ended_answer z at last v e)

module _ (m : ℕ) (rest : Shifts m) (z : List ℕ) (at last : ℕ) (v : List ℕ) (lt : at < length z) where
  there : 0 < length (drop at z)
  there = let l = length-drop at z in omega arith

  shift_refused : (k : ℕ) → ((p : ℕ) → on_answer (drop at z) v (first_of (drop at z) p last) ≡ replayed v (Refused k)) → turn_of m z at last v ≡ turn_of m (drop at z) 0 last v
  shift_refused k e = rw (placed z at last v lt ∙ e at, placed (drop at z) 0 last v there ∙ e 0)

  shift_record : check_of (drop at z) ≡ 0
      → ((p : ℕ) → on_answer (drop at z) v (first_of (drop at z) p last) ≡ replayed (stored (drop at z) v) (Record (fields_of (drop at z) p)))
      → turn_of m z at last v ≡ turn_of m (drop at z) 0 last v
  unfolding fields_of line_of
  shift_record checks e =
      let t = drop at z in
      let a = accepted t checks in
      let all = a.all_there in
      let l = length-drop at z in
      let from : length_of t ≡ 0 + length_of t = omega arith in
      rw (placed z at last v lt ∙ e at, placed t 0 last v there ∙ e 0)
      (ap (λ (x : List ℕ). line_of (fields_of t 0) ++ x)
      (rest z (at + length_of t) (commit_number t) (stored t v) (omega arith)
      ∙ ap (λ (x : List ℕ). lines_from m x 0 (commit_number t) (stored t v)) (sym (drop-drop (length_of t) at z))
      ∙ ap (λ (k : ℕ). lines_from m (drop k t) 0 (commit_number t) (stored t v)) from
      ∙ sym (rest t (0 + length_of t) (commit_number t) (stored t v) (omega arith))))

  shift_turn : turn_of m z at last v ≡ turn_of m (drop at z) 0 last v
  unfolding first_of
  shift_turn = by_tests (eqb (check_of (drop at z)) 0) (eqb (commit_number (drop at z)) (last + 1)) (reads_agree (drop at z) v) refl refl refl
    where
      by_tests : (a b c : Bool) → eqb (check_of (drop at z)) 0 ≡ a → eqb (commit_number (drop at z)) (last + 1) ≡ b → reads_agree (drop at z) v ≡ c
          → turn_of m z at last v ≡ turn_of m (drop at z) 0 last v
      by_tests false b c ea eb ec = shift_refused (check_of (drop at z)) (λ p. rw ea)
      by_tests true false c ea eb ec = shift_refused 13 (λ p. rw (ea, eb))
      by_tests true true false ea eb ec = shift_refused 14 (λ p. rw (ea, eb, ec))
      by_tests true true true ea eb ec = shift_record (eqb-true _ _ ea) (λ p. rw (ea, eb, ec))

shift_from : (m : ℕ) → Shifts m
unfolding lines_from
shift_from zero z at last v h = refl
shift_from (suc m) z at last v h = ⊎_elim at_end (shift_turn m (shift_from m) z at last v) (eq-or-lt_of_le h)
  where
    at_end : at ≡ length z → turn_of m z at last v ≡ turn_of m (drop at z) 0 last v
    at_end e =
        let l = length-drop at z in
        let none : 0 ≡ length (drop at z) = omega arith in
        rw (ended_answer z at last v e, ended_answer (drop at z) 0 last v none)

pub shift : (z : List ℕ) (at last : ℕ) (v : List ℕ) → at ≤ length z → lines_on z at last v ≡ lines_on (drop at z) 0 last v
shift z at last v h =
    let l = length-drop at z in
    let same : suc (length z) - at ≡ suc (length (drop at z)) - 0 = omega arith in
    shift_from (suc (length z) - at) z at last v h ∙ ap (λ (k : ℕ). lines_from k (drop at z) 0 last v) same
