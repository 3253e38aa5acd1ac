-- A play of the bytes that are there, for a line a commit: what it adds to the text, and that the lines of the whole archive are these and
-- the lines from where it stopped on.
use Prim.Native.Nat.{ℕ, zero, suc, ◌+◌, ◌-◌, ◌≤◌, ◌<◌}
use Rattle.std.specs.Prelude.{◌≡◌, Bool, true, false, take, get_or, eqb, ltb}
use Rattle.std.proofs.Math.Path.{refl, subst}
use Rattle.std.proofs.Common.{sym, ap, ◌∙◌, ⊎_elim, eq-or-lt_of_le, length-append, length-take-le, take_at, leb-true, ltb-true, ltb-false, le-ltb, eq-eqb, ne_eqb}
use mathlib.Core.List.{List, [], ◌++◌, append_assoc, append-nil}
use native.Mathlib.Omega.{arith}
use Rattle.std.proofs.Math.ListN.{length, drop, length-drop}
use Rattle.std.proofs.lemmas.List.Edits.{sets, sets-eq}
use Rattle.std.proofs.Math.Seq.{length-sets}
use Rattle.lists.specs.Bytes.{Bytes, bytes_drop}
use Rattle.le.specs.Laws.{u32_at_is}
use Rattle.le.specs.Width.{num_at_lt}
use Rattle.text.specs.Text.{Put, put, put_of, has_room_lem, line_within}
use Rattle.layout.specs.Record.{header_length}
use Rattle.record.specs.Check.{commit_number_from, commit_number, length_of, laid_out_lem, check_of}
use Rattle.archive.specs.declared.Fields.{Fields}
use Rattle.archive.specs.declared.Answer.TheVariants.{Record, End, Refused}
use Rattle.archive.specs.Read.{fields_of, first_of}
use Rattle.replay.specs.Replay.{reads_agree, stored, replayed, replay_of}
use Rattle.replay.specs.Fuel.{moves}
use Rattle.report.specs.Text.{line_of, line_with_space, longest, line_at}
use Rattle.report.specs.Fits.{line_fits}
use Rattle.player.specs.Play.{noted, text_put, note_of, Ran, ran, no_room, run_from}
use Rattle.player.specs.Close.{never, wants_more}
use Rattle.player.specs.Steps.{turn, turn_record, turn_full}
use Rattle.replay_parts.specs.Prefix.{Whole, placed, replay_same, short_answer}
use Rattle.player_meaning.specs.Lines.{lines_on}
use Rattle.player_meaning.proofs.Lines.{ended_answer, on_record, on_refused, on_end}
use Rattle.player_meaning.specs.Progress.{Progress, closing_of, lines_job, never_asks, tail_of}

pub room : (o : List ℕ) (n : ℕ) → has_room_lem longest (length o) n ≡ true → n + longest ≤ length o
unfolding has_room_lem
room o n h = leb-true (n + longest) (length o) h

-- nothing was played
stands : (z s o lines : List ℕ) (n at last : ℕ) (v c : List ℕ) (k : ℕ) → has_room_lem longest (length o) n ≡ true → at ≤ length s → last < never → eqb k no_room ≡ false
    → lines ≡ tail_of z (ran v c (put o n) at last k) → (wants_more k ≡ true → lines_on s at last v ≡ closing_of s at last)
    → Progress z s o n at lines (ran v c (put o n) at last k)
stands z s o lines n at last v c k h ha hl hk e he =
    let there = room o n h in
    record {
      emitted = [];
      size = refl;
      fits = omega arith;
      text = sym (append-nil (take n o));
      within = ha;
      small = hl;
      rest = e;
      ends = he;
      roomy = λ _. h;
      moved = λ full. never_asks (sym hk ∙ full);
    }

-- a line where it has room
pub take_grown : (o x : List ℕ) (n : ℕ) → n + length x ≤ length o → take (n + length x) (sets o n x) ≡ take n o ++ x
take_grown o x n h =
    let l : length (take n o ++ x) ≡ n + length x = length-append (take n o) x ∙ ap (λ (k : ℕ). k + length x) (length-take-le n o (omega arith)) in
    ap (take (n + length x)) (sets-eq x o n h) ∙ take_at (take n o ++ x) (drop (n + length x) o) (n + length x) l

pub line_there : (o line : List ℕ) (n : ℕ) → has_room_lem longest (length o) n ≡ true → line_at o n line ≡ put (sets o n line) (n + length line)
unfolding line_within put_of
line_there o line n h = rw h

-- what a record adds, for this job
note_is : (base : ℕ) (t : List ℕ) (f : Fields) (before after : ℕ) (c : List ℕ) (p : Put) → noted c (line_at p.out p.at (line_of f)) ≡ note_of lines_job base t f before after c p
unfolding note_of text_put
note_is base t f before after c p = rw (le-ltb f.commit 0 (omega arith), line_with_space f)

-- a commit number of 4 bytes is below `never`
commit_small : (t : List ℕ) → Bytes t → commit_number t < never
commit_small t b = rw (u32_at_is t commit_number_from) (num_at_lt 4 t commit_number_from b)

module _ (s y : List ℕ) (bytes : Bytes s) (base : ℕ) where
  abbrev pub Goes : ℕ → Type 0
  Goes m = (at last : ℕ) (v c o : List ℕ) (n : ℕ) → at ≤ length s → length s < at + m → last < never → has_room_lem longest (length o) n ≡ true
      → Progress (s ++ y) s o n at (lines_on (s ++ y) at last v) (run_from (suc (length s) - at) lines_job base s at last v c (put o n))

  module _ (m : ℕ) (more : Goes m) (at last : ℕ) (v c o : List ℕ) (n : ℕ) (inside : at ≤ length s) (enough : length s < at + suc m) (small : last < never) (h : has_room_lem longest (length o) n ≡ true) where
    abbrev R : Ran
    R = run_from (suc (length s) - at) lines_job base s at last v c (put o n)

    abbrev P : Ran → Type 0
    P r = Progress (s ++ y) s o n at (lines_on (s ++ y) at last v) r

    far : last ≡ never → ⊥
    far e = omega arith

    inside_z : at ≤ length (s ++ y)
    inside_z = rw length-append (omega arith)

    stops : (k : ℕ) → eqb k no_room ≡ false → R ≡ ran v c (put o n) at last k → lines_on (s ++ y) at last v ≡ tail_of (s ++ y) (ran v c (put o n) at last k)
        → (wants_more k ≡ true → lines_on s at last v ≡ closing_of s at last) → P R
    stops k hk er el he = subst P (sym er) (stands (s ++ y) s o (lines_on (s ++ y) at last v) n at last v c k h inside small hk el he)

    at_end : at ≡ length s → P R
    unfolding wants_more
    at_end e =
        let a = ended_answer s at last v e in
        let l = length-drop at s in
        let none : length (drop at s) ≡ 0 = omega arith in
        stops 0 refl (turn lines_job base s at last v c (put o n) inside far v End (sym a)) refl
        (λ _. on_end s at last v inside e ∙ rw (eq-eqb (length (drop at s)) 0 none))

    cut : at < length s → (Whole (drop at s) → ⊥) → P R
    unfolding wants_more
    cut lt short =
        let a = short_answer s at last v lt short in
        stops 12 refl (turn lines_job base s at last v c (put o n) inside far v (Refused 12) (sym a)) refl
        (λ _. on_refused s at last v inside v 12 a ∙ rw (ne_eqb (length (drop at s)) 0 (λ e. let l = length-drop at s in omega arith)))

    refused : (k : ℕ) → wants_more k ≡ false → eqb k no_room ≡ false → at < length s → Whole (drop at s) → replay_of s at last v ≡ replayed v (Refused k) → P R
    refused k asks full lt w a =
        stops k full (turn lines_job base s at last v c (put o n) inside far v (Refused k) (sym a))
        (on_refused (s ++ y) at last v inside_z v k (replay_same s y at last v lt w ∙ a) ∙ rw (asks, full))
        (λ e. never_asks (sym asks ∙ e))

    -- a record whose line fits: its line, then the play from its end on, or a stop where another line has no room
    module _ (f : Fields) (w : List ℕ) (lt : at < length s) (whole : Whole (drop at s)) (fc : f.commit < never) (a : replay_of s at last v ≡ replayed w (Record f)) where
      abbrev n' : ℕ
      n' = n + length (line_of f)

      abbrev grown : List ℕ
      grown = sets o n (line_of f)

      same : length grown ≡ length o
      same = length-sets o n (line_of f)

      fitting : n + length (line_of f) ≤ length o
      fitting = let fit = line_fits f in let there = room o n h in omega arith

      noted_so : noted c (put grown n') ≡ note_of lines_job base (take (length s - at) (drop at s)) f (get_or v 0 0) (get_or w 0 0) c (put o n)
      noted_so = ap (noted c) (sym (line_there o (line_of f) n h)) ∙ note_is base (take (length s - at) (drop at s)) f (get_or v 0 0) (get_or w 0 0) c (put o n)

      lines_are : lines_on (s ++ y) at last v ≡ line_of f ++ lines_on (s ++ y) f.end f.commit w
      lines_are = on_record (s ++ y) at last v inside_z w f (replay_same s y at last v lt whole ∙ a)

      on_and_on : has_room_lem longest (length grown) n' ≡ true → P R
      on_and_on room' =
          let step = moves s at last v w f (sym a) in
          let next : R ≡ run_from (suc (length s) - f.end) lines_job base s f.end f.commit w c (put grown n') =
          turn_record lines_job base s at last v c (put o n) inside far w f (sym a) c (put grown n') noted_so refl refl room' in
          let p = more f.end f.commit w c grown n' step.within (omega arith) fc room' in
          subst P (sym next)
          record {
            emitted = line_of f ++ p.emitted;
            size = p.size ∙ same;
            fits = let x = p.fits in let l = same in omega arith;
            text = p.text ∙ ap (λ (x : List ℕ). x ++ p.emitted) (take_grown o (line_of f) n fitting) ∙ append_assoc (take n o) (line_of f) p.emitted;
            within = p.within;
            small = p.small;
            ends = p.ends;
            roomy = p.roomy;
            moved = λ full. let x = p.moved full in let y = step.moves in omega arith;
            rest = lines_are ∙ ap (λ (x : List ℕ). line_of f ++ x) p.rest ∙ sym (append_assoc (line_of f) p.emitted _);
          }

      to_write : has_room_lem longest (length grown) n' ≡ false → P R
      unfolding wants_more
      to_write room' =
          let step = moves s at last v w f (sym a) in
          let next : R ≡ ran w c (put grown n') f.end f.commit no_room =
          turn_full lines_job base s at last v c (put o n) inside far w f (sym a) c (put grown n') noted_so refl refl room' in
          subst P (sym next)
          record {
            emitted = line_of f;
            size = same;
            fits = fitting;
            text = take_grown o (line_of f) n fitting;
            within = step.within;
            small = fc;
            ends = λ e. never_asks e;
            roomy = λ e. never_asks e;
            moved = λ _. let y = step.moves in omega arith;
            rest = lines_are;
          }

      plays : P R
      plays = by_test (has_room_lem longest (length grown) n') refl
        where
          by_test : (b : Bool) → has_room_lem longest (length grown) n' ≡ b → P R
          by_test true e = on_and_on e
          by_test false e = to_write e

    whole_record : at < length s → Whole (drop at s) → P R
    unfolding first_of check_of fields_of wants_more
    whole_record lt w =
        by_tests (laid_out_lem t) (eqb (commit_number t) (last + 1)) (reads_agree t v) refl refl refl
      where
        t : List ℕ
        t = drop at s

        by_tests : (l b d : Bool) → laid_out_lem (drop at s) ≡ l → eqb (commit_number (drop at s)) (last + 1) ≡ b → reads_agree (drop at s) v ≡ d → P R
        by_tests false b d el eb ed =
            refused 5 refl refl lt w (placed s at last v lt ∙ rw (le-ltb (length t) header_length w.header_there, le-ltb (length t) (length_of t) w.all_there, el))
        by_tests true false d el eb ed =
            refused 13 refl refl lt w (placed s at last v lt ∙ rw (le-ltb (length t) header_length w.header_there, le-ltb (length t) (length_of t) w.all_there, el, eb))
        by_tests true true false el eb ed =
            refused 14 refl refl lt w (placed s at last v lt ∙ rw (le-ltb (length t) header_length w.header_there, le-ltb (length t) (length_of t) w.all_there, el, eb, ed))
        by_tests true true true el eb ed =
            plays (fields_of t at) (stored t v) lt w (commit_small t (bytes_drop at s bytes))
            (placed s at last v lt ∙ rw (le-ltb (length t) header_length w.header_there, le-ltb (length t) (length_of t) w.all_there, el, eb, ed))

    by_whole : at < length s → P R
    by_whole lt = by_tests (ltb (length (drop at s)) header_length) (ltb (length (drop at s)) (length_of (drop at s))) refl refl
      where
        by_tests : (a b : Bool) → ltb (length (drop at s)) header_length ≡ a → ltb (length (drop at s)) (length_of (drop at s)) ≡ b → P R
        by_tests true b ea eb = cut lt (λ w. let x = w.header_there in let l : length (drop at s) < header_length = ltb-true _ _ ea in omega arith)
        by_tests false true ea eb = cut lt (λ w. let x = w.all_there in let l : length (drop at s) < length_of (drop at s) = ltb-true _ _ eb in omega arith)
        by_tests false false ea eb = whole_record lt (record { header_there = ltb-false _ _ ea; all_there = ltb-false _ _ eb })

    goes_step : P R
    goes_step = ⊎_elim at_end by_whole (eq-or-lt_of_le inside)

  pub goes : (m : ℕ) → Goes m
  goes zero at last v c o n inside enough small h = absurd (omega arith)
  goes (suc m) at last v c o n inside enough small h = goes_step m (goes m) at last v c o n inside enough small h
