-- The text and what playback tells (`archivePlayed` of crate replay): a line for each record accepted, then the line of its number.
use Rattle.std.specs.Prelude.{ℕ, zero, suc, ◌+◌, ◌≡◌, refl, List, [], ◌∷◌, ◌++◌, Bool, true, false, cond, length, drop, replicate, eqb, ltb}
use Rattle.std.proofs.Common.{ap, append_assoc}
use Rattle.record.specs.Check.{commit_number, check_of}
use Rattle.archive.specs.declared.Fields.{Fields}
use Rattle.archive.specs.declared.Answer.{Answer}
use Rattle.archive.specs.declared.Answer.TheVariants.{Record, End, Refused}
use Rattle.archive.specs.Read.{fields_of, first_of, read_of}
use Rattle.replay.specs.Replay.{reads_agree, stored, replayed, on_answer, replay_of}
use Rattle.replay.specs.Played.{Played, onward, play_from, archive_played}
use Rattle.report.specs.Text.{heading, line_of, end_line, refused_line, lines_for, lines_from, printed}

-- the last line: `end` at number 0, "`refused N after K` (number, last good commit)" at any other
abbrev pub last_line : Played → List ℕ
last_line p = cond (eqb p.number 0) (end_line p.last) (refused_line p.number p.last)

-- the records accepted from `at` on, in the turns of `lines_from`
abbrev pub records_for : (ℕ → ℕ → List ℕ → List Fields) → List ℕ → Answer → List Fields
records_for next v (Record f) = f ∷ next f.end f.commit v
records_for next v End = []
records_for next v (Refused k) = []

unfoldable pub records_from : ℕ → List ℕ → ℕ → ℕ → List ℕ → List Fields
records_from zero s at last v = []
records_from (suc turns) s at last v = records_for (records_from turns s) (replay_of s at last v).values (replay_of s at last v).answer

-- the line of each
abbrev pub commit_lines : List Fields → List ℕ
commit_lines [] = []
commit_lines (f ∷ fs) = line_of f ++ commit_lines fs

-- no refusal has number 0, which is the end's
abbrev Numbered : Answer → Type 0
Numbered (Record f) = Unit {0}
Numbered End = Unit {0}
Numbered (Refused k) = eqb k 0 ≡ false

read_numbered : (s : List ℕ) (at last : ℕ) → Numbered (read_of s at last)
unfolding read_of first_of
read_numbered s at last =
    let t = drop at s in
    by_tests (ltb (length s) at) (eqb at (length s)) (eqb (commit_number t) (last + 1)) (check_of t) (fields_of t at) (eqb (check_of t) 0) refl
  where
    by_tests : (a b d : Bool) (k : ℕ) (f : Fields) (c : Bool) → eqb k 0 ≡ c
        → Numbered (cond a (Refused 12) (cond b End (cond c (cond d (Record f) (Refused 13)) (Refused k))))
    by_tests true b d k f c e = refl
    by_tests false true d k f c e = tt
    by_tests false false true k f true e = tt
    by_tests false false false k f true e = refl
    by_tests false false d k f false e = e

replay_numbered : (s : List ℕ) (at last : ℕ) (v : List ℕ) → Numbered (replay_of s at last v).answer
unfolding replay_of
replay_numbered s at last v = on_answer_lem (read_of s at last) (read_numbered s at last)
  where
    on_agree : (b : Bool) (f : Fields) → Numbered (cond b (replayed (stored (drop at s) v) (Record f)) (replayed v (Refused 14))).answer
    on_agree true f = tt
    on_agree false f = refl

    on_answer_lem : (a : Answer) → Numbered a → Numbered (on_answer (drop at s) v a).answer
    on_answer_lem (Record f) h = on_agree (reads_agree (drop at s) v) f
    on_answer_lem End h = tt
    on_answer_lem (Refused k) h = h

pub lines_played : (turns : ℕ) (s : List ℕ) (at last : ℕ) (v : List ℕ)
    → lines_from turns s at last v ≡ commit_lines (records_from turns s at last v) ++ last_line (play_from turns s at last v)
unfolding lines_from records_from play_from
lines_played zero s at last v = refl
lines_played (suc turns) s at last v =
    on_answer_lem (λ p l w. lines_played turns s p l w) (replay_of s at last v).answer (replay_numbered s at last v)
  where
    on_answer_lem : ((p l : ℕ) (w : List ℕ) → lines_from turns s p l w ≡ commit_lines (records_from turns s p l w) ++ last_line (play_from turns s p l w))
        → (a : Answer) → Numbered a
        → lines_for (lines_from turns s) last (replay_of s at last v).values a
        ≡ commit_lines (records_for (records_from turns s) (replay_of s at last v).values a) ++ last_line (onward (play_from turns s) last (replay_of s at last v).values a)
    on_answer_lem rest (Record f) h = rw (rest f.end f.commit (replay_of s at last v).values, append_assoc)
    on_answer_lem rest End h = refl
    on_answer_lem rest (Refused k) h = rw h

-- the whole text: the heading, a line for each record that playback accepts, and its number and last commit as the last line
pub printed_played : (s : List ℕ)
    → printed s
    ≡ heading ++ (commit_lines (records_from (suc (length s)) s 0 0 (replicate 256 0)) ++ last_line (archive_played s 0 (replicate 256 0)))
unfolding printed archive_played
printed_played s = ap (λ (t : List ℕ). heading ++ t) (lines_played (suc (length s)) s 0 0 (replicate 256 0))
