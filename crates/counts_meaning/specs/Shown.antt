-- What the counts reader tells of an archive, at every commit, is told by a list of counts and a number: the archive's view.
use Prim.Native.Nat.{ℕ, zero, suc, ◌+◌, ◌≤◌, ◌<◌}
use Rattle.std.proofs.Math.Path.{◌≡◌, refl, sym}
use Rattle.std.proofs.Common.{ap, ◌∙◌, add-zero, le-ltb, ne_eqb}
use Rattle.std.specs.Prelude.{Bool, cond, length, drop, eqb}
use Rattle.std.proofs.Math.Bool.{true, false}
use mathlib.Core.List.{List, [], ◌∷◌}
use native.Mathlib.Omega.{arith}
use Rattle.lists.specs.Bytes.{Bytes, bytes_drop}
use Rattle.record.specs.Check.{check_of}
use Rattle.record_meaning.specs.Parse.{record_of}
use Rattle.archive.specs.declared.Fields.{Fields}
use Rattle.archive.specs.declared.Answer.{Answer}
use Rattle.archive.specs.Read.{fields_of, read_of}
use Rattle.archive.specs.Told.{told, nothing_there}
use Rattle.archive.specs.Facts.{recorded}
use Rattle.archive_meaning.specs.Facts.{ReadRefusal}
use Rattle.archive_meaning.proofs.Facts.{refused_number, tells}
use Rattle.replay.specs.Replay.{reads_agree, stored, replayed, on_answer, replay_of}
use Rattle.replay.specs.Played.{Played, onward, play_from, archive_played}
use Rattle.replay.specs.Fuel.{replay_read, onwards}
use Rattle.archive_meaning.specs.Reader.{on_read, read_all}
use Rattle.archive_meaning.specs.Replay.{fresh}
use Rattle.seek.specs.Seek.{on_sought, sought_from, sought_of}
use Rattle.counts.specs.Counts.{longest_counts}
use Rattle.readers.specs.Readers.{counts_told, counts_at}
use Rattle.counts_meaning.specs.View.{Counts, shown_of, view_of, tell_at}
use Rattle.counts_meaning.specs.Record.{puts_out}

-- the counts of the records that are played, and how the play ends: 255 at the archive's end, else the number
pub record View : Type 0 where
  pub counts : List Counts
  pub number : ℕ

abbrev pub view : List Counts → ℕ → View
view cs n = record { counts = cs; number = n }

abbrev pub behind : Counts → View → View
behind c x = view (c ∷ x.counts) x.number

-- what an answer leads to; t is the archive from the position on, w the values behind it
abbrev pub on_view : (ℕ → ℕ → List ℕ → View) → List ℕ → List ℕ → Answer → View
on_view next t w (Answer.Record f) = behind (shown_of (record_of t)) (next f.end f.commit w)
on_view next t w Answer.End = view [] nothing_there
on_view next t w (Answer.Refused n) = view [] n

-- the archive from `at` on, record by record, as `playFrom` plays it
unfoldable pub view_from : ℕ → List ℕ → ℕ → ℕ → List ℕ → View
view_from zero s at last v = view [] 12
view_from (suc turns) s at last v = on_view (view_from turns s) (drop at s) (replay_of s at last v).values (replay_of s at last v).answer

unfoldable pub archive_view : List ℕ → View
archive_view s = view_from (suc (length s)) s 0 0 fresh

-- a record that is replayed is one, and stands where its fields say
record Here (s : List ℕ) (at last : ℕ) (f : Fields) : Type 0 where
  at_is : f.at ≡ at
  checks : check_of (drop at s) ≡ 0
  within : f.end ≤ length s
  moves : at + 16 ≤ f.end
  commit_is : f.commit ≡ last + 1

here : (s : List ℕ) (at last : ℕ) (v : List ℕ) (f : Fields) → (replay_of s at last v).answer ≡ Answer.Record f → Here s at last f
unfolding fields_of
here s at last v f e =
    let read = replay_read s at last v f e in
    let r = recorded s at last f read in
    let o = onwards s at last f read in
    record {
      at_is = sym (ap (λ (x : Fields). x.at) r.fields);
      checks = r.checks;
      within = o.within;
      moves = o.moves;
      commit_is = sym (ap (λ (x : Fields). x.commit) r.fields) ∙ r.follows;
    }

-- at each commit, what is told of the record that is found is what the view tells
module _ (s o : List ℕ) (hs : Bytes s) where
  pub told_from : (turns k at last : ℕ) (v : List ℕ) → at ≤ length s → length s < at + turns
      → counts_told s o (sought_from k s at last v) ≡ tell_at (view_from turns s at last v).counts (view_from turns s at last v).number k o
  unfolding sought_from view_from
  told_from zero k at last v h ht = absurd (omega arith)
  told_from (suc turns) zero at last v h ht = refl
  told_from (suc turns) (suc k) at last v h ht = on_answer_lem (replay_of s at last v).answer refl (λ p l w a b. told_from turns k p l w a b)
    where
      w₁ : List ℕ
      w₁ = (replay_of s at last v).values

      on_left : (f : Fields) → Here s at last f → (j : ℕ)
          → (counts_told s o (sought_from j s f.end f.commit w₁) ≡ tell_at (view_from turns s f.end f.commit w₁).counts (view_from turns s f.end f.commit w₁).number j o)
          → counts_told s o (cond (eqb j 0) (Answer.Record f) (sought_from j s f.end f.commit w₁))
          ≡ tell_at (shown_of (record_of (drop at s)) ∷ (view_from turns s f.end f.commit w₁).counts) (view_from turns s f.end f.commit w₁).number (suc j) o
      on_left f x zero rest = rw x.at_is (ap (λ (p : List ℕ). told p 0) (puts_out (drop at s) o (bytes_drop at s hs) x.checks))
      on_left f x (suc j) rest = rw (ne_eqb (suc j) 0 (λ e. omega arith)) rest

      on_answer_lem : (a : Answer) → (replay_of s at last v).answer ≡ a
          → ((p l : ℕ) (w : List ℕ) → p ≤ length s → length s < p + turns
          → counts_told s o (sought_from k s p l w) ≡ tell_at (view_from turns s p l w).counts (view_from turns s p l w).number k o)
          → counts_told s o (on_sought (sought_from k s) k w₁ a) ≡ tell_at (on_view (view_from turns s) (drop at s) w₁ a).counts (on_view (view_from turns s) (drop at s) w₁ a).number (suc k) o
      on_answer_lem (Answer.Record f) e rest =
          let x = here s at last v f e in
          on_left f x k (rest f.end f.commit w₁ x.within (omega (arith, x.moves)))
      on_answer_lem Answer.End e rest = refl
      on_answer_lem (Answer.Refused n) e rest = refl

  -- the counts reader tells what the archive's view tells, and nothing else
  pub counts_tell : (commit : ℕ) → longest_counts ≤ length o → counts_at s commit o ≡ tell_at (archive_view s).counts (archive_view s).number commit o
  unfolding counts_at sought_of archive_view
  counts_tell commit h = rw (le-ltb (length o) longest_counts h) (told_from (suc (length s)) commit 0 0 fresh (omega arith) (omega arith))

-- a refusal has a number, and an end is one of the reader's own
module _ (s : List ℕ) (at last : ℕ) (v : List ℕ) where
  ended : (replay_of s at last v).answer ≡ Answer.End → read_of s at last ≡ Answer.End
  unfolding replay_of
  ended h = on_answer_lem (read_of s at last) h
    where
      on_agree : (b : Bool) (g : Fields) → (cond b (replayed (stored (drop at s) v) (Answer.Record g)) (replayed v (Answer.Refused 14))).answer ≡ Answer.End → Answer.Record g ≡ Answer.End
      on_agree true g e = e
      on_agree false g e = let z : ◌≡◌ {A = ℕ} 0 1 = cc in absurd (omega arith)

      on_answer_lem : (a : Answer) → (on_answer (drop at s) v a).answer ≡ Answer.End → a ≡ Answer.End
      on_answer_lem (Answer.Record g) e = on_agree (reads_agree (drop at s) v) g e
      on_answer_lem Answer.End e = e
      on_answer_lem (Answer.Refused k) e = e

  pub numbered : Bytes s → at ≤ length s → (n : ℕ) → (replay_of s at last v).answer ≡ Answer.Refused n → 0 < n
  unfolding replay_of
  numbered hs h n q = on_answer_lem (read_of s at last) refl q
    where
      on_agree : (b : Bool) (g : Fields) → (cond b (replayed (stored (drop at s) v) (Answer.Record g)) (replayed v (Answer.Refused 14))).answer ≡ Answer.Refused n → 0 < n
      on_agree true g e = let z : ◌≡◌ {A = ℕ} 0 1 = cc in absurd (omega arith)
      on_agree false g e = let z : ◌≡◌ {A = ℕ} 14 n = cc in omega arith

      on_answer_lem : (a : Answer) → read_of s at last ≡ a → (on_answer (drop at s) v a).answer ≡ Answer.Refused n → 0 < n
      on_answer_lem (Answer.Record g) ea e = on_agree (reads_agree (drop at s) v) g e
      on_answer_lem Answer.End ea e = let z : ◌≡◌ {A = ℕ} 0 1 = cc in absurd (omega arith)
      on_answer_lem (Answer.Refused k) ea e =
          let z : k ≡ n = cc in
          let why : ReadRefusal (drop at s) last k = rw ea at (tells s at last hs h) in
          omega (arith, refused_number (drop at s) last k why)

-- the number of a play, as the readers tell it: 255 for its end
abbrev pub ending : ℕ → ℕ
ending zero = nothing_there
ending (suc n) = suc n

-- the view ends as playback does, behind the same commit
pub record EndsAs (last : ℕ) (x : View) (p : Played) : Type 0 where
  pub number : x.number ≡ ending p.number
  pub last_is : p.last ≡ last + length x.counts

positive : (n : ℕ) → 0 < n → n ≡ ending n
positive zero h = absurd (omega arith)
positive (suc n) h = refl

module _ (s : List ℕ) (hs : Bytes s) where
  ends_from : (turns at last : ℕ) (v : List ℕ) → at ≤ length s → EndsAs last (view_from turns s at last v) (play_from turns s at last v)
  unfolding view_from play_from
  ends_from zero at last v h = record { number = refl; last_is = sym (add-zero last) }
  ends_from (suc turns) at last v h = on_answer_lem (replay_of s at last v).answer refl (λ p l w b. ends_from turns p l w b)
    where
      w₁ : List ℕ
      w₁ = (replay_of s at last v).values

      on_answer_lem : (a : Answer) → (replay_of s at last v).answer ≡ a
          → ((p l : ℕ) (w : List ℕ) → p ≤ length s → EndsAs l (view_from turns s p l w) (play_from turns s p l w))
          → EndsAs last (on_view (view_from turns s) (drop at s) w₁ a) (onward (play_from turns s) last w₁ a)
      on_answer_lem (Answer.Record f) e rest =
          let x = here s at last v f e in
          let r = rest f.end f.commit w₁ x.within in
          let c = x.commit_is in
          let l = r.last_is in
          record { number = r.number; last_is = omega arith }
      on_answer_lem Answer.End e rest = record { number = refl; last_is = sym (add-zero last) }
      on_answer_lem (Answer.Refused n) e rest = record { number = positive n (numbered s at last v hs h n e); last_is = sym (add-zero last) }

  pub view_ends : EndsAs 0 (archive_view s) (archive_played s 0 fresh)
  unfolding archive_view archive_played
  view_ends = ends_from (suc (length s)) 0 0 fresh (omega arith)

  -- an accepted archive is shown as its records
  pub accepted_from : (turns at last : ℕ) (v : List ℕ) → at ≤ length s → (play_from turns s at last v).number ≡ 0
      → ((view_from turns s at last v).counts ≡ view_of (read_all turns s at last).records) × ((read_all turns s at last).number ≡ 0)
  unfolding view_from play_from read_all
  accepted_from zero at last v h z = absurd (omega arith)
  accepted_from (suc turns) at last v h z = on_answer_lem (replay_of s at last v).answer refl z (λ p l w b. accepted_from turns p l w b)
    where
      w₁ : List ℕ
      w₁ = (replay_of s at last v).values

      on_answer_lem : (a : Answer) → (replay_of s at last v).answer ≡ a → (onward (play_from turns s) last w₁ a).number ≡ 0
          → ((p l : ℕ) (w : List ℕ) → p ≤ length s → (play_from turns s p l w).number ≡ 0
          → ((view_from turns s p l w).counts ≡ view_of (read_all turns s p l).records) × ((read_all turns s p l).number ≡ 0))
          → ((on_view (view_from turns s) (drop at s) w₁ a).counts ≡ view_of (on_read (read_all turns s) (drop at s) (read_of s at last)).records)
          × ((on_read (read_all turns s) (drop at s) (read_of s at last)).number ≡ 0)
      on_answer_lem (Answer.Record f) e q rest =
          let x = here s at last v f e in
          let r = rest f.end f.commit w₁ x.within q in
          rw (replay_read s at last v f e) (ap (λ (cs : List Counts). shown_of (record_of (drop at s)) ∷ cs) r.0, r.1)
      on_answer_lem Answer.End e q rest = rw (ended s at last v e) (refl, refl)
      on_answer_lem (Answer.Refused n) e q rest = absurd (omega (arith, numbered s at last v hs h n e))
