-- What the reader's tests tell.
use Rattle.std.specs.Prelude.{ℕ, ◌+◌, ◌-◌, ◌≤◌, ◌<◌, ◌≡◌, refl, List, [], ◌∷◌, Bool, true, false, ◌&&◌, cond, take, drop, ltb}
use Rattle.std.proofs.Math.Path.{sym}
use Rattle.std.proofs.Common.{◌∙◌, arith}
use Rattle.std.proofs.Math.ListN.{length}
use Rattle.std.proofs.lemmas.List.Edits.{sets}
use Rattle.std.proofs.Math.Dec.{eqb, leb}
use borrow.Author.Tests.{lt-ltb, le-ltb, ne_eqb, ltb-false, leb-true}
use Rattle.lists.specs.Tests.{and_l, and_r}
use Rattle.lists.specs.Stores.{to_the_end}
use Rattle.layout.specs.Record.{most_entries}
use Rattle.record.specs.Check.{rises}
use Rattle.archive.specs.Told.{told}
use Rattle.counts.specs.Counts.{counts_header_length, counts_length}
use Rattle.counts_file.specs.declared.Counted.{Counted}
use Rattle.counts_file.specs.declared.Next.{Next}
use Rattle.counts_file.specs.declared.Next.TheVariants.{Counts, Refused}
use Rattle.counts_file.specs.File.{commit_of, writes_of, check_counts, counted_of, first_counts, counts_read, holds_counts, counts_fields_length, told_next, told_counts_read}

-- accepted counts: their bytes are all there, they are not too many, and their addresses rise
pub record Accepted (t : List ℕ) : Type 0 where
  pub header_there : counts_header_length ≤ length t
  pub all_there : counts_length (writes_of t) ≤ length t
  pub few : writes_of t ≤ most_entries
  pub rise : rises t counts_header_length (writes_of t) ≡ true

pub accepted : (t : List ℕ) → check_counts t ≡ 0 → Accepted t
unfolding check_counts
accepted t h = by_tests (ltb (length t) counts_header_length) (ltb (length t) (counts_length (writes_of t))) (leb (writes_of t) most_entries && rises t counts_header_length (writes_of t)) refl refl refl h
  where
    by_tests : (a b l : Bool) → ltb (length t) counts_header_length ≡ a → ltb (length t) (counts_length (writes_of t)) ≡ b
        → leb (writes_of t) most_entries && rises t counts_header_length (writes_of t) ≡ l → ◌≡◌ {A = ℕ} (cond a 12 (cond b 12 (cond l 0 5))) 0 → Accepted t
    by_tests true b l ea eb el e = absurd (omega arith)
    by_tests false true l ea eb el e = absurd (omega arith)
    by_tests false false true ea eb el e =
        let few = leb (writes_of t) most_entries in
        let rise = rises t counts_header_length (writes_of t) in
        record { header_there = ltb-false _ _ ea; all_there = ltb-false _ _ eb; few = leb-true _ _ (and_l few rise el); rise = and_r few rise el }
    by_tests false false false ea eb el e = absurd (omega arith)

pub record Holds (s : List ℕ) (at m : ℕ) : Type 0 where
  pub starts : at ≤ length s
  pub ends : counts_length m ≤ length s - at

pub holds : (s : List ℕ) (at m : ℕ) → holds_counts s at m ≡ true → Holds s at m
unfolding holds_counts
holds s at m h =
    let a = leb at (length s) in
    let b = leb (counts_length m) (length s - at) in
    record { starts = leb-true _ _ (and_l a b h); ends = leb-true _ _ (and_r a b h) }

-- the check's answers: w and m are the writes as the code has them
module _ (t : List ℕ) (w m : ℕ) (ew : w ≡ writes_of t) (em : m ≡ w) (there : counts_header_length ≤ length t) where
  pub check_short : length t < counts_length m → 12 ≡ check_counts t
  unfolding check_counts
  check_short h =
      let h' : length t < counts_length (writes_of t) = rw (em ∙ ew) at h in
      rw (le-ltb (length t) counts_header_length there, lt-ltb (length t) (counts_length (writes_of t)) h')

  pub check_whole : (ok : Bool) → counts_length m ≤ length t → ok ≡ rises t counts_header_length m → (b : Bool) → leb w most_entries && ok ≡ b → cond b 0 5 ≡ check_counts t
  unfolding check_counts
  check_whole ok h eo b e =
      let h' : counts_length (writes_of t) ≤ length t = rw (em ∙ ew) at h in
      let eo' : ok ≡ rises t counts_header_length (writes_of t) = rw (em ∙ ew) at eo in
      let e' : leb (writes_of t) most_entries && rises t counts_header_length (writes_of t) ≡ b = rw (ew, eo') at e in
      rw (le-ltb (length t) counts_header_length there, le-ltb (length t) (counts_length (writes_of t)) h', e')

-- the reader's answers before the end: the part from `at` on is lent as it stands
module _ (s : List ℕ) (at last : ℕ) (inside : at ≤ length s) (more : at ≡ length s → ⊥) where
  pub read_number : (k : ℕ) → k ≡ check_counts (take (length s - at) (drop at s)) → (k ≡ 0 → ⊥) → Refused k ≡ counts_read s at last
  unfolding counts_read first_counts
  read_number k e n =
      let e' : k ≡ check_counts (drop at s) = rw to_the_end at e in
      rw (le-ltb (length s) at inside, ne_eqb at (length s) more, ← e', ne_eqb k 0 n)

  -- accepted counts: what follows is by their commit number
  read_follows : (k c : ℕ) (b : Bool) → k ≡ check_counts (take (length s - at) (drop at s)) → k ≡ 0 → c ≡ commit_of (take (length s - at) (drop at s)) → b ≡ eqb c (last + 1)
      → cond b (Counts (counted_of (drop at s) at)) (Refused 13) ≡ counts_read s at last
  unfolding counts_read first_counts
  read_follows k c b e z ec eb =
      let checks : check_counts (drop at s) ≡ 0 = sym (rw to_the_end at e) ∙ z in
      let number : b ≡ eqb (commit_of (drop at s)) (last + 1) = rw (rw to_the_end at ec) at eb in
      rw (le-ltb (length s) at inside, ne_eqb at (length s) more, checks, ← number)

  pub read_sequence : (k c : ℕ) (b : Bool) → k ≡ check_counts (take (length s - at) (drop at s)) → k ≡ 0 → c ≡ commit_of (take (length s - at) (drop at s)) → b ≡ eqb c (last + 1)
      → b ≡ false → Refused 13 ≡ counts_read s at last
  read_sequence k c b e z ec eb f = rw f at (read_follows k c b e z ec eb)

  pub read_counts : (k c w m : ℕ) (b : Bool) → k ≡ check_counts (take (length s - at) (drop at s)) → k ≡ 0 → c ≡ commit_of (take (length s - at) (drop at s)) → b ≡ eqb c (last + 1)
      → b ≡ true → w ≡ writes_of (take (length s - at) (drop at s)) → m ≡ w
      → Counts (record { end = at + counts_length m; writes = w; commit = c }) ≡ counts_read s at last
  unfolding counted_of
  read_counts k c w m b e z ec eb f ew em =
      rw (em, rw to_the_end at ew, rw to_the_end at ec) (rw f at (read_follows k c b e z ec eb))

-- the C reader, where its three numbers fit
pub told_read : (s o : List ℕ) (at last : ℕ) (a : Next) → counts_fields_length ≤ length o → a ≡ counts_read s at last → told_next o a ≡ told_counts_read s at last o
unfolding told_counts_read
told_read s o at last a h e = rw (le-ltb (length o) counts_fields_length h, ← e)

pub told_counts : (s o : List ℕ) (at last w k : ℕ) (c : Counted) → counts_fields_length ≤ length o → Counts c ≡ counts_read s at last → w ≡ c.writes → k ≡ c.commit
    → told (sets o 0 (c.end ∷ w ∷ k ∷ [])) 0 ≡ told_counts_read s at last o
told_counts s o at last w k c h e ew ek = rw (ew, ek) (told_read s o at last (Counts c) h e)
