-- A counts file at a position (docs/COUNTS.md): the counts there, the end, or the number: 12, then 5, then 13.
use Rattle.std.specs.Prelude.{ℕ, ◌+◌, ◌*◌, ◌-◌, List, [], ◌∷◌, Bool, ◌&&◌, cond, length, drop, get_or, eqb, ltb, leb}
use Rattle.std.proofs.lemmas.List.Edits.{sets}
use Rattle.le.specs.Le.{u16_at, u32_at, u64_at}
use Rattle.layout.specs.Record.{value_length, most_entries}
use Rattle.record.specs.Check.{rises}
use Rattle.archive.specs.Told.{Told, told, nothing_there, entry_fields_length}
use Rattle.counts.specs.Counts.{counts_header_length, counts_length}
use Rattle.counts_file.specs.declared.Counted.{Counted}
use Rattle.counts_file.specs.declared.Next.{Next}
use Rattle.counts_file.specs.declared.Next.TheVariants.{Counts, End, Refused}
use Rattle.counts_file.specs.declared.Written.{Written}
use Rattle.counts_file.specs.declared.Written.TheVariants.{Entry, Nothing}

-- "commit number (4 bytes), writes m (2)"
abbrev pub commit_of : List ℕ → ℕ
commit_of t = u32_at t 0

abbrev pub writes_of : List ℕ → ℕ
writes_of t = u16_at t 4

-- short, then broken: more writes than an archive's record has, or addresses that do not rise strictly
unfoldable pub check_counts : List ℕ → ℕ
check_counts t =
    cond (ltb (length t) counts_header_length) 12
    (cond (ltb (length t) (counts_length (writes_of t))) 12 (cond (leb (writes_of t) most_entries && rises t counts_header_length (writes_of t)) 0 5))

unfoldable pub counted_of : List ℕ → ℕ → Counted
counted_of t at = record { end = at + counts_length (writes_of t); writes = writes_of t; commit = commit_of t }

-- the counts at the start of t, which starts at `at`
unfoldable pub first_counts : List ℕ → ℕ → ℕ → Next
first_counts t at last =
    cond (eqb (check_counts t) 0) (cond (eqb (commit_of t) (last + 1)) (Counts (counted_of t at)) (Refused 13)) (Refused (check_counts t))

unfoldable pub counts_read : List ℕ → ℕ → ℕ → Next
counts_read s at last = cond (ltb (length s) at) (Refused 12) (cond (eqb at (length s)) End (first_counts (drop at s) at last))

-- the counts of m writes at `at` end within the file
unfoldable pub holds_counts : List ℕ → ℕ → ℕ → Bool
holds_counts s at m = leb at (length s) && leb (counts_length m) (length s - at)

-- the address and the value of write i
unfoldable pub counts_entry : List ℕ → ℕ → ℕ → ℕ → Written
counts_entry s at m i =
    cond (holds_counts s at m)
    (cond (ltb i m) (Entry (get_or s (at + counts_header_length + i) 0) (u64_at s (at + counts_header_length + m + value_length * i))) Nothing)
    Nothing

-- as C takes them: how many numbers it is told of a record's counts
abbrev pub counts_fields_length : ℕ
counts_fields_length = 3

abbrev pub told_next : List ℕ → Next → Told
told_next o (Counts c) = told (sets o 0 (c.end ∷ c.writes ∷ c.commit ∷ [])) 0
told_next o End = told o nothing_there
told_next o (Refused k) = told o k

unfoldable pub told_counts_read : List ℕ → ℕ → ℕ → List ℕ → Told
told_counts_read s at last o = cond (ltb (length o) counts_fields_length) (told o 1) (told_next o (counts_read s at last))

abbrev pub told_written : List ℕ → Written → Told
told_written o (Entry a v) = told (sets o 0 (a ∷ v ∷ [])) 0
told_written o Nothing = told o nothing_there

unfoldable pub told_counts_entry : List ℕ → ℕ → ℕ → ℕ → List ℕ → Told
told_counts_entry s at m i o = cond (ltb (length o) entry_fields_length) (told o 1) (told_written o (counts_entry s at m i))
