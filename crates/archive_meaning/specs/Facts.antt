-- The reader at one position: when it gives a record, the end or a number, and what each of them tells.
use Rattle.std.specs.Prelude.{ℕ, suc, ◌+◌, ◌<◌, ◌≡◌, List, ◌++◌, length, drop}
use Rattle.layout.specs.Record.{Record, WellFormed, bytes_of}
use Rattle.record.specs.Check.{check_of}
use Rattle.record_meaning.specs.Parse.{record_of}
use Rattle.archive.specs.declared.Fields.{Fields}
use Rattle.archive.specs.declared.Answer.{Answer}

-- these bytes begin with this record
pub record Begins (t : List ℕ) (r : Record) : Type 0 where
  pub well_formed : WellFormed r
  pub tail : List ℕ
  pub bytes : bytes_of r ++ tail ≡ t

-- the fields of the record r, which starts at `at`
pub record Said (r : Record) (at : ℕ) (f : Fields) : Type 0 where
  pub at_is : f.at ≡ at
  pub end_is : f.end ≡ at + length (bytes_of r)
  pub reads_is : f.reads ≡ length r.reads
  pub writes_is : f.writes ≡ length r.writes
  pub commit_is : f.commit ≡ r.commit
  pub transaction_is : f.transaction ≡ r.transaction
  pub station_is : f.station ≡ r.station
  pub kind_is : f.kind ≡ r.kind

-- why the reader refuses what stands behind a commit number: document 01's numbers 12, 5 and 13, in checking order
pub data ReadRefusal (t : List ℕ) (last : ℕ) : ℕ → Type 0 where
  -- some bytes, which end inside a record
  short : 0 < length t → check_of t ≡ 12 → ReadRefusal t last 12
  -- a record's layout, broken
  broken : check_of t ≡ 5 → ReadRefusal t last 5
  -- a record whose commit number is not one more than the last
  out_of_sequence : (r : Record) → Begins t r → (r.commit ≡ suc last → ⊥) → ReadRefusal t last 13

-- what a record that is read tells: it stands there, its number follows, and its end is where the next one starts
pub record OneRead (s : List ℕ) (at last : ℕ) (f : Fields) : Type 0 where
  pub well_formed : WellFormed (record_of (drop at s))
  pub bytes : bytes_of (record_of (drop at s)) ++ drop f.end s ≡ drop at s
  pub number : (record_of (drop at s)).commit ≡ suc last
  pub commit_is : f.commit ≡ suc last

-- record check answers 0, 5 or 12
pub data CheckNumber : ℕ → Type 0 where
  is_0 : CheckNumber 0
  is_5 : CheckNumber 5
  is_12 : CheckNumber 12

-- what the other answers tell: the end is behind the last byte, and what is refused is refused for its number's reason
abbrev pub Tells : List ℕ → ℕ → ℕ → Answer → Type 0
Tells s at last (Answer.Record f) = Unit {0}
Tells s at last Answer.End = at ≡ length s
Tells s at last (Answer.Refused k) = ReadRefusal (drop at s) last k
