-- The archive reader means document 01's archive: records written one behind the other are read back, and what is read was written so.
use Rattle.std.specs.Prelude.{ℕ, zero, suc, ◌+◌, ◌-◌, ◌<◌, ◌≡◌, List, [], ◌∷◌, ◌++◌, length, drop}
use Rattle.layout.specs.Record.{Record, AllWellFormed, Numbered, archive_of}
use Rattle.record_meaning.specs.Parse.{record_of}
use Rattle.archive.specs.declared.Answer.{Answer}
use Rattle.archive.specs.Read.{read_of}
use Rattle.archive_meaning.specs.Facts.{ReadRefusal}

-- the records that are read, and the number: 0 at the end of the archive
pub record Parsed : Type 0 where
  pub records : List Record
  pub number : ℕ

abbrev pub parsed : List Record → ℕ → Parsed
parsed rs k = record { records = rs; number = k }

-- records, and what is read behind them
abbrev pub behind : List Record → Parsed → Parsed
behind rs p = parsed (rs ++ p.records) p.number

-- what an answer leads to: the record and all that is read from its end on, or the end of the reading; t is the archive from the position on
abbrev pub on_read : (ℕ → ℕ → Parsed) → List ℕ → Answer → Parsed
on_read next t (Answer.Record f) = behind (record_of t ∷ []) (next f.end f.commit)
on_read next t Answer.End = parsed [] 0
on_read next t (Answer.Refused k) = parsed [] k

-- the archive from `at` on, record by record, to its end or the first record refused. Each record takes a turn and at least
-- a header, so one turn more than there are bytes suffices (`enough_turns`).
unfoldable pub read_all : ℕ → List ℕ → ℕ → ℕ → Parsed
read_all zero s at last = parsed [] 12
read_all (suc turns) s at last = on_read (read_all turns s) (drop at s) (read_of s at last)

-- an archive read behind this commit number
unfoldable pub archive_read : List ℕ → ℕ → Parsed
archive_read s last = read_all (suc (length s)) s 0 last

-- the archive from `at` on, with turns enough
abbrev pub read_from : List ℕ → ℕ → ℕ → Parsed
read_from s at last = read_all (suc (length s) - at) s at last

-- what a reading tells of the archive from `at` on, whatever its number
pub record ReadTo (s : List ℕ) (at last : ℕ) (p : Parsed) : Type 0 where
  pub rest : List ℕ
  pub bytes : archive_of p.records ++ rest ≡ drop at s
  pub well_formed : AllWellFormed p.records
  pub numbered : Numbered last p.records
  -- number 0: nothing is left
  pub whole : p.number ≡ 0 → rest ≡ []
  -- any other: the rest is what that number refuses behind these records
  pub why : 0 < p.number → ReadRefusal rest (last + length p.records) p.number

-- an archive that is read to its end is the records' bytes one behind the other, and it can be read as no others
pub record Archive (s : List ℕ) (last : ℕ) (rs : List Record) : Type 0 where
  pub bytes : archive_of rs ≡ s
  pub well_formed : AllWellFormed rs
  pub numbered : Numbered last rs
  pub one_way : (qs : List Record) → AllWellFormed qs → archive_of qs ≡ s → qs ≡ rs

-- the records of an archive that is refused stand at its start, and the rest is what that number refuses behind them
pub record ArchiveTo (s : List ℕ) (last : ℕ) (rs : List Record) (k : ℕ) : Type 0 where
  pub rest : List ℕ
  pub bytes : archive_of rs ++ rest ≡ s
  pub well_formed : AllWellFormed rs
  pub numbered : Numbered last rs
  pub why : ReadRefusal rest (last + length rs) k
