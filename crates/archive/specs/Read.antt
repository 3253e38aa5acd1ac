-- The archive reader at a position: the record there, the end, or the number: 12, then 5, then 13.
use Rattle.std.specs.Prelude.{ℕ, ◌+◌, List, cond, length, drop, eqb, ltb}
use Rattle.record.specs.Check.{read_count, write_count, commit_number, transaction_number, station_number, station_kind, length_of, check_of}
use Rattle.archive.specs.declared.Fields.{Fields}
use Rattle.archive.specs.declared.Answer.{Answer}
use Rattle.archive.specs.declared.Answer.TheVariants.{Record, End, Refused}

-- the fields of the record that starts at `at`; t is the archive from there on
unfoldable pub fields_of : List ℕ → ℕ → Fields
fields_of t at =
    record {
      at = at;
      end = at + length_of t;
      reads = read_count t;
      writes = write_count t;
      commit = commit_number t;
      transaction = transaction_number t;
      station = station_number t;
      kind = station_kind t;
    }

-- "Sequence: a commit number isn't one more than the last, first 1": the last is 0 before the first record
unfoldable pub first_of : List ℕ → ℕ → ℕ → Answer
first_of t at last =
    cond (eqb (check_of t) 0) (cond (eqb (commit_number t) (last + 1)) (Record (fields_of t at)) (Refused 13)) (Refused (check_of t))

-- "Short: the archive ends inside a record; the reader checks it before 5". A position behind the end is short too.
unfoldable pub read_of : List ℕ → ℕ → ℕ → Answer
read_of s at last = cond (ltb (length s) at) (Refused 12) (cond (eqb at (length s)) End (first_of (drop at s) at last))
