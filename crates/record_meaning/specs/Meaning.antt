-- Record check means document 01's record: what it accepts, what that says, and in how many ways bytes can be read.
use Rattle.std.specs.Prelude.{ℕ, ◌≡◌, List, ◌++◌, length, take}
use Rattle.layout.specs.Record.{Record, WellFormed, bytes_of}
use Rattle.record.specs.Check.{length_of, check_of}
use Rattle.record_meaning.specs.Parse.{record_of}

-- the bytes of a record, whatever follows, are accepted, say that record, and are as many as their sizes say
pub record ReadBack (r : Record) (rest : List ℕ) : Type 0 where
  pub accepts : check_of (bytes_of r ++ rest) ≡ 0
  pub record_is : record_of (bytes_of r ++ rest) ≡ r
  pub length_is : length_of (bytes_of r ++ rest) ≡ length (bytes_of r)

-- accepted bytes begin with exactly the bytes that the layout gives for the record that they say
pub record WrittenBack (s : List ℕ) : Type 0 where
  pub well_formed : WellFormed (record_of s)
  pub bytes_are : bytes_of (record_of s) ≡ take (length_of s) s
