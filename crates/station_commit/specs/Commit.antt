-- The bytes of a commit: "3 commit (transaction, set of pages used)", and by document 02 "one version for each entry of its record, in record
-- order", then the record.
use Rattle.std.specs.Prelude.{ℕ, ◌+◌, List, [], ◌∷◌, ◌++◌, cond, length, eqb}
use Rattle.std.proofs.lemmas.List.Edits.{sets}
use Rattle.le.specs.Width.{bytes}
use Rattle.sets.specs.Base.{Val}
use Rattle.layout.specs.Record.{Record, entries, addresses, bytes_of}
use Rattle.message.specs.Layout.{version_width, up_message}
use Rattle.station_state.specs.Layout.{read_value_from, written_value_from, seen_of, number, station, kind, locking_b, read_set_from, written_set_from, count_in}
use Rattle.station_pages.specs.Pages.{used_pages_b}
use Rattle.set_record.specs.Record.{values_at, record_from}
pub use Rattle.set_record.specs.Record.{Filled, filled}

-- the recorded reads and the own last writes, by address
abbrev pub reads_of : List ℕ → ℕ → Val
reads_of s = values_at s read_set_from read_value_from

abbrev pub writes_of : List ℕ → ℕ → Val
writes_of s = values_at s written_set_from written_value_from

-- "commit number (4; 0 on the way up)"
abbrev pub record_sent : List ℕ → Record
record_sent s = record_from s read_set_from read_value_from written_set_from written_value_from 0 (number s) (station s) (kind s)

-- how many entries it has
abbrev pub count_sent : List ℕ → ℕ
count_sent s = count_in s read_set_from + count_in s written_set_from

-- "from a locking station all are 0"; else the version that the object had when it was first used
unfoldable pub version_sent : List ℕ → ℕ → ℕ
version_sent s a = cond (locking_b s) 0 (seen_of s a)

-- the versions of these addresses, one behind the other
unfoldable pub versions_for : List ℕ → List ℕ → List ℕ
versions_for s [] = []
versions_for s (a ∷ l) = bytes version_width (version_sent s a) ++ versions_for s l

-- "in record order"
abbrev pub versions_sent : List ℕ → List ℕ
versions_sent s = versions_for s (addresses (entries (record_sent s)))

unfoldable pub commit_bytes : List ℕ → List ℕ
commit_bytes s =
    up_message 3 (station s) 0 0 (number s) (used_pages_b s) 0 ++ (versions_sent s ++ bytes_of (record_sent s))

-- the output afterwards, and how many of its bytes are the commit
abbrev pub commit_filled : List ℕ → List ℕ → Filled
commit_filled s c = filled (sets c 0 (commit_bytes s)) (length (commit_bytes s))
