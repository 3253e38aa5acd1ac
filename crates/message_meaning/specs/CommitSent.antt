-- A commit that a station sends is taken by the server and read as meant: "3 commit (transaction, set of pages used)", and by
-- document 02 "one version for each entry of its record, in record order", then the record.
use Rattle.std.specs.Prelude.{ℕ, ◌+◌, ◌*◌, ◌^◌, ◌≤◌, ◌<◌, ◌≡◌, true, List, ◌++◌}
use Rattle.std.proofs.Math.ListN.{length, get_or}
use Rattle.kinds.specs.Kinds.{locking}
use Rattle.cells.specs.Bits.{tb}
use Rattle.limits.specs.Limit.{limit}
use Rattle.layout.specs.Record.{Record, WellFormed, bytes_of}
use Rattle.line.specs.Messages.{Work}
use Rattle.line.specs.Server.{used_page}
use Rattle.entries.specs.Entries.{value_in}
use Rattle.message.specs.Layout.{version_width, up_message}
use Rattle.message.specs.Commit.{versions_at}
use Rattle.message.specs.Number.{kinds_ok}
use Rattle.message_meaning.specs.Meant.{version_in}
use Rattle.message_meaning.specs.Numbers.{numbers}

-- how many entries a record has, and where it stands in a commit
abbrev pub entry_count : Record → ℕ
entry_count r = length r.reads + length r.writes

abbrev pub place_in : Record → ℕ
place_in r = versions_at + entry_count r * version_width

-- "one version for each entry"
abbrev pub version_bytes : (ℕ → ℕ) → ℕ → List ℕ
version_bytes v n = numbers version_width v n 0

-- the bytes of a commit with this record, set of pages used and versions
abbrev pub commit_message : Record → ℕ → (ℕ → ℕ) → List ℕ
commit_message r used v = up_message 3 r.station 0 0 r.transaction used 0 ++ (version_bytes v (entry_count r) ++ bytes_of r)

-- and what it brings
abbrev pub work_in : Record → (ℕ → ℕ) → Work
work_in r v =
    record {
      transaction = r.transaction;
      reads = value_in r.reads;
      writes = value_in r.writes;
      read_versions = version_in v r.reads 0;
      written_versions = version_in v r.writes (length r.reads);
    }

-- what makes a record, a set of pages and versions a commit that a station sends
pub record Sendable (kinds : List ℕ) (r : Record) (used : ℕ) (v : ℕ → ℕ) : Type 0 where
  pub kinds_ok_lem : kinds_ok kinds ≡ true
  pub kind_known : get_or kinds r.station 0 ≡ r.kind
  pub well_formed : WellFormed r
  -- document 02, wish 1: "48 distinct reads and 48 distinct writes"
  pub reads_few : length r.reads ≤ limit
  pub writes_few : length r.writes ≤ limit
  -- "commit number (4; 0 on the way up)"
  pub commit_0 : r.commit ≡ 0
  -- "set of pages used": those of the reads and writes
  pub pages_fit : used < 2 ^ 32
  pub pages_are : (p : ℕ) → p < 32 → tb used p ≡ used_page (work_in r v) p
  -- "from a locking station all are 0"
  pub versions_fit : (e : ℕ) → e < entry_count r → v e < 2 ^ 32
  pub versions_0 : (e : ℕ) → e < entry_count r → locking r.kind ≡ true → v e ≡ 0
