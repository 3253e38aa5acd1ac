-- A commit from the line's side: what a transaction brings, as a record, is sent and read as just that.
use Rattle.std.specs.Prelude.{ℕ, ◌-◌, ◌^◌, ◌<◌, ◌≡◌, false, cond, List, ◌≢◌, length, get_or, ltb}
use Rattle.sets.specs.Base.{has}
use Rattle.layout.specs.Record.{Entry, Record, addresses}
use Rattle.line.specs.Messages.{Work}
use Rattle.line.specs.Fit.{LimitedWork}
use Rattle.entries.specs.Entries.{entries_of, FitVal, Within}

-- the record of what a commit brings
abbrev pub record_up : ℕ → ℕ → Work → Record
record_up station kind w =
    record { reads = entries_of w.reads; writes = entries_of w.writes; commit = 0; transaction = w.transaction; station = station; kind = kind }

-- values of 8 bytes, at addresses below 256; versions of 4 bytes, of what has an entry; no more than one transaction may have
pub record WorkFits (w : Work) : Type 0 where
  pub transaction_not_0 : w.transaction ≢ 0
  pub transaction_fits : w.transaction < 2 ^ 32
  pub reads_within : Within w.reads
  pub writes_within : Within w.writes
  pub reads_fit : (a : ℕ) → FitVal (w.reads a)
  pub writes_fit : (a : ℕ) → FitVal (w.writes a)
  pub read_versions_fit : (a : ℕ) → w.read_versions a < 2 ^ 32
  pub written_versions_fit : (a : ℕ) → w.written_versions a < 2 ^ 32
  pub read_versions_within : (a : ℕ) → has (w.reads a) ≡ false → w.read_versions a ≡ 0
  pub written_versions_within : (a : ℕ) → has (w.writes a) ≡ false → w.written_versions a ≡ 0
  pub few : LimitedWork w

-- the version of entry e: "in record order", first the reads'
abbrev pub version_of : List Entry → List Entry → (ℕ → ℕ) → (ℕ → ℕ) → ℕ → ℕ
version_of es fs f g e = cond (ltb e (length es)) (f (get_or (addresses es) e 0)) (g (get_or (addresses fs) (e - length es) 0))

abbrev pub versions_up : Work → ℕ → ℕ
versions_up w = version_of (entries_of w.reads) (entries_of w.writes) w.read_versions w.written_versions
