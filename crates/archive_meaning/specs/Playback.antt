-- One record played by itself: "Playback keeps 256 values and the last commit number, changed by each accepted record".
use Rattle.std.specs.Prelude.{ℕ, suc, ◌<◌, ◌≡◌, List, length, get_or}
use Rattle.layout.specs.Record.{Record}
use Rattle.layout.specs.Replay.{Values, wrote, ReadsAgree}
use Rattle.replay.specs.Played.{Played}
use Rattle.archive_meaning.specs.Facts.{Begins}
use Rattle.archive_meaning.specs.Stored.{values_of}
use Rattle.archive_meaning.specs.Replay.{PlayRefusal}

-- an accepted record: it stands first, its number follows, its reads are the values there, and its writes and its number are kept
pub record OnePlayed (s : List ℕ) (start : Values) (last : ℕ) (p : Played) : Type 0 where
  pub record_is : Record
  pub begins : Begins s record_is
  pub follows : record_is.commit ≡ suc last
  pub reads_agree_lem : ReadsAgree record_is.reads start
  pub last_is : p.last ≡ record_is.commit
  pub values : (a : ℕ) → get_or p.values a 0 ≡ wrote record_is.writes start a
  pub as_many : length p.values ≡ 256

-- why a record is refused: as in an archive, and 12 for no bytes
pub data OneRefusal (s : List ℕ) (last : ℕ) (v : Values) : ℕ → Type 0 where
  no_bytes : length s ≡ 0 → OneRefusal s last v 12
  refusal : {k : ℕ} → PlayRefusal s last v k → OneRefusal s last v k

-- a refused record: all is kept as it was
pub record OneRefused (s v : List ℕ) (last : ℕ) (p : Played) : Type 0 where
  pub values_kept : p.values ≡ v
  pub last_kept : p.last ≡ last
  pub why : OneRefusal s last (values_of v) p.number

-- whatever the number
pub record One (s v : List ℕ) (last : ℕ) (p : Played) : Type 0 where
  pub accepted : p.number ≡ 0 → OnePlayed s (values_of v) last p
  pub refused : 0 < p.number → OneRefused s v last p
