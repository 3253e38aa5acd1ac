-- The table of counters (docs/PLAYBACK.md, `--totals` and `--at N`) means document 01's archive: the values are those that the first
-- records leave, and the counts are how many of these records write each counter.
use Rattle.std.specs.Prelude.{ℕ, suc, ◌+◌, ◌≤◌, ◌<◌, ◌≡◌, cond, List, [], ◌++◌, length, get_or}
use Rattle.layout.specs.Record.{Record, AllWellFormed, Numbered, archive_of}
use Rattle.layout.specs.Replay.{zeros, left, Replays}
use Rattle.record_meaning.specs.Parse.{record_of}
use Rattle.archive_meaning.specs.Replay.{Stretch}
use Rattle.totals.specs.Totals.{counted}
use Rattle.totals.specs.Tally.{Tallied}
use Rattle.totals_meaning.specs.Written.{writes_to, writers_of}

-- a tally of the archive from `at` on, up to the commit `until`: the records that it played, and what they come to
pub record TalliedTo (s : List ℕ) (until at last : ℕ) (v c : List ℕ) (t : Tallied) : Type 0 where
  pub stretch : Stretch s at last v t.last t.values
  pub counts : (a : ℕ) → a < 256 → get_or t.counts a 0 ≡ get_or c a 0 + writers_of a stretch.records
  -- it stops behind the commit asked for, at the end, or where a record is refused
  pub whole : t.number ≡ 0 → (t.last ≡ until → ⊥) → stretch.rest ≡ []

-- the counts are no more than the commits
abbrev pub Few : List ℕ → ℕ → Type 0
Few c last = (a : ℕ) → a < 256 → get_or c a 0 ≤ last

-- what a record that is read adds to the counts
pub record Counting (p c : List ℕ) (last : ℕ) : Type 0 where
  pub each : (a : ℕ) → a < 256 → get_or (counted p c) a 0 ≡ get_or c a 0 + cond (writes_to a (record_of p).writes) 1 0
  pub few : Few (counted p c) (suc last)
  pub as_many : length (counted p c) ≡ 256

-- what a table says of an archive
pub record Counters (s : List ℕ) (until : ℕ) (t : Tallied) : Type 0 where
  -- the records that it speaks of: the archive's first ones, as many as the last commit says
  pub records : List Record
  pub rest : List ℕ
  pub bytes : archive_of records ++ rest ≡ s
  pub well_formed : AllWellFormed records
  pub numbered : Numbered 0 records
  pub replays : Replays records zeros
  pub as_many : t.last ≡ length records
  -- "its value", "how many records wrote it"
  pub values : (a : ℕ) → get_or t.values a 0 ≡ left records zeros a
  pub counts : (a : ℕ) → a < 256 → get_or t.counts a 0 ≡ writers_of a records
  -- number 0 before the commit asked for: these are all of the archive's
  pub whole : t.number ≡ 0 → (t.last ≡ until → ⊥) → rest ≡ []
