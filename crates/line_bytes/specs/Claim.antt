-- Demand 3 over bytes: what it means that the archive of a line is true. Over what owners were told, the messages that were sent, the
-- archive's bytes and the bytes of the server's pages; no word of the model.
use Rattle.std.specs.Prelude.{ℕ, ◌<◌, ◌≡◌, ◌&&◌, List, ◌∷◌, ◌++◌, length, get_or}
use Rattle.sets.specs.Base.{none, val_or, zeros}
use Rattle.layout.specs.Record.{Record, AllWellFormed, Numbered, archive_of}
use Rattle.recs.specs.Recs.{recs_of}
use Rattle.archive_meaning.specs.Reader.{archive_read}
use Rattle.archive_meaning.specs.Replay as Playback
use Rattle.replay.specs.Played.{Played, archive_played}
use Rattle.line.specs.Messages.{Rec}
use Rattle.line.specs.Line.{Told, ToldRead, ToldCommit, ToldAbort}
use Rattle.line.specs.Truth.{In, count, left, left_before, NumberedFrom, of_transaction, of_number, last_write, SameAsTold}
use Rattle.message.specs.Layout.{kind_of, station_of, transaction_of, version_of}
use Rattle.server_state.specs.Layout.{value_of}
use Rattle.line_bytes.specs.Bytes.{WorldB}

-- THE ARCHIVE

-- the records that the archive reader gives, from the first byte to the end or to the first record that it refuses
abbrev pub records_b : WorldB → List Record
records_b w = (archive_read w.archive 0).records

-- the same, their reads and writes by address
abbrev pub recs_b : WorldB → List Rec
recs_b w = recs_of (records_b w)

-- "Playback keeps 256 values and the last commit number": a fresh playback of the archive
abbrev pub played_b : WorldB → Played
played_b w = archive_played w.archive 0 Playback.fresh

-- COMMITTED AND ABORTED

-- "Committed: 21 sent.": to station i, of transaction t, with number n. "21 committed (transaction, commit number)"
pub record CommittedB (w : WorldB) (i t n : ℕ) : Type 0 where
  pub message : List ℕ
  pub sent : In message w.sent_down
  pub kind_is : kind_of message ≡ 21
  pub station_is : station_of message ≡ i
  pub transaction_is : transaction_of message ≡ t
  pub number_is : version_of message ≡ n

-- 22 sent: "22 aborted (transaction, cause)"
pub record Sent22 (w : WorldB) (i t : ℕ) : Type 0 where
  pub message : List ℕ
  pub sent : In message w.sent_down
  pub kind_is : kind_of message ≡ 22
  pub station_is : station_of message ≡ i
  pub transaction_is : transaction_of message ≡ t

-- "Aborted: 22 sent, or ended by 23 or its owner's abort.": the owner is told of the last two
pub data AbortedB (w : WorldB) (i t : ℕ) : Type 0 where
  by22 : Sent22 w i t → AbortedB w i t
  by_owner_or23 : {c : ℕ} → In (ToldAbort i t c) w.told → AbortedB w i t

-- THE CLAIM

pub record TrueBytes (w : WorldB) : Type 0 where
  -- the reader accepts the archive to its end; its bytes are those of the records that it gives, each well_formed, numbered 1, 2, ..
  pub read : (archive_read w.archive 0).number ≡ 0
  pub bytes : w.archive ≡ archive_of (records_b w)
  pub well_formed : AllWellFormed (records_b w)
  pub numbered : Numbered 0 (records_b w)
  -- the playback of the bytes is accepted: "each read told .. is the value that the earlier records leave" (number 14 otherwise)
  pub replayed : (played_b w).number ≡ 0
  pub last_is : (played_b w).last ≡ length (records_b w)
  -- .. and ends with the server's pages, address by address
  pub as_many : length (played_b w).values ≡ 256
  pub same_pages : (a : ℕ) → a < 256 → get_or (played_b w).values a 0 ≡ value_of w.server a
  -- records stand in commit order, numbered from 1
  pub order : NumberedFrom 1 (recs_b w)
  -- each record is one committed transaction's
  pub committed : (r : Rec) → In r (recs_b w) → CommittedB w r.station r.transaction r.number
  pub one_each : (r : Rec) → In r (recs_b w) → count (of_transaction r.station r.transaction) (recs_b w) ≡ 1
  pub sent : (i t n : ℕ) → CommittedB w i t n → count (λ r. of_number n r && of_transaction i t r) (recs_b w) ≡ 1
  -- with exactly the first reads told of objects it had not yet written, and its last writes
  pub contents : (r : Rec) → In r (recs_b w) → SameAsTold w.told r
  -- every commit told to an owner has exactly one record, with the number told
  pub told : (i t n : ℕ) → In (ToldCommit i t n) w.told → (count (of_number n) (recs_b w) ≡ 1) × (count (λ r. of_number n r && of_transaction i t r) (recs_b w) ≡ 1)
  -- every owner's read in a committed transaction was told the value that the records before its own leave, from zeros (behind the
  -- transaction's own write of that object, its own last write)
  pub reads :
      (i t n a v : ℕ) (before after : List Told) → CommittedB w i t n → w.told ≡ before ++ (ToldRead i t a v ∷ after)
      → v ≡ val_or (last_write i t before a none) (left_before n (recs_b w) a)
  -- the pages end equal to the server's
  pub pages : (a : ℕ) → a < 256 → left (recs_b w) zeros a ≡ value_of w.server a
  -- no aborted transaction has a record
  pub aborted : (i t : ℕ) → AbortedB w i t → count (of_transaction i t) (recs_b w) ≡ 0
