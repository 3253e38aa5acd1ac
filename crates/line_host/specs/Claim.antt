-- Demand 3 of the functions that hosts call: what it means that the archive of a line is true. `TrueBytes` (line_bytes) says it of what owners
-- were told, what was sent, the archive's bytes and the server's pages; here is what the history of the calls adds.
use Rattle.std.specs.Prelude.{ℕ, ◌≤◌, ◌<◌, ◌≡◌, List, [], ◌∷◌, ◌++◌, length, get_or}
use Rattle.layout.specs.Record.{Record, archive_of}
use Rattle.line.specs.Truth.{In, count, of_transaction}
use Rattle.station_state.specs.Layout.{kind}
use Rattle.line_bytes.specs.Claim.{records_b, recs_b, Sent22, TrueBytes}
use Rattle.line_host.specs.Line.{Event, Began, Asked, Ended, EndedByOwner, Archived, WorldH}

-- "Aborted: 22 sent, or ended by 23 or its owner's abort.": the last two are said of the station's state before and behind the call
pub data AbortedH (w : WorldH) (i t : ℕ) : Type 0 where
  by22 : Sent22 w.line i t → AbortedH w i t
  by23 : In (Ended i t 23) w.history → AbortedH w i t
  by_owner : In (EndedByOwner i t) w.history → AbortedH w i t

-- station i's owner began transaction t, then asked for its commit, and then a step of the server archived what stands between these bytes
pub record Recorded (history : List Event) (i t from to : ℕ) : Type 0 where
  pub before : List Event
  pub between : List Event
  pub behind : List Event
  pub after : List Event
  pub start : ℕ
  pub end : ℕ
  pub order : history ≡ before ++ (Began i t ∷ between ++ (Asked i t ∷ behind ++ (Archived start end ∷ after)))
  pub starts : start ≤ from
  pub ends : to ≤ end

pub record TrueH (kinds : List ℕ) (w : WorldH) : Type 0 where
  -- what owners were told, what was sent, the archive and the pages
  pub bytes : TrueBytes w.line
  -- a record's transaction was begun by its owner and its commit asked for, in that order, before the record was archived
  pub begun :
      (before after : List Record) (r : Record) → records_b w.line ≡ before ++ (r ∷ after)
      → Recorded w.history r.station r.transaction (length (archive_of before)) (length (archive_of (before ++ (r ∷ []))))
  -- a record's kind is its station's, "fixed for life"
  pub kinds_are : (r : Record) → In r (records_b w.line) → r.kind ≡ get_or kinds r.station 0
  pub kinds_stay : (i : ℕ) → i < 8 → kind (w.line.station i) ≡ get_or kinds i 0
  -- no aborted transaction has a record
  pub aborted : (i t : ℕ) → AbortedH w i t → count (of_transaction i t) (recs_b w.line) ≡ 0
