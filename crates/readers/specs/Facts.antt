-- What a record that is found leaves the readers to tell.
use Rattle.std.specs.Prelude.{ℕ, ◌-◌, ◌≤◌, ◌≡◌, List, length, take, drop}
use Rattle.std.proofs.Common.{sym, ◌∙◌, le-ltb}
use Rattle.std.proofs.lemmas.List.Edits.{sets}
use Rattle.lists.specs.Stores.{to_the_end}
use Rattle.archive.specs.declared.Fields.{Fields}
use Rattle.archive.specs.declared.Answer.{Answer}
use Rattle.archive.specs.Told.{told}
use Rattle.replay.specs.Replay.{replayed, replay_of}
use Rattle.seek.specs.Seek.{sought_of}
use Rattle.seek.specs.Facts.{Stands, found_stands}
use Rattle.counts.specs.Counts.{longest_counts, counts_on}
use Rattle.counts.specs.Record.{shown}
use Rattle.counts.specs.Facts.{Room, room}
use Rattle.readers.specs.Readers.{service_length, service_list, counts_told, counts_at, service_told, service_at, on_service, record_service}

pub found : (s : List ℕ) (commit : ℕ) {a : Answer} (f : Fields) → a ≡ sought_of s commit → a ≡ Answer.Record f → Stands s f
unfolding sought_of
found s commit f e r = found_stands commit s 0 0 _ f (sym e ∙ r)

-- the archive from the record on, as it is lent
pub found_room : (s o : List ℕ) (f : Fields) → Stands s f → longest_counts ≤ length o → Room (take (length s - f.at) (drop f.at s)) o
found_room s o f st h = rw (to_the_end s f.at) (room (drop f.at s) o st.checks h)

-- the counts reader, where the longest counts fit
pub counts_told_lem : (s o : List ℕ) (commit : ℕ) (a : Answer) → longest_counts ≤ length o → a ≡ sought_of s commit → counts_told s o a ≡ counts_at s commit o
unfolding counts_at
counts_told_lem s o commit a h e = rw (le-ltb (length o) longest_counts h, ← e)

pub counts_put : (s o : List ℕ) (commit : ℕ) {x : List ℕ} (f : Fields) → longest_counts ≤ length o → Answer.Record f ≡ sought_of s commit
    → x ≡ counts_on (take (length s - f.at) (drop f.at s)) o → told x 0 ≡ counts_at s commit o
counts_put s o commit f h e ex = rw (rw (to_the_end s f.at) at ex) (counts_told_lem s o commit (Answer.Record f) h e)

-- the service reader, where its numbers fit
pub service_told_lem : (s o : List ℕ) (commit : ℕ) (a : Answer) → service_length ≤ length o → a ≡ sought_of s commit → service_told o a ≡ service_at s commit o
unfolding service_at
service_told_lem s o commit a h e = rw (le-ltb (length o) service_length h, ← e)

pub service_put : (s o : List ℕ) (commit : ℕ) {x : List ℕ} (f : Fields) → service_length ≤ length o → Answer.Record f ≡ sought_of s commit
    → x ≡ sets o 0 (service_list f) → told x 0 ≡ service_at s commit o
service_put s o commit f h e ex = rw ex (service_told_lem s o commit (Answer.Record f) h e)

-- of a record by itself
pub service_record : (t : List ℕ) (last : ℕ) (v w o : List ℕ) (a : Answer) → service_length ≤ length o → replayed w a ≡ replay_of t 0 last v
    → on_service last w o a ≡ record_service t last v o
unfolding record_service
service_record t last v w o a h e = rw (le-ltb (length o) service_length h, ← e)

pub service_record_put : (t : List ℕ) (last : ℕ) (v w o : List ℕ) {x : List ℕ} (f : Fields) → service_length ≤ length o → replayed w (Answer.Record f) ≡ replay_of t 0 last v
    → x ≡ sets o 0 (service_list f) → shown w f.commit x 0 ≡ record_service t last v o
service_record_put t last v w o f h e ex = rw ex (service_record t last v w o (Answer.Record f) h e)
