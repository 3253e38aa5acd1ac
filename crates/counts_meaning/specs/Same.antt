-- "Two accepted archives that differ only in stations, station kinds, transaction numbers and reads must look the same to the counts
-- reader at every commit", and "both give numbers 5 and 12 to 14 alike".
use Rattle.std.specs.Prelude.{ℕ, suc, ◌≤◌, ◌≡◌, refl, Bool, true, false, List, length, ltb}
use Rattle.std.proofs.Common.{sym, ap, ◌∙◌, arith, le-ltb, ltb-false}
use Rattle.lists.specs.Bytes.{Bytes}
use Rattle.layout.specs.Record.{Record, AllWellFormed, archive_of}
use Rattle.archive.specs.declared.Answer.{Answer}
use Rattle.archive.specs.Told.{told, nothing_there}
use Rattle.replay.specs.Replay.{replay_of}
use Rattle.replay.specs.Played.{archive_played}
use Rattle.archive_meaning.specs.Reader.{parsed, archive_read}
use Rattle.archive_meaning.proofs.Reader.{read_is_written}
use Rattle.archive_meaning.specs.Replay.{fresh}
use Rattle.seek.specs.Seek.{sought_of}
use Rattle.counts.specs.Counts.{longest_counts}
use Rattle.counts.specs.Record.{Shown, shown, on_shown, record_counts}
use Rattle.readers.specs.Readers.{counts_told, counts_at, service_told, service_at, on_service, record_service}
use Rattle.counts_meaning.specs.View.{Alike, view_of, tell_at, file_of, alike_view}
use Rattle.counts_meaning.specs.Shown.{View, view, archive_view, counts_tell, view_ends, accepted_from}

-- archives of one view are told alike, accepted or refused
pub one_view : (s q : List ℕ) → Bytes s → Bytes q → archive_view s ≡ archive_view q → (commit : ℕ) (o : List ℕ) → counts_at s commit o ≡ counts_at q commit o
unfolding counts_at
one_view s q hs hq e commit o = by_room (ltb (length o) longest_counts) refl
  where
    by_room : (b : Bool) → ltb (length o) longest_counts ≡ b → counts_at s commit o ≡ counts_at q commit o
    by_room true r = rw r
    by_room false r =
        let h = ltb-false (length o) longest_counts r in
        counts_tell s o hs commit h ∙ ap (λ (x : View). tell_at x.counts x.number commit o) e ∙ sym (counts_tell q o hq commit h)

-- an accepted archive is shown as the records that it is the bytes of, and then its end
pub accepted_view : (s : List ℕ) (rs : List Record) → Bytes s → (archive_played s 0 fresh).number ≡ 0 → AllWellFormed rs → archive_of rs ≡ s
    → archive_view s ≡ view (view_of rs) nothing_there
unfolding archive_played archive_view archive_read
accepted_view s rs hs z w b =
    let shows = accepted_from s hs (suc (length s)) 0 0 fresh (omega arith) z in
    let qs = (archive_read s 0).records in
    let read : archive_read s 0 ≡ parsed qs 0 = ap (parsed qs) shows.1 in
    let same : rs ≡ qs = (read_is_written s 0 qs hs read).one_way rs w b in
    let ends : (archive_view s).number ≡ nothing_there = rw z at (view_ends s hs).number in
    let counts : (archive_view s).counts ≡ view_of rs = rw same shows.0 in
    λ t. view (counts t) (ends t)

-- WISH 8: accepted archives that differ only in stations, station kinds, transaction numbers and reads look the same to the counts
-- reader at every commit, in whatever output
pub same_to_counts : (s q : List ℕ) (rs qs : List Record) → Bytes s → Bytes q → (archive_played s 0 fresh).number ≡ 0 → (archive_played q 0 fresh).number ≡ 0
    → AllWellFormed rs → AllWellFormed qs → archive_of rs ≡ s → archive_of qs ≡ q → Alike rs qs
    → (commit : ℕ) (o : List ℕ) → counts_at s commit o ≡ counts_at q commit o
same_to_counts s q rs qs hs hq zs zq ws wq bs bq a =
    one_view s q hs hq (accepted_view s rs hs zs ws bs ∙ ap (λ cs. view cs nothing_there) (alike_view rs qs a) ∙ sym (accepted_view q qs hq zq wq bq))

-- and their counts files are the same bytes
pub same_file : (s q : List ℕ) (rs qs : List Record) → Bytes s → Bytes q → (archive_played s 0 fresh).number ≡ 0 → (archive_played q 0 fresh).number ≡ 0
    → AllWellFormed rs → AllWellFormed qs → archive_of rs ≡ s → archive_of qs ≡ q → Alike rs qs
    → file_of (archive_view s).counts ≡ file_of (archive_view q).counts
same_file s q rs qs hs hq zs zq ws wq bs bq a =
    ap (λ (x : View). file_of x.counts)
    (accepted_view s rs hs zs ws bs ∙ ap (λ cs. view cs nothing_there) (alike_view rs qs a) ∙ sym (accepted_view q qs hq zq wq bq))

-- both readers give the same number at every commit, of any bytes
pub numbers_alike : (s : List ℕ) (commit : ℕ) (o p : List ℕ) → longest_counts ≤ length o → 8 ≤ length p → (counts_at s commit o).number ≡ (service_at s commit p).number
unfolding counts_at service_at
numbers_alike s commit o p h g = rw (le-ltb (length o) longest_counts h, le-ltb (length p) 8 g) (on_answer_lem (sought_of s commit))
  where
    on_answer_lem : (a : Answer) → (counts_told s o a).number ≡ (service_told p a).number
    on_answer_lem (Answer.Record f) = refl
    on_answer_lem Answer.End = refl
    on_answer_lem (Answer.Refused k) = refl

-- and of a record by itself, with the same values and the same last commit number behind it
pub record AsOne (x y : Shown) : Type 0 where
  pub number : x.number ≡ y.number
  pub last : x.last ≡ y.last
  pub values : x.values ≡ y.values

pub records_alike : (t : List ℕ) (last : ℕ) (v o p : List ℕ) → longest_counts ≤ length o → 8 ≤ length p → AsOne (record_counts t last v o) (record_service t last v p)
unfolding record_counts record_service
records_alike t last v o p h g = rw (le-ltb (length o) longest_counts h, le-ltb (length p) 8 g) (on_answer_lem (replay_of t 0 last v).answer)
  where
    on_answer_lem : (a : Answer) → AsOne (on_shown t last (replay_of t 0 last v).values o a) (on_service last (replay_of t 0 last v).values p a)
    on_answer_lem (Answer.Record f) = record { number = refl; last = refl; values = refl }
    on_answer_lem Answer.End = record { number = refl; last = refl; values = refl }
    on_answer_lem (Answer.Refused k) = record { number = refl; last = refl; values = refl }
