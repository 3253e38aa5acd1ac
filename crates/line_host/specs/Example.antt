-- Two runs of the exported functions, with any buffers that are long enough: a transaction that its owner aborts, and one that a 23 ends (C7).
-- What happened is computed, and neither has a record.
use Rattle.std.specs.Prelude.{ℕ, ◌≤◌, ◌≡◌, refl, Bool, true, false, List, [], ◌∷◌, length, get_or}
use Rattle.std.proofs.Common.{◌∙◌, arith}
use Rattle.lists.specs.Tests.{all_to}
use Rattle.le.specs.Width.{bytes}
use Rattle.layout.specs.Record.{header, bytes_of, archive_of}
use Rattle.entries.specs.Entries.{entries_from_lem, entries_of}
use Rattle.sets.specs.Size.{size}
use Rattle.line.specs.Station.{record_read, write_local, write_set, drop_pages, mark, do_callback, do_kept, do_all_kept, closed, close, undo, own_begin, read_local, read_ask, read_as, own_read, write_ask, own_write, own_commit, own_abort, own_purge, arrive, take_lock, answer_wait, on_page, loosen, on_deescalate, on_callback, on_committed, on_aborted, on_invalidate, on_down, station_step}
use Rattle.line.specs.Server as S
use Rattle.line.specs.Line.{Told, ToldRead, ToldWrite, ToldCommit, ToldAbort, act, fresh, run, tell, tell_writes, carry_down, carry_up, perform, owner_acts, station_takes, server_takes}
use Rattle.line.specs.Truth.{here, there}
use Rattle.message.specs.Commit.{station_room, commit_room, server_room, records_room}
use Rattle.server_state.specs.Valid.{most_at, most, kinds_ok}
use Rattle.host.specs.Host.{told_length}
use Rattle.server_host.specs.Host.{served_length}
use Rattle.line_host.specs.Line.{BeginH, ReadH, WriteH, CommitH, AbortH, CallH, OwnerH, StationH, ServerH, AllFitH, Event, Began, Asked, Ended, EndedByOwner, Archived, fresh_h, run_h}
use Rattle.line_host.specs.Claim.{AbortedH, by23, by_owner}
use Rattle.line_host.specs.Events.{history_m}
use Rattle.line_host.specs.Whole.{AllRoomH, names_h, history_named, line_named}

-- "locking 0 and 2, validating 1"
abbrev kinds : List ℕ
kinds = 0 ∷ 1 ∷ 0 ∷ 0 ∷ 0 ∷ 0 ∷ 0 ∷ 0 ∷ []

kinds_ok_lem : kinds_ok kinds ≡ true
unfolding kinds_ok most most_at all_to
kinds_ok_lem = refl

-- lent to stations: o for messages, c for a commit, t told; to the server: m for messages, q for records, u served
module _ (o c t m q u : List ℕ) (lo : station_room ≤ length o) (lc : commit_room ≤ length c) (lt : told_length ≤ length t) (lm : server_room ≤ length m) (lq : records_room ≤ length q) (lu : served_length ≤ length u) where
  abbrev station : (station_room ≤ length o) × (commit_room ≤ length c) × (told_length ≤ length t)
  station = (lo, lc, lt)

  abbrev owner : (station_room ≤ length o) × (commit_room ≤ length c) × (told_length ≤ length t) × (◌≡◌ {A = Bool} false false)
  owner = (lo, lc, lt, refl)

  abbrev server : (server_room ≤ length m) × (records_room ≤ length q) × (served_length ≤ length u)
  server = (lm, lq, lu)

  -- station 0 reads 8 and aborts
  abbrev pub aborts : List CallH
  aborts = OwnerH 0 BeginH o c t ∷ OwnerH 0 (ReadH 8) o c t ∷ ServerH 0 m q u ∷ StationH 0 o c t ∷ OwnerH 0 AbortH o c t ∷ []

  aborts_fit : AllFitH aborts
  aborts_fit = (tt, (tt, (tt, (tt, (tt, tt)))))

  aborts_room : AllRoomH aborts
  aborts_room = (owner, (owner, (server, (station, (owner, tt)))))

  aborts_computed : (history_m (names_h aborts) (fresh (λ i. get_or kinds i 0)) ≡ Began 0 1 ∷ Archived 0 0 ∷ EndedByOwner 0 1 ∷ [])
      × ((run (names_h aborts) (fresh (λ i. get_or kinds i 0))).told ≡ ToldRead 0 1 8 0 ∷ ToldAbort 0 1 0 ∷ [])
  unfolding size record_read write_local write_set drop_pages mark do_callback do_kept do_all_kept closed close undo own_begin read_local read_ask read_as own_read write_ask own_write own_commit own_abort own_purge arrive take_lock answer_wait on_page loosen on_deescalate on_callback on_committed on_aborted on_invalidate on_down station_step S.notice S.finish S.join S.leave S.send_page S.abort S.write S.archive S.inform S.inform_from S.install S.serve_now S.join_read S.join_write S.join_commit S.commit_now S.unlist S.mark_busy S.answered S.loosen S.meet S.heed S.accept S.ask S.ask_from S.ask_keepers S.serve_read S.call S.grant_page S.grant_object S.grant S.install_waiter S.call_once S.after_calls S.proceed S.gates S.judge S.visit S.pass S.settle S.server_step act tell tell_writes carry_down carry_up perform owner_acts station_takes server_takes run archive_of bytes_of header bytes entries_of entries_from_lem
  aborts_computed = (refl, refl)

  pub aborts_happened : (run_h aborts (fresh_h kinds)).history ≡ Began 0 1 ∷ Archived 0 0 ∷ EndedByOwner 0 1 ∷ []
  aborts_happened = history_named kinds kinds_ok_lem aborts aborts_fit aborts_room ∙ aborts_computed.0

  pub aborts_told : (run_h aborts (fresh_h kinds)).line.told ≡ ToldRead 0 1 8 0 ∷ ToldAbort 0 1 0 ∷ []
  aborts_told = (line_named kinds kinds_ok_lem aborts aborts_fit aborts_room).notes.told ∙ aborts_computed.1

  -- "C7 1 reads 8, 0 commits 8: 1 gets 23 and ends, cause 2."
  abbrev pub invalidated : List CallH
  invalidated =
      OwnerH 1 BeginH o c t
      ∷ OwnerH 1 (ReadH 8) o c t
      ∷ ServerH 1 m q u
      ∷ StationH 1 o c t
      ∷ OwnerH 0 BeginH o c t
      ∷ OwnerH 0 (WriteH 8 5) o c t
      ∷ ServerH 0 m q u
      ∷ StationH 0 o c t
      ∷ OwnerH 0 CommitH o c t
      ∷ ServerH 0 m q u
      ∷ StationH 1 o c t
      ∷ StationH 0 o c t
      ∷ []

  invalidated_fit : AllFitH invalidated
  invalidated_fit = (tt, (tt, (tt, (tt, (tt, (omega arith, (tt, (tt, (tt, (tt, (tt, (tt, tt))))))))))))

  invalidated_room : AllRoomH invalidated
  invalidated_room = (owner, (owner, (server, (station, (owner, (owner, (server, (station, (owner, (server, (station, (station, tt))))))))))))

  abbrev happened : List Event
  happened = Began 1 1 ∷ Archived 0 0 ∷ Began 0 1 ∷ Archived 0 0 ∷ Asked 0 1 ∷ Archived 0 25 ∷ Ended 1 1 23 ∷ Ended 0 1 21 ∷ []

  abbrev told : List Told
  told = ToldRead 1 1 8 0 ∷ ToldWrite 0 1 8 5 ∷ ToldAbort 1 1 2 ∷ ToldCommit 0 1 1 ∷ []

  invalidated_computed : (history_m (names_h invalidated) (fresh (λ i. get_or kinds i 0)) ≡ happened) × ((run (names_h invalidated) (fresh (λ i. get_or kinds i 0))).told ≡ told)
  unfolding size record_read write_local write_set drop_pages mark do_callback do_kept do_all_kept closed close undo own_begin read_local read_ask read_as own_read write_ask own_write own_commit own_abort own_purge arrive take_lock answer_wait on_page loosen on_deescalate on_callback on_committed on_aborted on_invalidate on_down station_step S.notice S.finish S.join S.leave S.send_page S.abort S.write S.archive S.inform S.inform_from S.install S.serve_now S.join_read S.join_write S.join_commit S.commit_now S.unlist S.mark_busy S.answered S.loosen S.meet S.heed S.accept S.ask S.ask_from S.ask_keepers S.serve_read S.call S.grant_page S.grant_object S.grant S.install_waiter S.call_once S.after_calls S.proceed S.gates S.judge S.visit S.pass S.settle S.server_step act tell tell_writes carry_down carry_up perform owner_acts station_takes server_takes run archive_of bytes_of header bytes entries_of entries_from_lem
  invalidated_computed = (refl, refl)

  pub invalidated_happened : (run_h invalidated (fresh_h kinds)).history ≡ happened
  invalidated_happened = history_named kinds kinds_ok_lem invalidated invalidated_fit invalidated_room ∙ invalidated_computed.0

  pub invalidated_told : (run_h invalidated (fresh_h kinds)).line.told ≡ told
  invalidated_told = (line_named kinds kinds_ok_lem invalidated invalidated_fit invalidated_room).notes.told ∙ invalidated_computed.1

  -- so both are aborted transactions
  pub aborted_by_owner : AbortedH (run_h aborts (fresh_h kinds)) 0 1
  aborted_by_owner = by_owner (rw aborts_happened (there (there here)))

  pub aborted_by_23 : AbortedH (run_h invalidated (fresh_h kinds)) 1 1
  aborted_by_23 = by23 (rw invalidated_happened (there (there (there (there (there (there here)))))))
