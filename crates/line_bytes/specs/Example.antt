-- C12 over bytes: what a line does whose station 0 reads 8, writes 1 there and commits, with any output that is long enough. Its archive
-- ends as the 34 bytes of document 01, its owner is told of the commit, and the server's page has the 1.
use Rattle.std.specs.Prelude.{ℕ, ◌≤◌, ◌≡◌, true, List, [], ◌∷◌, ◌++◌, length, get_or, replicate}
use Rattle.std.proofs.Math.Path.{refl}
use Rattle.std.proofs.Common.{◌∙◌, arith}
use Rattle.lists.specs.Tests.{all_to}
use Rattle.le.specs.Width.{bytes}
use Rattle.layout.specs.Record.{header, bytes_of, archive_of}
use Rattle.entries.specs.Entries.{entries_from_lem, entries_of}
use Rattle.recs.specs.Recs.{records_of}
use Rattle.sets.specs.Size.{size}
use Rattle.line.specs.Station.{record_read, write_local, write_set, drop_pages, mark, do_callback, do_kept, do_all_kept, closed, close, undo, own_begin, read_local, read_ask, read_as, own_read, write_ask, own_write, own_commit, own_abort, own_purge, arrive, take_lock, answer_wait, on_page, loosen, on_deescalate, on_callback, on_committed, on_aborted, on_invalidate, on_down, station_step}
use Rattle.line.specs.Server as S
use Rattle.line.specs.Line.{Begin, Read, Write, Commits, ToldRead, ToldWrite, ToldCommit, Told, World, act, fresh, run, tell, tell_writes, carry_down, carry_up, perform, owner_acts, station_takes, server_takes}
use Rattle.archive_truth.specs.Fits.{one_fits}
use Rattle.message.specs.Commit.{records_room, server_room, commit_room, station_room}
use Rattle.server_state.specs.Layout.{value_of}
use Rattle.server_state.specs.Valid.{most_at, most, kinds_ok}
use Rattle.server_meaning.proofs.Tests.{value_at_lem}
use Rattle.line_bytes.specs.Bytes.{WorldB, fresh_b, CallB, OwnerB, ServerTakesB, StationTakesB, AllFit, run_b}
use Rattle.line_bytes.specs.Simulates.{Sim}
use Rattle.line_bytes.specs.Whole.{names_of, AllRoom, run_is}

-- "locking 0 and 2, validating 1"
abbrev kinds : List ℕ
kinds = 0 ∷ 1 ∷ 0 ∷ 0 ∷ 0 ∷ 0 ∷ 0 ∷ 0 ∷ []

kinds_ok_lem : kinds_ok kinds ≡ true
unfolding kinds_ok most most_at all_to
kinds_ok_lem = refl

-- "`01 00 01 00 01 00 00 00 01 00 00 00 00 00 00 00 08 08`, eight `00`, `01`, seven `00`: 34 bytes"
abbrev C12 : List ℕ
C12 = 1 ∷ 0 ∷ 1 ∷ 0 ∷ 1 ∷ 0 ∷ 0 ∷ 0 ∷ 1 ∷ 0 ∷ 0 ∷ 0 ∷ 0 ∷ 0 ∷ 0 ∷ 0 ∷ 8 ∷ 8 ∷ (replicate 8 0 ++ (1 ∷ replicate 7 0))

abbrev told : List Told
told = ToldRead 0 1 8 0 ∷ ToldWrite 0 1 8 1 ∷ ToldCommit 0 1 1 ∷ []

-- o for a station's messages, c for a commit, m for the server's messages, q for its records
module _ (o c m q : List ℕ) (lo : station_room ≤ length o) (lc : commit_room ≤ length c) (lm : server_room ≤ length m) (lq : records_room ≤ length q) where
  abbrev pub calls : List CallB
  calls =
      OwnerB 0 Begin o c
      ∷ OwnerB 0 (Read 8) o c
      ∷ ServerTakesB 0 m q
      ∷ StationTakesB 0 o c
      ∷ OwnerB 0 (Write 8 1) o c
      ∷ ServerTakesB 0 m q
      ∷ StationTakesB 0 o c
      ∷ OwnerB 0 Commits o c
      ∷ ServerTakesB 0 m q
      ∷ StationTakesB 0 o c
      ∷ []

  fit : AllFit calls
  fit = (tt, (tt, (tt, (tt, (one_fits 8 1 (omega arith), (tt, (tt, (tt, (tt, (tt, tt))))))))))

  room : AllRoom calls
  room =
      let s : (station_room ≤ length o) × (commit_room ≤ length c) = (lo, lc) in
      let t : (server_room ≤ length m) × (records_room ≤ length q) = (lm, lq) in
      (s, (s, (t, (s, (s, (t, (s, (s, (t, (s, tt))))))))))

  abbrev model : World
  model = run (names_of calls) (fresh (λ i. get_or kinds i 0))

  -- the model's run, computed
  computed : (archive_of (records_of model.archive) ≡ C12) × (model.told ≡ told) × (model.server.val 8 ≡ 1)
  unfolding size record_read write_local write_set drop_pages mark do_callback do_kept do_all_kept closed close undo own_begin read_local read_ask read_as own_read write_ask own_write own_commit own_abort own_purge arrive take_lock answer_wait on_page loosen on_deescalate on_callback on_committed on_aborted on_invalidate on_down station_step S.notice S.finish S.join S.leave S.send_page S.abort S.write S.archive S.inform S.inform_from S.install S.serve_now S.join_read S.join_write S.join_commit S.commit_now S.unlist S.mark_busy S.answered S.loosen S.meet S.heed S.accept S.ask S.ask_from S.ask_keepers S.serve_read S.call S.grant_page S.grant_object S.grant S.install_waiter S.call_once S.after_calls S.proceed S.gates S.judge S.visit S.pass S.settle S.server_step act tell tell_writes carry_down carry_up perform owner_acts station_takes server_takes run archive_of bytes_of header bytes entries_of entries_from_lem
  computed = (refl, refl, refl)

  abbrev line : WorldB
  line = run_b calls (fresh_b kinds)

  same : Sim kinds line model
  same = run_is kinds kinds_ok_lem calls fit room

  pub archived : line.archive ≡ C12
  archived = same.line.records ∙ computed.0

  pub told_so : line.told ≡ told
  told_so = same.notes.told ∙ computed.1

  pub installed : value_of line.server 8 ≡ 1
  installed = value_at_lem same.line.server 8 (omega arith) ∙ computed.2
