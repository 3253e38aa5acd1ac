-- A run at whose end nothing is under way and somebody waits, computed: 2 has read 8, and 0 writes it (20, 6). Document 01's C6 has a victim.
use Rattle.std.specs.Prelude.{◌≡◌, refl, Bool, true, false, ◌||◌, List, [], ◌∷◌, ℕ}
use Rattle.std.proofs.Common.{sym, arith}
use Rattle.std.proofs.lemmas.Bool.{false≢true}
use Rattle.sets.specs.Base.{any}
use Rattle.sets.proofs.Laws.{any_no, or_no}
use Rattle.sets.specs.Size.{size}
use Rattle.line.specs.Station.{record_read, write_local, drop_pages, mark, do_callback, do_kept, do_all_kept, closed, close, undo, own_begin, read_local, read_ask, read_as, own_read, write_ask, write_set, own_write, own_commit, own_abort, own_purge, arrive, take_lock, answer_wait, on_page, loosen, on_deescalate, on_callback, on_committed, on_aborted, on_invalidate, on_down, station_step, waiting}
use Rattle.line.specs.Server as S
use Rattle.line.specs.Line.{World, Call, Owner, ServerTakes, StationTakes, Begin, Read, Write, act, tell, carry_down, carry_up, perform, owner_acts, station_takes, server_takes, run, fresh}
use Rattle.progress.specs.Out.{Quiet, LeadsOut, leads_out}

abbrev some : {A : Type 0} → List A → Bool
some [] = false
some (x ∷ l) = true

none : {A : Type 0} (l : List A) → some l ≡ false → l ≡ []
none [] e = refl
none (x ∷ l) e = absurd (false≢true (sym e))

abbrev under_way : World → ℕ → Bool
under_way w i = some (w.up i) || some (w.down i)

quiet : (w : World) → any 8 (under_way w) ≡ false → Quiet w
quiet w e =
    record {
      ups = λ i b. none (w.up i) (or_no (some (w.up i)) _ (any_no 8 (under_way w) e i b)).0;
      downs = λ i b. none (w.down i) (or_no (some (w.up i)) _ (any_no 8 (under_way w) e i b)).1;
    }

-- all stations are locking
abbrev kinds : ℕ → ℕ
kinds i = 0

abbrev pub calls : List Call
calls =
    Owner 2 Begin
    ∷ Owner 2 (Read 8)
    ∷ ServerTakes 2
    ∷ StationTakes 2
    ∷ Owner 0 Begin
    ∷ Owner 0 (Write 8 5)
    ∷ ServerTakes 0
    ∷ StationTakes 2
    ∷ ServerTakes 2
    ∷ []

happens : let w = run calls (fresh kinds) in (any 8 (under_way w) ≡ false) × (waiting (w.station 0).wait ≡ true) × (S.edge w.server 0 2 ≡ true) × ((w.station 2).opened ≡ true) × (waiting (w.station 2).wait ≡ false)
unfolding size record_read write_local drop_pages mark do_callback do_kept do_all_kept closed close undo own_begin read_local read_ask read_as own_read write_ask write_set own_write own_commit own_abort own_purge arrive take_lock answer_wait on_page loosen on_deescalate on_callback on_committed on_aborted on_invalidate on_down station_step S.notice S.finish S.join S.leave S.send_page S.abort S.write S.archive S.inform S.inform_from S.install S.serve_now S.join_read S.join_write S.join_commit S.commit_now S.unlist S.mark_busy S.answered S.loosen S.meet S.heed S.accept S.ask S.ask_from S.serve_read S.call S.grant_page S.grant_object S.grant S.install_waiter S.call_once S.after_calls S.proceed S.gates S.judge S.ask_keepers S.visit S.pass S.settle S.server_step act tell carry_down carry_up perform owner_acts station_takes server_takes run
happens = (refl, refl, refl, refl, refl)

pub waits_there : LeadsOut (run calls (fresh kinds)) 0
waits_there = (leads_out kinds calls (quiet (run calls (fresh kinds)) happens.0) 0 (omega arith) happens.1).1
