-- A run as its callers see it: each call with everything that results; and tables of runs.
use Rattle.std.specs.Prelude.{◌≡◌, List, [], ◌∷◌, ◌++◌, ℕ}
use Prim.Native.String.{String}
use Rattle.sets.specs.Size.{size}
use Rattle.line.specs.Messages.{Answer}
use Rattle.line.specs.Station.{record_read, write_local, drop_pages, mark, do_callback, do_kept, do_all_kept, closed, close, undo, own_begin, read_local, read_ask, read_as, own_read, write_ask, write_set, own_write, own_commit, own_abort, own_purge, arrive, take_lock, answer_wait, on_page, loosen, on_deescalate, on_callback, on_committed, on_aborted, on_invalidate, on_down, station_step}
use Rattle.line.specs.Server as S
use Rattle.line.specs.Line.{Call, Owner, ServerTakes, StationTakes, Broken, World, Acted, act, tell_writes, tell, carry_down, carry_up, perform, owner_acts, station_takes, server_takes}
use Rattle.line.specs.Fields.{Fields, RecordFields, up_fields, down_fields, record_fields}

-- a call, its answer, the messages that it sends (kinds 1 to 8 up, 16 to 23 down) and the records that it archives, in order
pub record Step : Type 0 where
  pub call : Call
  pub answer : Answer
  pub messages : List Fields
  pub records : List RecordFields

abbrev pub step : Call → Answer → List Fields → List RecordFields → Step
step c a m r = record { call = c; answer = a; messages = m; records = r }

abbrev pub each : {A B : Type 0} → (A → B) → List A → List B
each f [] = []
each f (x ∷ l) = f x ∷ each f l

-- the station that a call sends from
abbrev pub station_of : Call → ℕ
station_of (Owner i op) = i
station_of (ServerTakes i) = i
station_of (StationTakes i) = i
station_of (Broken n) = 0

abbrev pub seen_at : Call → Acted → Step
seen_at c a =
    let i = station_of c in
    let r = a.reply in
    step c r.answer (each (up_fields i (a.world.station i).kind) r.ups ++ each down_fields r.downs) (each record_fields r.recs)

-- what a list of calls shows (the names: all that a run computes)
unfoldable pub seen : List Call → World → List Step
unfolding size record_read write_local drop_pages mark do_callback do_kept do_all_kept closed close undo own_begin read_local read_ask read_as own_read write_ask write_set own_write own_commit own_abort own_purge arrive take_lock answer_wait on_page loosen on_deescalate on_callback on_committed on_aborted on_invalidate on_down station_step S.notice S.finish S.join S.leave S.send_page S.abort S.write S.archive S.inform S.inform_from S.install S.serve_now S.join_read S.join_write S.join_commit S.commit_now S.unlist S.mark_busy S.answered S.loosen S.meet S.heed S.accept S.ask S.ask_from S.serve_read S.call S.grant_page S.grant_object S.grant S.install_waiter S.call_once S.after_calls S.proceed S.gates S.judge S.ask_keepers S.visit S.pass S.settle S.server_step act tell_writes tell carry_down carry_up perform owner_acts station_takes server_takes
seen [] w = []
seen (c ∷ cs) w = let a = act c w in seen_at c a ∷ seen cs a.world

-- a row: what it shows, in words; the line it starts from; its calls with what results
pub record Row : Type 0 where
  pub name : String
  pub start : World
  pub steps : List Step

abbrev pub row : String → World → List Step → Row
row n w l = record { name = n; start = w; steps = l }

abbrev pub calls : List Step → List Call
calls l = each (λ s. s.call) l

-- the row's calls show just its steps
unfoldable pub Holds : Row → Type 0
Holds r = seen (calls r.steps) r.start ≡ r.steps

unfoldable pub AllHold : List Row → Type 0
AllHold [] = Unit {0}
AllHold (r ∷ l) = Holds r × AllHold l
