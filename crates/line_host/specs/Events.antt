-- The history of the line of `line`, call by call; what `Noted` says of it is kept by every list of calls.
use Rattle.std.specs.Prelude.{ℕ, ◌<◌, ◌≡◌, true, cond, ltb}
use Rattle.std.proofs.Math.Path.{refl, ap}
use Rattle.std.proofs.Common.{sym, ◌∙◌, arith}
use mathlib.Core.List.{List, [], ◌∷◌, ◌++◌, append-nil}
use Rattle.sets.specs.Base.{upd}
use Rattle.sets.specs.Laws.{by_b}
use Rattle.sets.proofs.Laws.{ltb_yes}
use Rattle.line.specs.Messages.{Up, NoLock, ObjectLock, WholeLock, Down, Page, Deescalate, Callback, Committed, Aborted, Invalidate, Rec}
use Rattle.line.specs.Station.{station_step}
use Rattle.line.specs.Server.{server_step, unexpected}
use Rattle.line.specs.Line.{World, world_up, Call, Owner, ServerTakes, StationTakes, Broken, fresh, perform, carry_down, owner_acts, is_refused, station_takes, server_takes, act, run}
use Rattle.line.specs.Truth.{In}
use Rattle.line.specs.Runs.{run_keeps}
use Rattle.truth.proofs.Frame.{append_assoc}
use Rattle.truth.specs.Inv.{Inv}
use Rattle.truth.specs.GoalsEight.{RecBelow, StationsOf}
use Rattle.truth.proofs.GoalsEight.{stations_run}
use Rattle.truth.proofs.GoalsLists.{in_all, in_right}
use Rattle.truth.proofs.Truth.{invariant}
use Rattle.line_bytes.specs.Kinds.{server_kind}
use Rattle.line_host.specs.Line.{Event, Ended, Archived}
use Rattle.line_host.specs.Archives.{Answered, step_answered}
use Rattle.line_host.specs.Moves.{invalidates}
use Rattle.line_host.specs.Noted.{NotedIn, noted_fresh, owner_notes, owner_noted, step_notes, step_noted, refused_ends, size, server_noted}

-- "Kinds .. 16 to 23 to stations"
abbrev pub kind_m : Down → ℕ
kind_m (Page NoLock a t v u x) = 16
kind_m (Page ObjectLock a t v u x) = 17
kind_m (Page WholeLock a t v u x) = 18
kind_m (Deescalate p t) = 19
kind_m (Callback r t set) = 20
kind_m (Committed t n) = 21
kind_m (Aborted t c) = 22
kind_m (Invalidate d) = 23

abbrev pub takes_m : ℕ → List Down → World → List Event
takes_m i [] w = []
takes_m i (m ∷ l) w = step_notes i (kind_m m) m w

abbrev pub serves_m : ℕ → List Up → World → List Event
serves_m i [] w = []
serves_m i (m ∷ l) w = cond (unexpected i m w.server) [] (Archived (size w.archive) (size (w.archive ++ (server_step i m w.server).recs)) ∷ [])

abbrev pub events_m : Call → World → List Event
events_m (Owner i op) w = cond (ltb i 8) (owner_notes i op w (perform op (w.station i))) []
events_m (ServerTakes i) w = cond (ltb i 8) (serves_m i (w.up i) w) []
events_m (StationTakes i) w = cond (ltb i 8) (takes_m i (w.down i) w) []
events_m (Broken n) w = []

abbrev pub history_m : List Call → World → List Event
history_m [] w = []
history_m (c ∷ cs) w = events_m c w ++ history_m cs (act c w).world

-- WHAT HOLDS OF EVERY WORLD TO COME

record Always (k : ℕ → ℕ) (w : World) : Type 0 where
  inv : (cs : List Call) → Inv (run cs w)
  eight : (cs : List Call) → StationsOf (run cs w)
  kinds : (cs : List Call) → (run cs w).server.kind ≡ k

next_always : {k : ℕ → ℕ} (c : Call) {w : World} → Always k w → Always k (act c w).world
unfolding run
next_always c h = record { inv = λ cs. h.inv (c ∷ cs); eight = λ cs. h.eight (c ∷ cs); kinds = λ cs. h.kinds (c ∷ cs) }

-- "fixed for life"
kinds_run : (k : ℕ → ℕ) (cs : List Call) → (run cs (fresh k)).server.kind ≡ k
kinds_run k cs =
    run_keeps (λ s t u d. s.kind ≡ k)
    (record {
      rests = λ s t u d h. h;
      owner = λ i op s t u d h. h;
      server = λ i m l s t u d b e v h. server_kind i m s ∙ h;
      station = λ i m l s t u d e h. h;
    }) cs (fresh k) refl

-- EVERY CALL

is_23 : (m : Down) → kind_m m ≡ 23 → invalidates m ≡ true
is_23 (Page NoLock a t v u x) e = absurd (omega (arith, e))
is_23 (Page ObjectLock a t v u x) e = absurd (omega (arith, e))
is_23 (Page WholeLock a t v u x) e = absurd (omega (arith, e))
is_23 (Deescalate p t) e = absurd (omega (arith, e))
is_23 (Callback r t set) e = absurd (omega (arith, e))
is_23 (Committed t n) e = absurd (omega (arith, e))
is_23 (Aborted t c) e = absurd (omega (arith, e))
is_23 (Invalidate d) e = refl

module _ {k : ℕ → ℕ} {h : List Event} (w : World) (al : Always k w) (nt : NotedIn k w h) where
  as_was : NotedIn k w (h ++ [])
  as_was = rw (append-nil h) nt

  now : Inv w
  unfolding run
  now = al.inv []

  station_event : (i : ℕ) (ds : List Down) → i < 8 → NotedIn k (station_takes i ds w).world (h ++ takes_m i ds w)
  unfolding station_takes
  station_event i [] l = as_was
  station_event i (m ∷ ds) l =
      by_b (is_refused (station_step m (w.station i)).answer)
      (λ u. rw (u, refused_ends (λ n. Ended i n (kind_m m)) m (w.station i) u) as_was)
      (λ u. rw u (step_noted i l m ds (kind_m m) (is_23 m) w now nt))

  -- the world behind the step is v
  server_event : (i : ℕ) (us : List Up) (v : World) → (server_takes i us w).world ≡ v → Inv v → StationsOf v → NotedIn k v (h ++ serves_m i us w)
  unfolding server_takes carry_down run
  server_event i [] v q inv eight = rw (← q) as_was
  server_event i (m ∷ us) v q inv eight =
      by_b (unexpected i m w.server)
      (λ u. let same : w ≡ v = rw u at q in rw (u, ← same) as_was)
      (λ u.
      let x = server_step i m w.server in
      let same : carry_down x (world_up w (upd w.up i us)) ≡ v = rw u at q in
      let archive : v.archive ≡ w.archive ++ x.recs = ap (λ (z : World). z.archive) (sym same) in
      let below : (r : Rec) → In r x.recs → r.station < 8 = λ r n. in_all RecBelow {x = r} v.archive eight.records (rw archive (in_right w.archive x.recs n)) in
      let kind : x.server.kind ≡ k = server_kind i m w.server ∙ al.kinds [] in
      let answered : Answered k x.recs x.sent = rw kind at (step_answered i m w.server u) in
      rw u
      (server_noted w v x.recs x.sent inv (ap (λ (z : World). z.station) (sym same)) (ap (λ (z : World). z.told) (sym same)) archive
      (λ j. ap (λ (z : World). z.down j) (sym same)) below answered nt))

  call_event : (c : Call) → Inv (act c w).world → StationsOf (act c w).world → NotedIn k (act c w).world (h ++ events_m c w)
  unfolding act owner_acts
  call_event (Owner i op) = λ inv eight. by_b (ltb i 8) (λ e. rw e (owner_noted i (ltb_yes i 8 e) op w now nt)) (λ e. rw e as_was)
  call_event (ServerTakes i) = by_b (ltb i 8) (λ e. rw e (λ inv eight. server_event i (w.up i) _ refl inv eight)) (λ e. rw e (λ inv eight. as_was))
  call_event (StationTakes i) = λ inv eight. by_b (ltb i 8) (λ e. rw e (station_event i (w.down i) (ltb_yes i 8 e))) (λ e. rw e as_was)
  call_event (Broken n) = λ inv eight. as_was

run_events : {k : ℕ → ℕ} (cs : List Call) (w : World) (h : List Event) → Always k w → NotedIn k w h → NotedIn k (run cs w) (h ++ history_m cs w)
unfolding run
run_events [] w h al nt = rw (append-nil h) nt
run_events (c ∷ cs) w h al nt =
    let v : World = (act c w).world in
    rw (append_assoc h (events_m c w) (history_m cs v))
    (run_events cs v (h ++ events_m c w) (next_always c al) (call_event w al nt c (al.inv (c ∷ [])) (al.eight (c ∷ []))))

pub history_noted : (k : ℕ → ℕ) (cs : List Call) → NotedIn k (run cs (fresh k)) (history_m cs (fresh k))
history_noted k cs =
    run_events cs (fresh k) [] (record { inv = invariant k; eight = stations_run k; kinds = kinds_run k }) (noted_fresh k _ (λ i. refl) (λ i. refl))
