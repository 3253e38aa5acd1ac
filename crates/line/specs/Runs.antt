-- What holds after every list of calls: a property of the server, the stations and the lines that each move keeps. The archive, what
-- owners are told and their notes do not enter it.
use Rattle.std.specs.Prelude.{◌≡◌, false, ℕ, ◌<◌, ltb}
use Rattle.std.proofs.Math.Path.{refl}
use mathlib.Core.List.{List, [], ◌∷◌, ◌++◌}
use Rattle.std.proofs.Common.{ltb-true}
use Rattle.sets.specs.Base.{upd}
use Rattle.sets.specs.Laws.{by_b}
use Rattle.line.specs.Messages.{Up, Down, Answer, Nothing, Begun, Value, Waits, Written, CommittedAs, AbortedFor, Purged, Refused, Empty}
use Rattle.line.specs.Station.{Station, station_step}
use Rattle.line.specs.Server.{Server, server_step, unexpected}
use Rattle.line.specs.Line.{World, Op, Call, Owner, ServerTakes, StationTakes, Broken, tell, sent_to, carry_down, carry_up, perform, owner_acts, station_takes, server_takes, act, run, is_refused}

abbrev pub Of : (Server → (ℕ → Station) → (ℕ → List Up) → (ℕ → List Down) → Type 0) → World → Type 0
Of R w = R w.server w.station w.up w.down

-- each move takes R to Q; a call that is refused, or finds no message, moves nothing
pub record Moves (R Q : Server → (ℕ → Station) → (ℕ → List Up) → (ℕ → List Down) → Type 0) : Type 0 where
  pub rests : (s : Server) (t : ℕ → Station) (u : ℕ → List Up) (d : ℕ → List Down) → R s t u d → Q s t u d
  pub owner : (i : ℕ) (op : Op) (s : Server) (t : ℕ → Station) (u : ℕ → List Up) (d : ℕ → List Down) → R s t u d → Q s (upd t i (perform op (t i)).station) (upd u i (u i ++ (perform op (t i)).sent)) d
  pub server : (i : ℕ) (m : Up) (l : List Up) (s : Server) (t : ℕ → Station) (u : ℕ → List Up) (d : ℕ → List Down) → i < 8 → u i ≡ m ∷ l → unexpected i m s ≡ false → R s t u d → Q (server_step i m s).server t (upd u i l) (λ j. d j ++ sent_to j (server_step i m s).sent)
  pub station : (i : ℕ) (m : Down) (l : List Down) (s : Server) (t : ℕ → Station) (u : ℕ → List Up) (d : ℕ → List Down) → d i ≡ m ∷ l → R s t u d → Q s (upd t i (station_step m (t i)).station) (upd u i (u i ++ (station_step m (t i)).sent)) (upd d i l)

-- to tell an owner changes none of these
pub tell_keeps : (R : Server → (ℕ → Station) → (ℕ → List Up) → (ℕ → List Down) → Type 0) (i : ℕ) (op : Op) (n : Answer) (w : World) → Of R w → Of R (tell i op n w)
unfolding tell
tell_keeps R i op Nothing w h = h
tell_keeps R i op (Begun t) w h = h
tell_keeps R i op (Value v) w h = h
tell_keeps R i op Waits w h = h
tell_keeps R i op Written w h = h
tell_keeps R i op (CommittedAs n) w h = h
tell_keeps R i op (AbortedFor c) w h = h
tell_keeps R i op Purged w h = h
tell_keeps R i op (Refused n) w h = h
tell_keeps R i op Empty w h = h

module _ (R Q : Server → (ℕ → Station) → (ℕ → List Up) → (ℕ → List Down) → Type 0) (k : Moves R Q) where
  rest_moves : (w : World) → Of R w → Of Q w
  rest_moves w h = k.rests w.server w.station w.up w.down h

  owner_moves : (i : ℕ) (op : Op) (w : World) → Of R w → Of Q (owner_acts i op w).world
  unfolding owner_acts carry_up
  owner_moves i op w h = tell_keeps Q i op _ _ (k.owner i op w.server w.station w.up w.down h)

  server_moves : (i : ℕ) (l : List Up) (w : World) → i < 8 → w.up i ≡ l → Of R w → Of Q (server_takes i l w).world
  unfolding server_takes carry_down
  server_moves i [] w b e h = rest_moves w h
  server_moves i (m ∷ l) w b e h =
      by_b (unexpected i m w.server) (λ u. rw u (rest_moves w h)) (λ u. rw u (k.server i m l w.server w.station w.up w.down b e u h))

  station_moves : (i : ℕ) (l : List Down) (w : World) → w.down i ≡ l → Of R w → Of Q (station_takes i l w).world
  unfolding station_takes carry_up
  station_moves i [] w e h = rest_moves w h
  station_moves i (m ∷ l) w e h =
      by_b (is_refused (station_step m (w.station i)).answer) (λ u. rw u (rest_moves w h))
      (λ u. rw u (tell_keeps Q i (w.asked i) _ _ (k.station i m l w.server w.station w.up w.down e h)))

  pub act_moves : (c : Call) (w : World) → Of R w → Of Q (act c w).world
  unfolding act
  act_moves (Owner i op) w h = by_b (ltb i 8) (λ e. rw e (owner_moves i op w h)) (λ e. rw e (rest_moves w h))
  act_moves (ServerTakes i) w h = by_b (ltb i 8) (λ e. rw e (server_moves i (w.up i) w (ltb-true i 8 e) refl h)) (λ e. rw e (rest_moves w h))
  act_moves (StationTakes i) w h = by_b (ltb i 8) (λ e. rw e (station_moves i (w.down i) w refl h)) (λ e. rw e (rest_moves w h))
  act_moves (Broken n) w h = rest_moves w h

pub run_keeps : (R : Server → (ℕ → Station) → (ℕ → List Up) → (ℕ → List Down) → Type 0) → Moves R R → (cs : List Call) (w : World) → Of R w → Of R (run cs w)
unfolding run
run_keeps R k [] w h = h
run_keeps R k (c ∷ cs) w h = run_keeps R k cs (act c w).world (act_moves R R k c w h)
