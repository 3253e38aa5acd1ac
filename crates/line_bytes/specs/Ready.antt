-- Number 1 turns back no call of a run for its state, however long the run: what every call leaves is valid at both ends, so that only output
-- that is too short is turned back.
use Rattle.std.specs.Prelude.{ℕ, ◌≤◌, ◌<◌, ◌≡◌, refl, true, ltb, length, get_or}
use Rattle.std.proofs.Math.Path.{subst}
use Rattle.std.proofs.Math.Bool.{false}
use mathlib.Core.List.{List, [], ◌∷◌}
use Rattle.std.proofs.Common.{arith}
use borrow.Author.Tests.{le-leb}
use Rattle.sets.specs.Laws.{by_b}
use Rattle.sets.proofs.Laws.{ltb_yes}
use Rattle.cells.proofs.Num.{all_bytes}
use Rattle.line.specs.Server.{Server, server_step, unexpected}
use Rattle.line.specs.Messages.{Up, Answer, Nothing, Begun, Value, Waits, Written, CommittedAs, AbortedFor, Purged, Refused, Empty, Down}
use Rattle.line.specs.Line.{Op, World, Call, fresh, tell, carry_up, carry_down, owner_acts, is_refused, station_takes, server_takes, act, run}
use Rattle.line.specs.Station.{station_step}
use Rattle.line.specs.Fit.{UpNames, Fit}
use Rattle.line.specs.FitServer.{step_fit, fit_fresh}
use Rattle.line.specs.Counters.{ages_below}
use Rattle.message.specs.Number
use Rattle.message.specs.Commit.{records_room, server_room, commit_room, station_room}
use Rattle.station_owner.specs.Owner.{ready}
use Rattle.server_state.specs.Valid.{valid, kinds_ok}
use Rattle.server_state.specs.Facts.{kinds_length}
use Rattle.server_actions.specs.Pass.{server_step_b}
use Rattle.server_actions.specs.Step.{server_called}
use Rattle.server_actions.specs.Step as ServerCall
use Rattle.call_meaning.specs.Relation.{answer_of}
use Rattle.call_meaning.specs.Calls.{AllReads, step_b}
use Rattle.line_bytes.specs.Bytes.{WorldB, fresh_b, CallB, OwnerB, ServerTakesB, StationTakesB, AllFit, tell_b, carry_up_b, carry_down_b, owner_acts_b, station_takes_b, server_takes_b, act_b, run_b}
use Rattle.line_bytes.specs.Simulates.{Sim, as_call, act_sim, lent, check_is}
use Rattle.line_bytes.specs.Runs.{kind_small, same_kinds, calls_of, run_simulates, fresh_sim}
use Rattle.line_bytes.specs.Arrivals.{arrivals_below}
use Rattle.line_bytes.specs.Flags.{Flagged, step_flagged, fresh_flagged}
use Rattle.line_bytes.specs.Valid.{valid_of}
use Rattle.line_bytes.specs.Served.{up_names}

-- WHAT CALLS LEAVE OF THE SERVER

-- stations' calls leave it
told_server : (i : ℕ) (op : Op) (a : Answer) (b : WorldB) → (tell_b i op a b).server ≡ b.server
unfolding tell_b
told_server i op Nothing b = refl
told_server i op (Begun t) b = refl
told_server i op (Value v) b = refl
told_server i op Waits b = refl
told_server i op Written b = refl
told_server i op (CommittedAs n) b = refl
told_server i op (AbortedFor c) b = refl
told_server i op Purged b = refl
told_server i op (Refused n) b = refl
told_server i op Empty b = refl

told_model : (i : ℕ) (op : Op) (a : Answer) (w : World) → (tell i op a w).server ≡ w.server
unfolding tell
told_model i op Nothing w = refl
told_model i op (Begun t) w = refl
told_model i op (Value v) w = refl
told_model i op Waits w = refl
told_model i op Written w = refl
told_model i op (CommittedAs n) w = refl
told_model i op (AbortedFor c) w = refl
told_model i op Purged w = refl
told_model i op (Refused n) w = refl
told_model i op Empty w = refl

owner_server : (i : ℕ) (op : Op) (o c : List ℕ) (b : WorldB) → (owner_acts_b i op o c b).server ≡ b.server
unfolding owner_acts_b carry_up_b
owner_server i op o c b = told_server i op _ _

owner_model : (i : ℕ) (op : Op) (w : World) → (owner_acts i op w).world.server ≡ w.server
unfolding owner_acts carry_up
owner_model i op w = told_model i op _ _

station_server : (i : ℕ) (ms : List (List ℕ)) (o c : List ℕ) (b : WorldB) → (station_takes_b i ms o c b).server ≡ b.server
unfolding station_takes_b carry_up_b
station_server i [] o c b = refl
station_server i (x ∷ ms) o c b =
    by_b (is_refused (answer_of (step_b x (b.station i) o c).said.answer)) (λ e. rw e (told_server i (b.asked i) _ _)) (λ e. rw e (told_server i (b.asked i) _ _))

station_model : (i : ℕ) (ds : List Down) (w : World) → (station_takes i ds w).world.server ≡ w.server
unfolding station_takes carry_up
station_model i [] w = refl
station_model i (m ∷ ds) w =
    by_b (is_refused (station_step m (w.station i)).answer) (λ e. rw e) (λ e. rw e (told_model i (w.asked i) _ _))

-- so does a call that number 1 turns back
turned_server : (i : ℕ) (ms : List (List ℕ)) (o q : List ℕ) (b : WorldB) → ServerCall.ready b.server o q ≡ false → (server_takes_b i ms o q b).server ≡ b.server
unfolding server_takes_b server_called carry_down_b
turned_server i [] o q b r = refl
turned_server i (x ∷ ms) o q b r = rw r

-- what the meaning does not tell of the bytes, and what number 1 asks of the server
record Kept (s : List ℕ) (m : Server) : Type 0 where
  flags : Flagged s
  fit : Fit m

kept_as : {s t : List ℕ} {m n : Server} → t ≡ s → n ≡ m → Kept s m → Kept t n
kept_as e f k = record { flags = rw e k.flags; fit = rw f k.fit }

abbrev KeptIn : WorldB → World → Type 0
KeptIn b w = Kept b.server w.server

module _ (kinds : List ℕ) (size : length kinds ≡ 8) (i : ℕ) (l : i < 8) (b : WorldB) (w : World) (o q : List ℕ) where
  server_kept : (ms : List (List ℕ)) (us : List Up) → AllReads kinds i ms us → ServerCall.ready b.server o q ≡ true → Sim kinds b w → KeptIn b w
      → KeptIn (server_takes_b i ms o q b) (server_takes i us w).world
  unfolding server_takes_b server_takes server_called carry_down_b carry_down
  server_kept [] [] k r h g = g
  server_kept [] (u ∷ us) k r h g = absurd k
  server_kept (x ∷ ms) [] k r h g = absurd k
  server_kept (x ∷ ms) (u ∷ us) k r h g =
      let t = lent b.server o q r in
      let check = check_is kinds size i l b w o q x u k.0 t h in
      let flags = step_flagged kinds x b.server k.0.accepted (all_bytes x k.0.bytes_are) g.flags in
      let names : UpNames u = subst UpNames k.0.meant (up_names kinds x k.0.accepted (all_bytes x k.0.bytes_are)) in
      let after : unexpected i u w.server ≡ false → Kept (server_step_b x b.server).state (server_step i u w.server).server =
      λ e. record { flags = flags; fit = step_fit i u w.server l names e g.fit } in
      by_b (unexpected i u w.server) (λ e. rw (r, check, e) g) (λ e. rw (r, check, e) (after e))

act_kept : (kinds : List ℕ) → length kinds ≡ 8 → (c : CallB) (b : WorldB) (w : World) → Sim kinds b w → KeptIn b w → KeptIn (act_b c b) (act (as_call b c) w).world
unfolding act_b act
act_kept kinds size (OwnerB i op o c) b w h g =
    by_b (ready (b.station i) o c)
    (λ r. by_b (ltb i 8) (λ e. rw (r, e) (kept_as (owner_server i op o c b) (owner_model i op w) g)) (λ e. rw (r, e) g))
    (λ r. by_b (ltb i 8) (λ e. rw (r, e) (kept_as (owner_server i op o c b) refl g)) (λ e. rw (r, e) g))
act_kept kinds size (ServerTakesB i o q) b w h g =
    by_b (ServerCall.ready b.server o q)
    (λ r. by_b (ltb i 8) (λ e. rw (r, e) (server_kept kinds size i (ltb_yes i 8 e) b w o q (b.up i) (w.up i) (h.line.ups i) r h g)) (λ e. rw (r, e) g))
    (λ r. by_b (ltb i 8) (λ e. rw (r, e) (kept_as (turned_server i (b.up i) o q b r) refl g)) (λ e. rw (r, e) g))
act_kept kinds size (StationTakesB i o c) b w h g =
    by_b (ready (b.station i) o c)
    (λ r. by_b (ltb i 8) (λ e. rw (r, e) (kept_as (station_server i (b.down i) o c b) (station_model i (w.down i) w) g)) (λ e. rw (r, e) g))
    (λ r. by_b (ltb i 8) (λ e. rw (r, e) (kept_as (station_server i (b.down i) o c b) refl g)) (λ e. rw (r, e) g))

run_kept : (kinds : List ℕ) → length kinds ≡ 8 → Number.kinds_ok kinds ≡ true → (cs : List CallB) (b : WorldB) (w : World) → AllFit cs → Sim kinds b w → KeptIn b w
    → KeptIn (run_b cs b) (run (calls_of cs b) w)
unfolding run_b run
run_kept kinds size ok [] b w f h g = g
run_kept kinds size ok (c ∷ cs) b w f h g =
    run_kept kinds size ok cs (act_b c b) (act (as_call b c) w).world f.1 (act_sim kinds size ok c b w f.0 h) (act_kept kinds size c b w h g)

-- EVERY RUN

-- the next call of a run is turned back with number 1 only for its output
pub record Ready (w : WorldB) : Type 0 where
  -- 128 messages and 7,040 record bytes
  pub server : (o q : List ℕ) → server_room ≤ length o → records_room ≤ length q → ServerCall.ready w.server o q ≡ true
  -- 8 messages and 1,408 commit bytes
  pub station : (i : ℕ) → i < 8 → (o c : List ℕ) → station_room ≤ length o → commit_room ≤ length c → ready (w.station i) o c ≡ true

module _ (kinds : List ℕ) (ok : kinds_ok kinds ≡ true) (cs : List CallB) (f : AllFit cs) where
  abbrev k : ℕ → ℕ
  k i = get_or kinds i 0

  abbrev calls : List Call
  calls = calls_of cs (fresh_b kinds)

  kept_run : KeptIn (run_b cs (fresh_b kinds)) (run calls (fresh k))
  kept_run =
      run_kept kinds (kinds_length kinds ok) (same_kinds kinds ok) cs (fresh_b kinds) (fresh k) f (fresh_sim kinds ok)
      (record { flags = fresh_flagged kinds; fit = fit_fresh k (kind_small kinds ok) })

  -- "2^63 being out of range": neither ages nor arrivals come to it
  pub valid_of_run : valid (run_b cs (fresh_b kinds)).server ≡ true
  valid_of_run =
      let h = run_simulates kinds ok cs f in
      valid_of h.line.server kept_run.flags kept_run.fit (ages_below k calls) (arrivals_below k calls)

  pub ready_of_run : Ready (run_b cs (fresh_b kinds))
  unfolding ready ServerCall.ready
  ready_of_run =
      let h = run_simulates kinds ok cs f in
      record {
        server = λ o q lo lq. rw (valid_of_run, le-leb server_room (length o) lo, le-leb records_room (length q) lq);
        station = λ i l o c lo lc. rw ((h.line.stations i l).valid, le-leb station_room (length o) lo, le-leb commit_room (length c) lc);
      }
