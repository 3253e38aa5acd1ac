-- The history that hosts note, of numbers told and of the bytes of states, is the history of the line of `line`.
use Rattle.std.specs.Prelude.{ℕ, ◌≤◌, ◌<◌, ◌≡◌, true, false, eqb, ltb, length, get_or}
use Rattle.std.proofs.Math.Path.{refl, sym}
use Rattle.std.proofs.Common.{ap, ◌∙◌, arith}
use mathlib.Core.List.{List, [], ◌∷◌, ◌++◌, append-nil}
use Rattle.sets.specs.Laws.{by_b, by_eq}
use Rattle.sets.proofs.Laws.{ltb_yes, eqb_yes, eqb_no}
use Rattle.recs.specs.Recs.{records_of}
use Rattle.layout.specs.Record.{archive_of}
use Rattle.line.specs.Messages.{Up, Down, To}
use Rattle.line.specs.Station.{Station}
use Rattle.line.specs.Server.{server_step, unexpected}
use Rattle.line.specs.Line.{World, fresh, perform, act, run}
use Rattle.line.specs.Bounds.{step_8}
use Rattle.truth.proofs.Frame.{append_assoc}
use Rattle.message.specs.Layout.{kind_of}
use Rattle.message.specs.Number
use Rattle.message.specs.Accepted.{down_accepted}
use Rattle.message_meaning.specs.Meant.{page_at, down_of}
use Rattle.message_meaning.proofs.KindsLaws.{down_16, down_17, down_18, down_19, down_20, down_21, down_22, down_23}
use Rattle.station_answer.specs.Ask.{open_b}
use Rattle.station_answer.specs.Did.{Outcome}
use Rattle.station_owner.specs.Owner.{ready}
use Rattle.station_meaning.specs.Meant.{Is}
use Rattle.station_meaning.proofs.Tests.{number_at, open_at}
use Rattle.server_state.specs.Valid.{kinds_ok}
use Rattle.server_state.specs.Facts.{kinds_length}
use Rattle.server_actions.specs.Step.{server_called}
use Rattle.server_actions.specs.Step as ServerCall
use Rattle.host.specs.Host.{told_length}
use Rattle.server_host.specs.Host.{served_length}
use Rattle.step_meaning.specs.Relation.{ReadAs}
use Rattle.call_meaning.specs.Calls.{AllReads}
use Rattle.call_meaning.proofs.Calls.{owner_unready, step_unready}
use Rattle.line_bytes.specs.Bytes.{WorldB}
use Rattle.line_bytes.specs.Served.{archive_join, records_are}
use Rattle.line_bytes.specs.Runs.{calls_of, same_kinds, fresh_sim}
use Rattle.line_bytes.specs.Simulates.{Sim, AllDown, as_call, act_sim, read_down, taken_down, owner_told, step_told_at, check_is, serves, archives}
use Rattle.line_bytes.specs.Simulates as Sims
use Rattle.line_host.specs.Line.{OpH, operation, owner_hosted, step_hosted, server_hosted, answer_in, archived_in, CallH, OwnerH, StationH, ServerH, FitsH, AllFitH, line_h, Event, EndedByOwner, Ended, ended, owner_events, station_events, server_events, events_h, WorldH, fresh_h, act_h, run_h}
use Rattle.line_host.specs.Same.{lent, lent_to, plain_of, plains_of, op_fits, plain_fits, owner_found, step_found, server_found, act_same}
use Rattle.line_host.specs.Runs.{model_calls}
use Rattle.line_host.specs.Moves.{not_both}
use Rattle.line_host.specs.Noted.{ended_m, owner_notes}
use Rattle.line_host.specs.Events.{kind_m, takes_m, serves_m, events_m, history_m}

-- STATES AND MESSAGES

-- the state says of the open transaction what the station of `line` does
ended_same : (e : ℕ → Event) {i : ℕ} {s z : List ℕ} {m n : Station} → Is i s m → Is i z n → ended e s z ≡ ended_m e m n
ended_same e p q = rw (open_at p, open_at q, number_at p)

-- as before: nothing ended
ended_none : (e : ℕ → Event) (s : List ℕ) → ended e s s ≡ []
ended_none e s = rw (not_both (open_b s))

-- a message's kind is that of what it is read as
kind_of_lem : (x : List ℕ) → 16 ≤ kind_of x → kind_of x ≤ 23 → kind_of x ≡ kind_m (down_of x)
unfolding page_at
kind_of_lem x from to =
    let k = kind_of x in
    let is : (n : ℕ) → eqb k n ≡ true → k ≡ n = λ n e. eqb_yes k n e in
    by_eq k 16 (λ e. is 16 e ∙ sym (ap kind_m (down_16 x (is 16 e))))
    (λ n16.
    let from-17 : 17 ≤ k = omega (arith, eqb_no k 16 n16) in
    by_eq k 17 (λ e. is 17 e ∙ sym (ap kind_m (down_17 x (is 17 e))))
    (λ n17.
    let from-18 : 18 ≤ k = omega (arith, eqb_no k 17 n17) in
    by_eq k 18 (λ e. is 18 e ∙ sym (ap kind_m (down_18 x (is 18 e))))
    (λ n18.
    let from-19 : 19 ≤ k = omega (arith, eqb_no k 18 n18) in
    by_eq k 19 (λ e. is 19 e ∙ sym (ap kind_m (down_19 x (is 19 e))))
    (λ n19.
    let from-20 : 20 ≤ k = omega (arith, eqb_no k 19 n19) in
    by_eq k 20 (λ e. is 20 e ∙ sym (ap kind_m (down_20 x (is 20 e))))
    (λ n20.
    let from-21 : 21 ≤ k = omega (arith, eqb_no k 20 n20) in
    by_eq k 21 (λ e. is 21 e ∙ sym (ap kind_m (down_21 x (is 21 e))))
    (λ n21.
    let from-22 : 22 ≤ k = omega (arith, eqb_no k 21 n21) in
    by_eq k 22 (λ e. is 22 e ∙ sym (ap kind_m (down_22 x (is 22 e))))
    (λ n22.
    let e : k ≡ 23 = omega (arith, eqb_no k 22 n22) in
    e ∙ sym (ap kind_m (down_23 x e)))))))))

kind_read : (i : ℕ) (x : List ℕ) (m : Down) → ReadAs x (To i m) → kind_of x ≡ kind_m m
kind_read i x m q =
    let a = down_accepted i x (taken_down x i m q) in
    kind_of_lem x a.kind_from_lem a.kind_to ∙ ap kind_m (read_down x i m q)

module _ (kinds : List ℕ) (ok : Number.kinds_ok kinds ≡ true) (eight : length kinds ≡ 8) where
  module _ (b : WorldB) (w : World) (sim : Sim kinds b w) where
    -- THE OWNER'S CALL

    module _ (i : ℕ) (l : i < 8) (op : OpH) (o c t : List ℕ) where
      abbrev s : List ℕ
      s = b.station i

      owner_events_lem : FitsH (OwnerH i op o c t) → ready s (lent_to op t o) (lent_to op t c) ≡ true
          → owner_events i op o c t b ≡ owner_notes i (operation op) w (perform (operation op) (w.station i))
      owner_events_lem f r =
          let x = owner_found op s o c t in
          let d = owner_told kinds ok i l b w (operation op) (lent_to op t o) (lent_to op t c) (op_fits op f) r sim in
          let said : answer_in (owner_hosted op s o c t).told ≡ (perform (operation op) (w.station i)).answer = x.answer ∙ d.answer in
          rw (said, x.state, ap (λ (g : ℕ → ℕ). g i) sim.notes.number, ended_same (EndedByOwner i) (sim.line.stations i l).is d.state)

      owner_turned : ready s (lent_to op t o) (lent_to op t c) ≡ false → owner_events i op o c t b ≡ []
      owner_turned r =
          let x = owner_found op s o c t in
          let y = owner_unready (operation op) s (lent_to op t o) (lent_to op t c) r in
          rw (x.answer, x.state, y) (ended_none (EndedByOwner i) s)

    -- THE STATION'S STEP

    module _ (i : ℕ) (l : i < 8) (o c t : List ℕ) where
      step_events : (ms : List (List ℕ)) (ds : List Down) → AllDown i ms ds → ready (b.station i) (lent told_length t o) (lent told_length t c) ≡ true → station_events i ms o c t b ≡ takes_m i ds w
      step_events [] [] q r = refl
      step_events [] (m ∷ ds) q r = absurd q
      step_events (x ∷ ms) [] q r = absurd q
      step_events (x ∷ ms) (m ∷ ds) q r =
          let f = step_found x (b.station i) o c t in
          let d = step_told_at kinds ok i l b w x m (lent told_length t o) (lent told_length t c) q.0 r sim in
          rw (f.state, kind_read i x m q.0) (ended_same (λ n. Ended i n (kind_m m)) (sim.line.stations i l).is d.state)

      step_turned : (ms : List (List ℕ)) → ready (b.station i) (lent told_length t o) (lent told_length t c) ≡ false → station_events i ms o c t b ≡ []
      step_turned [] r = refl
      step_turned (x ∷ ms) r =
          let f = step_found x (b.station i) o c t in
          let state : (step_hosted x (b.station i) o c t).state ≡ b.station i = f.state ∙ ap (λ (z : Outcome). z.state) (step_unready x (b.station i) (lent told_length t o) (lent told_length t c) r) in
          rw state (ended_none (λ n. Ended i n (kind_of x)) (b.station i))

    -- THE SERVER'S STEP

    module _ (i : ℕ) (l : i < 8) (o q t : List ℕ) where
      server_events_lem : (ms : List (List ℕ)) (us : List Up) → AllReads kinds i ms us → ServerCall.ready b.server (lent served_length t o) (lent served_length t q) ≡ true → server_events ms o q t b ≡ serves_m i us w
      unfolding server_called
      server_events_lem [] [] k r = refl
      server_events_lem [] (u ∷ us) k r = absurd k
      server_events_lem (x ∷ ms) [] k r = absurd k
      server_events_lem (x ∷ ms) (u ∷ us) k r =
          let o' = lent served_length t o in
          let q' = lent served_length t q in
          let f = server_found x b.server o q t in
          let given = Sims.lent b.server o' q' r in
          let check = check_is kinds eight i l b w o' q' x u k.0 given sim in
          let done = serves kinds eight i l b w o' q' x u k.0 given sim in
          let joined = archive_join w.archive (server_step i u w.server).recs in
          by_b (unexpected i u w.server)
          (λ e. rw (f.accepted, r, check, e))
          (λ e.
          let few = archives kinds eight i l b w o' q' x u k.0 given sim e in
          let bytes = records_are done o' q' given.messages given.records (step_8 i u w.server l) few in
          let more : b.archive ++ archived_in (server_hosted x b.server o q t) ≡ archive_of (records_of (w.archive ++ (server_step i u w.server).recs)) =
          rw (f.archived, r, check, e, bytes, sim.line.records) (sym joined) in
          rw (more, f.accepted, r, check, e, sim.line.records))

      server_turned : (ms : List (List ℕ)) → ServerCall.ready b.server (lent served_length t o) (lent served_length t q) ≡ false → server_events ms o q t b ≡ []
      unfolding server_called
      server_turned [] r = refl
      server_turned (x ∷ ms) r = let f = server_found x b.server o q t in rw (f.accepted, r)

    -- EVERY CALL
    events_same : (c : CallH) → FitsH c → events_h c b ≡ events_m (as_call b (plain_of c)) w
    events_same (OwnerH i op o c t) f =
        by_b (ready (b.station i) (lent_to op t o) (lent_to op t c))
        (λ r. by_b (ltb i 8) (λ e. rw (r, e) (owner_events_lem i (ltb_yes i 8 e) op o c t f r)) (λ e. rw (r, e)))
        (λ r. by_b (ltb i 8) (λ e. rw (r, e) (owner_turned i (ltb_yes i 8 e) op o c t r)) (λ e. rw (r, e)))
    events_same (StationH i o c t) f =
        by_b (ready (b.station i) (lent told_length t o) (lent told_length t c))
        (λ r. by_b (ltb i 8) (λ e. rw (r, e) (step_events i (ltb_yes i 8 e) o c t (b.down i) (w.down i) (sim.line.downs i) r)) (λ e. rw (r, e)))
        (λ r. by_b (ltb i 8) (λ e. rw (r, e) (step_turned i (ltb_yes i 8 e) o c t (b.down i) r)) (λ e. rw (r, e)))
    events_same (ServerH i o q t) f =
        by_b (ServerCall.ready b.server (lent served_length t o) (lent served_length t q))
        (λ r. by_b (ltb i 8) (λ e. rw (r, e) (server_events_lem i (ltb_yes i 8 e) o q t (b.up i) (w.up i) (sim.line.ups i) r)) (λ e. rw (r, e)))
        (λ r. by_b (ltb i 8) (λ e. rw (r, e) (server_turned i (ltb_yes i 8 e) o q t (b.up i) r)) (λ e. rw (r, e)))

  run_events : (cs : List CallH) (x : WorldH) (w : World) → AllFitH cs → Sim kinds x.line w → (run_h cs x).history ≡ x.history ++ history_m (calls_of (plains_of cs) x.line) w
  unfolding run_h run
  run_events [] x w f sim = sym (append-nil x.history)
  run_events (c ∷ cs) x w f sim =
      let b : WorldB = x.line in
      let c' = as_call b (plain_of c) in
      let v : World = (act c' w).world in
      let next : Sim kinds (line_h c b) v = rw (act_same c b) (act_sim kinds eight ok (plain_of c) b w (plain_fits c f.0) sim) in
      let rest = run_events cs (act_h c x) v f.1 next in
      rest ∙ sym (append_assoc x.history (events_h c b) (history_m (calls_of (plains_of cs) (line_h c b)) v)) ∙ rw (act_same c b, events_same b w sim c f.0)

-- every history is one of `line`
pub history_same : (kinds : List ℕ) → kinds_ok kinds ≡ true → (cs : List CallH) → AllFitH cs
    → (run_h cs (fresh_h kinds)).history ≡ history_m (model_calls kinds cs) (fresh (λ i. get_or kinds i 0))
history_same kinds ok cs f =
    run_events kinds (same_kinds kinds ok) (kinds_length kinds ok) cs (fresh_h kinds) (fresh (λ i. get_or kinds i 0)) f (fresh_sim kinds ok)
