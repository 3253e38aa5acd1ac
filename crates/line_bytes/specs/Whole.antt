-- With output that is long enough every call over bytes is the model's call of its name, for every list of calls: no call of it is turned back
-- but by document 01's rules, which the model has. So the line over bytes does all that the model's line does.
use Rattle.std.specs.Prelude.{ℕ, ◌≤◌, ◌≡◌, true, ltb, length, get_or}
use Rattle.std.proofs.Math.Path.{refl, sym, ap, subst}
use Rattle.std.proofs.Common.{◌∙◌}
use mathlib.Core.List.{List, [], ◌∷◌, ◌++◌}
use Rattle.sets.specs.Laws.{by_b}
use Rattle.sets.proofs.Laws.{ltb_yes}
use Rattle.line.specs.Line.{World, Call, Owner, ServerTakes, StationTakes, fresh, act, run}
use Rattle.message.specs.Commit.{records_room, server_room, commit_room, station_room}
use Rattle.station_owner.specs.Owner.{ready}
use Rattle.server_state.specs.Valid.{kinds_ok}
use Rattle.line_bytes.specs.Bytes.{WorldB, fresh_b, CallB, OwnerB, ServerTakesB, StationTakesB, Fits, AllFit, act_b, run_b}
use Rattle.line_bytes.specs.Simulates.{Sim, as_call}
use Rattle.line_bytes.specs.Runs.{calls_of, run_simulates}
use Rattle.line_bytes.specs.Ready.{Ready, ready_of_run}

-- the model's call of its name
abbrev pub name_of : CallB → Call
name_of (OwnerB i op o c) = Owner i op
name_of (ServerTakesB i o q) = ServerTakes i
name_of (StationTakesB i o c) = StationTakes i

abbrev pub names_of : List CallB → List Call
names_of [] = []
names_of (c ∷ cs) = name_of c ∷ names_of cs

-- number 1's output: 128 messages and 7,040 record bytes (server), 8 messages and 1,408 commit bytes (station)
abbrev pub Room : CallB → Type 0
Room (OwnerB i op o c) = (station_room ≤ length o) × (commit_room ≤ length c)
Room (ServerTakesB i o q) = (server_room ≤ length o) × (records_room ≤ length q)
Room (StationTakesB i o c) = (station_room ≤ length o) × (commit_room ≤ length c)

abbrev pub AllRoom : List CallB → Type 0
AllRoom [] = Unit {0}
AllRoom (c ∷ cs) = Room c × AllRoom cs

-- one call; of a station that is none, nothing is done in either
pub same_act : (c : CallB) (b : WorldB) (w : World) → Room c → Ready b → (act (as_call b c) w).world ≡ (act (name_of c) w).world
unfolding act
same_act (OwnerB i op o c) b w r h =
    by_b (ltb i 8) (λ e. rw (h.station i (ltb_yes i 8 e) o c r.0 r.1))
    (λ e. by_b (ready (b.station i) o c) (λ q. rw q) (λ q. rw (q, e)))
same_act (ServerTakesB i o q) b w r h = rw (h.server o q r.0 r.1)
same_act (StationTakesB i o c) b w r h =
    by_b (ltb i 8) (λ e. rw (h.station i (ltb_yes i 8 e) o c r.0 r.1))
    (λ e. by_b (ready (b.station i) o c) (λ q. rw q) (λ q. rw (q, e)))

-- one call more
pub run_more : (ds : List CallB) (c : CallB) (b : WorldB) → run_b (ds ++ (c ∷ [])) b ≡ act_b c (run_b ds b)
unfolding run_b
run_more [] c b = refl
run_more (d ∷ ds) c b = run_more ds c (act_b d b)

pub calls_more : (ds : List CallB) (c : CallB) (b : WorldB) (w : World) → run (calls_of (ds ++ (c ∷ [])) b) w ≡ (act (as_call (run_b ds b) c) (run (calls_of ds b) w)).world
unfolding run_b run
calls_more [] c b w = refl
calls_more (d ∷ ds) c b w = calls_more ds c (act_b d b) (act (as_call b d) w).world

pub fit_more : (ds : List CallB) (c : CallB) → AllFit ds → Fits c → AllFit (ds ++ (c ∷ []))
fit_more [] c f g = (g, tt)
fit_more (d ∷ ds) c f g = (f.0, fit_more ds c f.1 g)

module _ (kinds : List ℕ) (ok : kinds_ok kinds ≡ true) where
  abbrev k : ℕ → ℕ
  k i = get_or kinds i 0

  -- behind the calls ds, the calls cs
  pub same_run : (cs ds : List CallB) → AllFit ds → AllFit cs → AllRoom cs
      → run (calls_of cs (run_b ds (fresh_b kinds))) (run (calls_of ds (fresh_b kinds)) (fresh k)) ≡ run (names_of cs) (run (calls_of ds (fresh_b kinds)) (fresh k))
  unfolding run
  same_run [] ds f g r = refl
  same_run (c ∷ cs) ds f g r =
      let b = run_b ds (fresh_b kinds) in
      let w = run (calls_of ds (fresh_b kinds)) (fresh k) in
      let es = ds ++ (c ∷ []) in
      let rest = same_run cs es (fit_more ds c f g.0) g.1 r.1 in
      let now = same_act c b w r.0 (ready_of_run kinds ok ds f) in
      let left : run (calls_of cs (run_b es (fresh_b kinds))) (run (calls_of es (fresh_b kinds)) (fresh k)) ≡ run (calls_of cs (act_b c b)) (act (as_call b c) w).world =
      rw (run_more ds c (fresh_b kinds), calls_more ds c (fresh_b kinds) (fresh k)) in
      let right : run (names_of cs) (run (calls_of es (fresh_b kinds)) (fresh k)) ≡ run (names_of cs) (act (as_call b c) w).world = rw (calls_more ds c (fresh_b kinds) (fresh k)) in
      sym left ∙ rest ∙ right ∙ ap (run (names_of cs)) now

  -- the line over bytes and the model's line, call by call
  pub run_is : (cs : List CallB) → AllFit cs → AllRoom cs → Sim kinds (run_b cs (fresh_b kinds)) (run (names_of cs) (fresh k))
  unfolding run_b run
  run_is cs f r =
      let same : run (calls_of cs (fresh_b kinds)) (fresh k) ≡ run (names_of cs) (fresh k) = same_run cs [] tt f r in
      subst (Sim kinds (run_b cs (fresh_b kinds))) same (run_simulates kinds ok cs f)
