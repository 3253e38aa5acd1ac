-- With buffers that are long enough every call of an exported function is the call of `line` of its name, for every list of calls: so line and
-- history are those of `line`, and can be computed there.
use Rattle.std.specs.Prelude.{ℕ, ◌≤◌, ◌≡◌, refl, true, false, ltb, length, get_or}
use Rattle.std.proofs.Math.Path.{ap}
use Rattle.std.proofs.Common.{subst, ◌∙◌, le-ltb}
use mathlib.Core.List.{List, [], ◌∷◌, ◌++◌}
use Rattle.sets.specs.Laws.{by_b}
use Rattle.sets.proofs.Laws.{ltb_yes}
use Rattle.line.specs.Line.{World, Call, fresh, act, run}
use Rattle.message.specs.Commit.{station_room, commit_room, server_room, records_room}
use Rattle.station_owner.specs.Owner.{ready}
use Rattle.server_state.specs.Valid.{kinds_ok}
use Rattle.host.specs.Host.{told_length}
use Rattle.server_host.specs.Host.{served_length}
use Rattle.line_bytes.specs.Bytes.{WorldB, fresh_b, CallB, OwnerB, ServerTakesB, StationTakesB, AllFit, act_b, run_b}
use Rattle.line_bytes.specs.Simulates.{Sim, as_call}
use Rattle.line_bytes.specs.Runs.{calls_of}
use Rattle.line_bytes.specs.Ready.{Ready, ready_of_run}
use Rattle.line_bytes.specs.Whole.{name_of, names_of, Room, AllRoom, same_act, run_more, calls_more, fit_more, run_is}
use Rattle.line_host.specs.Line.{CallH, OwnerH, StationH, ServerH, AllFitH, fresh_h, run_h}
use Rattle.line_host.specs.Same.{few_values, plain_of, plains_of, plains_fit, run_same}
use Rattle.line_host.specs.Events.{events_m, history_m}
use Rattle.line_host.specs.History.{history_same}

-- 8 messages and 1,408 commit bytes (station), 128 messages and 7,040 record bytes (server); four numbers told, two served; a set's eight values
abbrev pub RoomH : CallH → Type 0
RoomH (OwnerH i op o c t) = (station_room ≤ length o) × (commit_room ≤ length c) × (told_length ≤ length t) × (few_values op ≡ false)
RoomH (StationH i o c t) = (station_room ≤ length o) × (commit_room ≤ length c) × (told_length ≤ length t)
RoomH (ServerH i o q t) = (server_room ≤ length o) × (records_room ≤ length q) × (served_length ≤ length t)

abbrev pub AllRoomH : List CallH → Type 0
AllRoomH [] = Unit {0}
AllRoomH (c ∷ cs) = RoomH c × AllRoomH cs

-- the call's name
abbrev pub name_h : CallH → Call
name_h c = name_of (plain_of c)

abbrev pub names_h : List CallH → List Call
names_h [] = []
names_h (c ∷ cs) = name_h c ∷ names_h cs

names_plain : (cs : List CallH) → names_of (plains_of cs) ≡ names_h cs
names_plain [] = refl
names_plain (c ∷ cs) = rw (names_plain cs)

room_plain : (c : CallH) → RoomH c → Room (plain_of c)
room_plain (OwnerH i op o c t) r = rw (r.3, le-ltb (length t) told_length r.2) (r.0, r.1)
room_plain (StationH i o c t) r = rw (le-ltb (length t) told_length r.2) (r.0, r.1)
room_plain (ServerH i o q t) r = rw (le-ltb (length t) served_length r.2) (r.0, r.1)

rooms_plain : (cs : List CallH) → AllRoomH cs → AllRoom (plains_of cs)
rooms_plain [] r = tt
rooms_plain (c ∷ cs) r = (room_plain c r.0, rooms_plain cs r.1)

-- one call; of a station that is none, nothing happens in either
same_events : (c : CallB) (b : WorldB) (w : World) → Room c → Ready b → events_m (as_call b c) w ≡ events_m (name_of c) w
same_events (OwnerB i op o c) b w r h =
    by_b (ltb i 8) (λ e. rw (h.station i (ltb_yes i 8 e) o c r.0 r.1))
    (λ e. by_b (ready (b.station i) o c) (λ q. rw q) (λ q. rw (q, e)))
same_events (ServerTakesB i o q) b w r h = rw (h.server o q r.0 r.1)
same_events (StationTakesB i o c) b w r h =
    by_b (ltb i 8) (λ e. rw (h.station i (ltb_yes i 8 e) o c r.0 r.1))
    (λ e. by_b (ready (b.station i) o c) (λ q. rw q) (λ q. rw (q, e)))

module _ (kinds : List ℕ) (ok : kinds_ok kinds ≡ true) where
  abbrev k : ℕ → ℕ
  k i = get_or kinds i 0

  -- behind the calls ds, the calls cs
  named_from : (cs ds : List CallB) → AllFit ds → AllFit cs → AllRoom cs
      → history_m (calls_of cs (run_b ds (fresh_b kinds))) (run (calls_of ds (fresh_b kinds)) (fresh k)) ≡ history_m (names_of cs) (run (calls_of ds (fresh_b kinds)) (fresh k))
  named_from [] ds f g r = refl
  named_from (c ∷ cs) ds f g r =
      let b = run_b ds (fresh_b kinds) in
      let w = run (calls_of ds (fresh_b kinds)) (fresh k) in
      let es = ds ++ (c ∷ []) in
      let ready = ready_of_run kinds ok ds f in
      let v : World = (act (as_call b c) w).world in
      let rest = named_from cs es (fit_more ds c f g.0) g.1 r.1 in
      let there : run (calls_of es (fresh_b kinds)) (fresh k) ≡ v = calls_more ds c (fresh_b kinds) (fresh k) in
      let next : history_m (calls_of cs (act_b c b)) v ≡ history_m (names_of cs) v =
      subst (λ (z : World). history_m (calls_of cs (act_b c b)) z ≡ history_m (names_of cs) z) there
      (subst (λ (y : WorldB). history_m (calls_of cs y) (run (calls_of es (fresh_b kinds)) (fresh k)) ≡ history_m (names_of cs) (run (calls_of es (fresh_b kinds)) (fresh k))) (run_more ds c (fresh_b kinds)) rest) in
      let head = same_events c b w r.0 ready in
      let tail = next ∙ ap (history_m (names_of cs)) (same_act c b w r.0 ready) in
      λ t. head t ++ tail t

  pub history_named : (cs : List CallH) → AllFitH cs → AllRoomH cs → (run_h cs (fresh_h kinds)).history ≡ history_m (names_h cs) (fresh k)
  unfolding run_b run
  history_named cs f r =
      history_same kinds ok cs f ∙ named_from (plains_of cs) [] tt (plains_fit cs f) (rooms_plain cs r) ∙ ap (λ (l : List Call). history_m l (fresh k)) (names_plain cs)

  pub line_named : (cs : List CallH) → AllFitH cs → AllRoomH cs → Sim kinds (run_h cs (fresh_h kinds)).line (run (names_h cs) (fresh k))
  line_named cs f r =
      subst (λ (l : List Call). Sim kinds (run_h cs (fresh_h kinds)).line (run l (fresh k))) (names_plain cs)
      (rw (run_same cs (fresh_h kinds)) (run_is kinds ok (plains_of cs) (plains_fit cs f) (rooms_plain cs r)))
