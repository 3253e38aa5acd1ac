-- What a list of calls over bytes shows is, byte for byte, what the model's calls of their names show.
use Rattle.std.specs.Prelude.{ℕ, ◌+◌, ◌%◌, ◌<◌, ◌≡◌, Bool, true, false, not, ◌&&◌, ltb, length}
use Rattle.std.proofs.Math.Path.{refl, sym}
use Rattle.std.proofs.Common.{ap, subst, ◌∙◌, arith, lt-ltb}
use mathlib.Core.List.{List, [], ◌∷◌, ◌++◌}
use Rattle.std.proofs.Math.ListN.{get_or}
use Rattle.sets.specs.Base.{Val, none, some, any}
use Rattle.sets.specs.Laws.{by_b, by_eq}
use Rattle.sets.proofs.Laws.{eqb_yes, ltb_yes, any_no, and_l, and_r, not_yes, not_no}
use Rattle.entries.specs.Entries.{FitVal}
use Rattle.line.specs.Messages.{page_of, address, Up, Down, Sent, Nothing}
use Rattle.line.specs.Station.{Did, of_page, station_step}
use Rattle.line.specs.Server.{server_step, unexpected}
use Rattle.line.specs.Line.{Op, Begin, Read, WriteSet, Commits, Aborts, Purges, Call, Owner, ServerTakes, StationTakes, Broken, World, Acted, up_reply, is_refused, fresh, perform, owner_acts, station_takes, server_takes, act}
use Rattle.line.specs.Bounds.{step_128, step_8}
use Rattle.line.specs.Fields.{up_fields, down_fields}
use Rattle.line.specs.Rows.{each, station_of, seen_at, seen}
use Rattle.line.specs.Rows as Model
use Rattle.truth.proofs.ValidatedMoves.{perform_kind, step_kind}
use Rattle.message.specs.Number
use Rattle.station_answer.specs.Did.{Outcome}
use Rattle.station_owner.specs.Owner.{ready}
use Rattle.server_state.specs.Valid.{kinds_ok}
use Rattle.server_state.specs.Facts.{kinds_length}
use Rattle.server_actions.specs.Step.{server_called}
use Rattle.server_actions.specs.Step as ServerCall
use Rattle.step_meaning.specs.Relation.{AllSent}
use Rattle.call_meaning.specs.Relation.{answer_of}
use Rattle.call_meaning.specs.Buffers.{messages_in, sent_by}
use Rattle.call_meaning.specs.Calls.{AllReads, perform_b, step_b, OpFits}
use Rattle.line_bytes.specs.Bytes.{WorldB, fresh_b, CallB, OwnerB, ServerTakesB, StationTakesB, Fits, AllFit, act_b, run_b}
use Rattle.line_bytes.specs.Served.{messages_are, records_are}
use Rattle.line_bytes.specs.Simulates.{Sim, AllDown, as_call, owner_told, step_told_at, lent, check_is, serves, archives, act_sim}
use Rattle.line_bytes.specs.Runs.{same_kinds, fresh_sim}
use Rattle.line_bytes.specs.Ready.{Ready, ready_of_run}
use Rattle.line_bytes.specs.Whole.{name_of, names_of, Room, AllRoom, run_more, fit_more}
use Rattle.line_cases.specs.Wire.{wire, wire_records}
use Rattle.line_cases.specs.Records.{records_same}
use Rattle.line_cases.specs.Down.{down_written}
use Rattle.line_cases.specs.Up.{up_written}
use Rattle.line_cases.specs.Seen.{Step, step, station_shows, taken_shows, served_shows, shows, seen_b}

-- what the model shows, in bytes
abbrev pub in_bytes : Model.Step → Step
in_bytes s = step s.call s.answer (each wire s.messages) (wire_records s.records)

-- MESSAGES

ups_written : (kinds : List ℕ) (i : ℕ) (ms : List (List ℕ)) (us : List Up) → AllReads kinds i ms us → ms ≡ each wire (each (up_fields i (get_or kinds i 0)) us ++ [])
ups_written kinds i [] [] h = refl
ups_written kinds i [] (u ∷ us) h = absurd h
ups_written kinds i (m ∷ ms) [] h = absurd h
ups_written kinds i (m ∷ ms) (u ∷ us) h = λ t. up_written kinds i (length m) m u h.0 t ∷ ups_written kinds i ms us h.1 t

downs_written : (ms : List (List ℕ)) (xs : List Sent) → AllSent ms xs → ms ≡ each wire (each down_fields xs)
downs_written [] [] h = refl
downs_written [] (x ∷ xs) h = absurd h
downs_written (m ∷ ms) [] h = absurd h
downs_written (m ∷ ms) (x ∷ xs) h = λ t. down_written m x h.0 t ∷ downs_written ms xs h.1 t

-- ONE CALL

-- a station's, that answered and sent what the model's did
up_shown : (kinds : List ℕ) (c : Call) (a : Acted) (b : Outcome) (d : Did) → a.reply ≡ up_reply d → (a.world.station (station_of c)).kind ≡ get_or kinds (station_of c) 0
    → answer_of b.said.answer ≡ d.answer → AllReads kinds (station_of c) (sent_by b) d.sent → station_shows c b ≡ in_bytes (seen_at c a)
up_shown kinds c a b d reply kind answer sent = rw (reply, kind) (λ t. step c (answer t) (ups_written kinds (station_of c) (sent_by b) d.sent sent t) [])

module _ (kinds : List ℕ) (size : length kinds ≡ 8) (ok : Number.kinds_ok kinds ≡ true) (b : WorldB) (w : World) (h : Sim kinds b w) where
  -- the model's call of its name
  after : (c : CallB) → Fits c → as_call b c ≡ name_of c → Sim kinds (act_b c b) (act (name_of c) w).world
  after c f e = subst (λ (n : Call). Sim kinds (act_b c b) (act n w).world) e (act_sim kinds size ok c b w f h)

  owner_shown : (i : ℕ) (op : Op) (o c : List ℕ) → i < 8 → OpFits op → ready (b.station i) o c ≡ true
      → shows (OwnerB i op o c) b ≡ in_bytes (seen_at (Owner i op) (act (Owner i op) w))
  unfolding shows act owner_acts
  owner_shown i op o c l f r =
      let t = owner_told kinds ok i l b w op o c f r h in
      let d = perform op (w.station i) in
      let kind = ((after (OwnerB i op o c) f (rw r)).line.stations i l).kind_is in
      let same : d.station.kind ≡ get_or kinds i 0 = perform_kind op (w.station i) ∙ (h.line.stations i l).kind_is in
      up_shown kinds (Owner i op) (act (Owner i op) w) (perform_b op (b.station i) o c) d (rw (lt-ltb i 8 l)) kind t.answer (t.sent kinds ok (sym same))

  taken_shown : (i : ℕ) (o c : List ℕ) (ms : List (List ℕ)) (ds : List Down) → i < 8 → AllDown i ms ds → ready (b.station i) o c ≡ true
      → ((station_takes i ds w).world.station i).kind ≡ get_or kinds i 0
      → taken_shows i ms o c b ≡ in_bytes (seen_at (StationTakes i) (station_takes i ds w))
  unfolding station_takes
  taken_shown i o c [] [] l q r kind = refl
  taken_shown i o c [] (m ∷ ds) l q r kind = absurd q
  taken_shown i o c (x ∷ ms) [] l q r kind = absurd q
  taken_shown i o c (x ∷ ms) (m ∷ ds) l q r kind =
      let t = step_told_at kinds ok i l b w x m o c q.0 r h in
      let d = station_step m (w.station i) in
      let same : d.station.kind ≡ get_or kinds i 0 = step_kind m (w.station i) ∙ (h.line.stations i l).kind_is in
      let reply : (station_takes i (m ∷ ds) w).reply ≡ up_reply d = by_b (is_refused d.answer) (λ e. rw e) (λ e. rw e) in
      up_shown kinds (StationTakes i) (station_takes i (m ∷ ds) w) (step_b x (b.station i) o c) d reply kind t.answer (t.sent kinds ok (sym same))

  served_shown : (i : ℕ) (o q : List ℕ) (ms : List (List ℕ)) (us : List Up) → i < 8 → AllReads kinds i ms us → ServerCall.ready b.server o q ≡ true
      → served_shows i ms o q b ≡ in_bytes (seen_at (ServerTakes i) (server_takes i us w))
  unfolding server_takes server_called messages_in
  served_shown i o q [] [] l k r = refl
  served_shown i o q [] (u ∷ us) l k r = absurd k
  served_shown i o q (x ∷ ms) [] l k r = absurd k
  served_shown i o q (x ∷ ms) (u ∷ us) l k r =
      let t = lent b.server o q r in
      let check = check_is kinds size i l b w o q x u k.0 t h in
      let s = serves kinds size i l b w o q x u k.0 t h in
      let y = server_step i u w.server in
      let messages = messages_are s o q t.messages t.records (step_128 i u w.server) ∙ downs_written _ y.sent s.sent in
      by_b (unexpected i u w.server) (λ e. rw (r, check, e))
      (λ e.
      let few = archives kinds size i l b w o q x u k.0 t h e in
      let records = records_are s o q t.messages t.records (step_8 i u w.server l) few ∙ sym (records_same y.recs) in
      rw (r, check, e) (λ z. step (ServerTakes i) Nothing (messages z) (records z)))

  -- any call, of a station that is one, with output that is long enough
  call_shown : (c : CallB) → station_of (name_of c) < 8 → Fits c → Room c → Ready b
      → (shows c b ≡ in_bytes (seen_at (name_of c) (act (name_of c) w))) × Sim kinds (act_b c b) (act (name_of c) w).world
  unfolding shows act
  call_shown (OwnerB i op o c) l f r k =
      let y = k.station i l o c r.0 r.1 in
      (owner_shown i op o c l f y, after (OwnerB i op o c) f (rw y))
  call_shown (ServerTakesB i o q) l f r k =
      let y = k.server o q r.0 r.1 in
      (rw (lt-ltb i 8 l) (served_shown i o q (b.up i) (w.up i) l (h.line.ups i) y), after (ServerTakesB i o q) f (rw y))
  call_shown (StationTakesB i o c) l f r k =
      let y = k.station i l o c r.0 r.1 in
      let then = after (StationTakesB i o c) f (rw y) in
      let kind : ((station_takes i (w.down i) w).world.station i).kind ≡ get_or kinds i 0 = rw (lt-ltb i 8 l) at (then.line.stations i l).kind_is in
      (rw (lt-ltb i 8 l) (taken_shown i o c (b.down i) (w.down i) l (h.line.downs i) y kind), then)

-- A LIST OF CALLS

-- "Stations 0 to 7", "a value of 64 bits": as a test, for a list that is known
abbrev long : Val → Bool
long none = false
long (some v) = not (ltb v 18446744073709551616)

abbrev pub op_right : Op → Bool
op_right Begin = true
op_right (Read a) = true
op_right (WriteSet p f) = not (any 8 (λ o. long (f (address p o))))
op_right Commits = true
op_right Aborts = true
op_right (Purges p) = true

abbrev pub right : Call → Bool
right (Owner i op) = ltb i 8 && op_right op
right (ServerTakes i) = ltb i 8
right (StationTakes i) = ltb i 8
right (Broken n) = false

abbrev pub all_right : List Call → Bool
all_right [] = true
all_right (c ∷ cs) = right c && all_right cs

val_fits : (x : Val) → long x ≡ false → FitVal x
val_fits none e = tt
val_fits (some v) e = ltb_yes v 18446744073709551616 (not_no (ltb v 18446744073709551616) e)

set_fits : (p : ℕ) (f : ℕ → Val) → any 8 (λ o. long (f (address p o))) ≡ false → (a : ℕ) → FitVal (of_page p f a)
set_fits p f e a =
    by_eq (page_of a) p
    (λ q.
    let here : address p (a % 8) ≡ a = omega (arith, eqb_yes (page_of a) p q) in
    rw q (val_fits (f a) (rw here at (any_no 8 (λ o. long (f (address p o))) e (a % 8) (omega arith)))))
    (λ q. rw q tt)

op_fits : (op : Op) → op_right op ≡ true → OpFits op
op_fits Begin e = tt
op_fits (Read a) e = tt
op_fits (WriteSet p f) e = set_fits p f (not_yes (any 8 (λ o. long (f (address p o)))) e)
op_fits Commits e = tt
op_fits Aborts e = tt
op_fits (Purges p) e = tt

pub call_right : (c : CallB) → right (name_of c) ≡ true → (station_of (name_of c) < 8) × Fits c
call_right (OwnerB i op o c) e = (ltb_yes i 8 (and_l (ltb i 8) (op_right op) e), op_fits op (and_r (ltb i 8) (op_right op) e))
call_right (ServerTakesB i o q) e = (ltb_yes i 8 e, tt)
call_right (StationTakesB i o c) e = (ltb_yes i 8 e, tt)

-- b is what calls leave of a fresh line: so number 1 turns back no state of it
record Reached (kinds : List ℕ) (b : WorldB) : Type 0 where
  calls : List CallB
  fit : AllFit calls
  left : run_b calls (fresh_b kinds) ≡ b

reached_more : (kinds : List ℕ) (b : WorldB) (c : CallB) → Fits c → Reached kinds b → Reached kinds (act_b c b)
reached_more kinds b c f h =
    record {
      calls = h.calls ++ (c ∷ []);
      fit = fit_more h.calls c h.fit f;
      left = run_more h.calls c (fresh_b kinds) ∙ ap (act_b c) h.left;
    }

module _ (kinds : List ℕ) (ok : kinds_ok kinds ≡ true) where
  ready_at : (b : WorldB) → Reached kinds b → Ready b
  ready_at b h = subst Ready h.left (ready_of_run kinds ok h.calls h.fit)

  seen_from : (cs : List CallB) (b : WorldB) (w : World) → Sim kinds b w → Reached kinds b → all_right (names_of cs) ≡ true → AllRoom cs → seen_b cs b ≡ each in_bytes (seen (names_of cs) w)
  unfolding seen_b seen
  seen_from [] b w h y e r = refl
  seen_from (c ∷ cs) b w h y e r =
      let g = call_right c (and_l (right (name_of c)) (all_right (names_of cs)) e) in
      let now = call_shown kinds (kinds_length kinds ok) (same_kinds kinds ok) b w h c g.0 g.1 r.0 (ready_at b y) in
      let more = reached_more kinds b c g.1 y in
      let rest = seen_from cs (act_b c b) (act (name_of c) w).world now.1 more (and_r (right (name_of c)) (all_right (names_of cs)) e) r.1 in
      λ t. now.0 t ∷ rest t

  -- from a fresh line
  pub seen_is : (cs : List CallB) → all_right (names_of cs) ≡ true → AllRoom cs → seen_b cs (fresh_b kinds) ≡ each in_bytes (seen (names_of cs) (fresh (λ i. get_or kinds i 0)))
  unfolding run_b
  seen_is cs e r = seen_from cs (fresh_b kinds) (fresh (λ i. get_or kinds i 0)) (fresh_sim kinds ok) (record { calls = []; fit = tt; left = refl }) e r
