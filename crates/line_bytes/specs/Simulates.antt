-- Every call over bytes is a call of the model: the states mean the model's server and stations, the messages under way are read as the
-- model's, the archive has the bytes of the model's records, and owners are told the same.
use Prim.Native.Nat.{ℕ, ◌≤◌, ◌<◌}
use Rattle.std.specs.Prelude.{◌≡◌, true, false, ◌&&◌, cond, eqb, ltb, leb, length, get_or, take}
use Rattle.std.proofs.Math.Path.{refl, ap, subst, fun_ext}
use Rattle.std.proofs.Common.{sym, ◌∙◌, arith, leb-true}
use Rattle.std.proofs.lemmas.Bool.{false≢true}
use mathlib.Core.List.{List, [], ◌∷◌, ◌++◌, append-nil}
use Rattle.lists.specs.Tests.{and_l, and_r}
use Rattle.sets.specs.Base.{upd, turned}
use Rattle.sets.specs.Laws.{by_b, by_eq}
use Rattle.sets.proofs.Laws.{eqb_yes, ltb_yes}
use Rattle.cells.proofs.Num.{all_bytes}
use Rattle.layout.specs.Record.{archive_of}
use Rattle.recs.specs.Recs.{records_of}
use Rattle.line.specs.Messages.{Up, Down, Sent, To, Rec, Answer, Nothing, Begun, Value, Waits, Written, CommittedAs, AbortedFor, Purged, Refused, Empty}
use Rattle.line.specs.Station.{Station, Did, station_step}
use Rattle.line.specs.Server.{Server, accept, start, server_step, unexpected}
use Rattle.line.specs.Server as Model
use Rattle.line.specs.Line.{Op, Told, World, world_up, world_down, Call, Owner, ServerTakes, StationTakes, Broken, tell, sent_to, carry_up, carry_down, perform, owner_acts, is_refused, station_takes, server_takes, act}
use Rattle.line.specs.All.{All}
use Rattle.line.specs.Bounds.{step_128, step_8}
use Rattle.line.specs.Fit.{LimitedRec, UpNames}
use Rattle.line.specs.FitServer.{step_archives}
use Rattle.truth.proofs.ValidatedMoves.{perform_kind, step_kind}
use Rattle.message.specs.Layout.{station_of}
use Rattle.message.specs.Number.{kinds_ok, down_number}
use Rattle.message.specs.Commit.{records_room, server_room}
use Rattle.message_meaning.specs.Meant.{up_of, down_of}
use Rattle.message_meaning.specs.Sent.{Reads}
use Rattle.station_state.specs.Layout.{station}
use Rattle.station_state.specs.Valid.{valid}
use Rattle.station_answer.specs.declared.Answer as Enum
use Rattle.station_answer.specs.declared.Answer.TheVariants as Said
use Rattle.station_answer.specs.Did.{said, Outcome, outcome}
use Rattle.station_owner.specs.Owner.{ready}
use Rattle.station_meaning.specs.Meant.{meant}
use Rattle.station_meaning.specs.Meant as StationMeant
use Rattle.station_meaning.proofs.Tests.{station_at}
use Rattle.server_state.specs.Valid as ServerValid
use Rattle.server_state.specs.Facts.{valid_ranged}
use Rattle.server_meaning.specs.Meant as ServerMeant
use Rattle.server_meaning.proofs.Tests.{wanting}
use Rattle.server_actions.specs.Actions.{Serving, serving, accept_b}
use Rattle.server_actions.specs.Pass.{server_step_b}
use Rattle.server_actions.specs.Step.{kinds_of, check_step_b, refused, laid, server_called}
use Rattle.server_actions.specs.Step as ServerCall
use Rattle.step_meaning.specs.Relation.{ReadAs, AllSent, Serves}
use Rattle.step_meaning.proofs.Accept.{unexpected_at, accept_means}
use Rattle.step_meaning.proofs.Pass.{step_means}
use Rattle.call_meaning.specs.Relation.{answer_of}
use Rattle.call_meaning.specs.Buffers.{messages_in, sent_by}
use Rattle.call_meaning.specs.Calls.{AllReads, perform_b, step_b, OpFits}
use Rattle.call_meaning.proofs.Calls.{owner_means, owner_unready, step_told, step_unchanged}
use Rattle.call_meaning.specs.Calls
use Rattle.line_bytes.specs.Bytes.{WorldB, CallB, OwnerB, ServerTakesB, StationTakesB, Fits, tell_b, sent_to_b, rest_up_lem, rest_down, carry_up_b, carry_down_b, owner_acts_b, station_takes_b, server_takes_b, act_b}
use Rattle.line_bytes.specs.Served.{sound_of, kinds_read, up_names, archive_join, messages_are, records_are}
use Rattle.line_bytes.specs.Kinds.{server_kind}
use Rattle.line_bytes.specs.Fits.{fit_of}

-- THE RELATION

-- a station's state, valid, means the model's station of this number and kind
pub record Stands (kind i : ℕ) (s : List ℕ) (m : Station) : Type 0 where
  pub is : StationMeant.Is i s m
  pub valid : valid s ≡ true
  pub kind_is : m.kind ≡ kind

-- a down line: each message is read by station i as the one beside it
abbrev pub AllDown : ℕ → List (List ℕ) → List Down → Type 0
AllDown i [] [] = Unit {0}
AllDown i [] (d ∷ ds) = ⊥
AllDown i (m ∷ ms) [] = ⊥
AllDown i (m ∷ ms) (d ∷ ds) = ReadAs m (To i d) × AllDown i ms ds

-- states, lines and archive; over fields, so that what leaves them is seen to keep this
pub record Alike (kinds s : List ℕ) (t : ℕ → List ℕ) (u d : ℕ → List (List ℕ)) (r : List ℕ) (n : List (List ℕ)) (S : Server) (T : ℕ → Station) (U : ℕ → List Up) (D : ℕ → List Down) (R : List Rec) (N : List Sent) : Type 0 where
  pub server : ServerMeant.Is s S
  pub server_kinds : (i : ℕ) → i < 8 → S.kind i ≡ get_or kinds i 0
  pub stations : (i : ℕ) → i < 8 → Stands (get_or kinds i 0) i (t i) (T i)
  pub ups : (i : ℕ) → AllReads kinds i (u i) (U i)
  pub downs : (i : ℕ) → AllDown i (d i) (D i)
  pub records : r ≡ archive_of (records_of R)
  pub sent : AllSent n N

-- what owners were told, and their notes
pub record Notes (t : List Told) (n : ℕ → ℕ) (a : ℕ → Op) (T : List Told) (N : ℕ → ℕ) (A : ℕ → Op) : Type 0 where
  pub told : t ≡ T
  pub number : n ≡ N
  pub asked : a ≡ A

abbrev pub AlikeIn : List ℕ → WorldB → World → Type 0
AlikeIn kinds b w =
    Alike kinds b.server b.station b.up b.down b.archive b.sent_down w.server w.station w.up w.down w.archive w.sent_down

abbrev pub NotesIn : WorldB → World → Type 0
NotesIn b w = Notes b.told b.number b.asked w.told w.number w.asked

pub record Sim (kinds : List ℕ) (b : WorldB) (w : World) : Type 0 where
  pub line : AlikeIn kinds b w
  pub notes : NotesIn b w

-- THE MODEL'S CALL

-- number 1 is the bytes' own; 2 to 5 cannot happen to what the line's ends sent, 6 and above are the model's
abbrev pub as_call : WorldB → CallB → Call
as_call b (OwnerB i op o c) = cond (ready (b.station i) o c) (Owner i op) (Broken 1)
as_call b (ServerTakesB i o q) = cond (ServerCall.ready b.server o q) (ServerTakes i) (Broken 1)
as_call b (StationTakesB i o c) = cond (ready (b.station i) o c) (StationTakes i) (Broken 1)

-- LINES

reads_join : (kinds : List ℕ) (i : ℕ) (ms : List (List ℕ)) (us : List Up) (ns : List (List ℕ)) (vs : List Up) → AllReads kinds i ms us → AllReads kinds i ns vs
    → AllReads kinds i (ms ++ ns) (us ++ vs)
reads_join kinds i [] [] ns vs h k = k
reads_join kinds i [] (u ∷ us) ns vs h k = absurd h
reads_join kinds i (m ∷ ms) [] ns vs h k = absurd h
reads_join kinds i (m ∷ ms) (u ∷ us) ns vs h k = (h.0, reads_join kinds i ms us ns vs h.1 k)

down_join : (i : ℕ) (ms : List (List ℕ)) (ds : List Down) (ns : List (List ℕ)) (es : List Down) → AllDown i ms ds → AllDown i ns es → AllDown i (ms ++ ns) (ds ++ es)
down_join i [] [] ns es h k = k
down_join i [] (d ∷ ds) ns es h k = absurd h
down_join i (m ∷ ms) [] ns es h k = absurd h
down_join i (m ∷ ms) (d ∷ ds) ns es h k = (h.0, down_join i ms ds ns es h.1 k)

sent_join : (ms : List (List ℕ)) (xs : List Sent) (ns : List (List ℕ)) (ys : List Sent) → AllSent ms xs → AllSent ns ys → AllSent (ms ++ ns) (xs ++ ys)
sent_join [] [] ns ys h k = k
sent_join [] (x ∷ xs) ns ys h k = absurd h
sent_join (m ∷ ms) [] ns ys h k = absurd h
sent_join (m ∷ ms) (x ∷ xs) ns ys h k = (h.0, sent_join ms xs ns ys h.1 k)

-- whom a message goes to, and what it says
abbrev to_of : Sent → ℕ
to_of (To j d) = j

abbrev says_of : Sent → Down
says_of (To j d) = d

pub goes_to : (m : List ℕ) (j : ℕ) (d : Down) → ReadAs m (To j d) → station_of m ≡ j
goes_to m j d h = h.station_is ∙ sym (ap to_of h.sent_is)

pub read_down : (m : List ℕ) (j : ℕ) (d : Down) → ReadAs m (To j d) → down_of m ≡ d
read_down m j d h = sym (ap says_of h.sent_is)

pub taken_down : (m : List ℕ) (j : ℕ) (d : Down) → ReadAs m (To j d) → down_number j m ≡ 0
taken_down m j d h = rw (ap to_of h.sent_is) h.accepted

-- "Messages sent join the back of their station's .. line"
sent_to_lem : (i : ℕ) (ms : List (List ℕ)) (xs : List Sent) → AllSent ms xs → AllDown i (sent_to_b i ms) (sent_to i xs)
sent_to_lem i [] [] h = tt
sent_to_lem i [] (x ∷ xs) h = absurd h
sent_to_lem i (m ∷ ms) [] h = absurd h
sent_to_lem i (m ∷ ms) (To j d ∷ xs) h =
    let rest = sent_to_lem i ms xs h.1 in
    let same : eqb i (station_of m) ≡ eqb i j = ap (eqb i) (goes_to m j d h.0) in
    by_eq i j
    (λ e. let here : ReadAs m (To i d) = subst (λ (k : ℕ). ReadAs m (To k d)) (sym (eqb_yes i j e)) h.0 in rw (same, e) (here, rest))
    (λ e. rw (same, e) rest)

-- OWNERS

module _ (kinds : List ℕ) (i : ℕ) (op : Op) (b : WorldB) (w : World) where
  tell_line : (a : Answer) → AlikeIn kinds b w → AlikeIn kinds (tell_b i op a b) (tell i op a w)
  unfolding tell_b tell
  tell_line Nothing h = h
  tell_line (Begun t) h = h
  tell_line (Value v) h = h
  tell_line Waits h = h
  tell_line Written h = h
  tell_line (CommittedAs n) h = h
  tell_line (AbortedFor c) h = h
  tell_line Purged h = h
  tell_line (Refused n) h = h
  tell_line Empty h = h

  tell_notes : (a : Answer) → NotesIn b w → NotesIn (tell_b i op a b) (tell i op a w)
  unfolding tell_b tell
  tell_notes Nothing h = h
  tell_notes (Begun t) h = record { told = h.told; number = rw h.number; asked = h.asked }
  tell_notes (Value v) h = record { told = rw (h.told, h.number); number = h.number; asked = h.asked }
  tell_notes Waits h = record { told = h.told; number = h.number; asked = rw h.asked }
  tell_notes Written h = record { told = rw (h.told, h.number); number = h.number; asked = h.asked }
  tell_notes (CommittedAs n) h = record { told = rw (h.told, h.number); number = h.number; asked = h.asked }
  tell_notes (AbortedFor c) h = record { told = rw (h.told, h.number); number = h.number; asked = h.asked }
  tell_notes Purged h = h
  tell_notes (Refused n) h = h
  tell_notes Empty h = h

  -- "Owners are told a call's answer": the same answer to the same operation
  tell_sim : (op' : Op) (a a' : Answer) → op ≡ op' → a ≡ a' → Sim kinds b w → Sim kinds (tell_b i op a b) (tell i op' a' w)
  tell_sim op' a a' e f h =
      subst (λ (p : Op). Sim kinds (tell_b i op a b) (tell i p a' w)) e
      (subst (λ (c : Answer). Sim kinds (tell_b i op a b) (tell i op c w)) f (record { line = tell_line a h.line; notes = tell_notes a h.notes }))

-- A STATION'S CALL

-- an update by what was there is no update
upd_own : {A : Type 0} (f : ℕ → A) (i : ℕ) (v : A) → v ≡ f i → (j : ℕ) → upd f i v j ≡ f j
upd_own f i v h j = by_eq j i (λ e. rw (e, eqb_yes j i e) h) (λ e. rw e)

-- a call that left the state and sent nothing
pub carry_none : (i : ℕ) (x : Outcome) (b : WorldB) → x.state ≡ b.station i → sent_by x ≡ [] → carry_up_b i x b ≡ b
unfolding carry_up_b
carry_none i x b e f =
    let stations = fun_ext (upd_own b.station i x.state e) in
    let ups = fun_ext (upd_own b.up i (b.up i ++ sent_by x) (rw f (append-nil (b.up i)))) in
    λ t.
    record {
      server = b.server;
      station = stations t;
      up = ups t;
      down = b.down;
      archive = b.archive;
      told = b.told;
      sent_down = b.sent_down;
      number = b.number;
      asked = b.asked;
    }

module _ (kinds : List ℕ) (ok : kinds_ok kinds ≡ true) (i : ℕ) (l : i < 8) (b : WorldB) (w : World) where
  -- state and messages are carried as the model's
  carry_up_lem : (x : Outcome) (d : Did) → Calls.Told i x d → d.station.kind ≡ get_or kinds i 0 → Sim kinds b w → Sim kinds (carry_up_b i x b) (carry_up i d w)
  unfolding carry_up_b carry_up
  carry_up_lem x d t k h =
      let here : Stands (get_or kinds i 0) i x.state d.station = record { is = t.state; valid = t.valid; kind_is = k } in
      let more = reads_join kinds i (b.up i) (w.up i) (sent_by x) d.sent (h.line.ups i) (t.sent kinds ok (sym k)) in
      record {
        line =
            record {
              server = h.line.server;
              server_kinds = h.line.server_kinds;
              stations = λ j m. by_eq j i (λ e. rw (e, eqb_yes j i e) here) (λ e. rw e (h.line.stations j m));
              ups = λ j. by_eq j i (λ e. rw (e, eqb_yes j i e) more) (λ e. rw e (h.line.ups j));
              downs = h.line.downs;
              records = h.line.records;
              sent = h.line.sent;
            };
        notes = h.notes;
      }

  -- an owner's operation
  pub owner_told : (op : Op) (o c : List ℕ) → OpFits op → ready (b.station i) o c ≡ true → Sim kinds b w → Calls.Told i (perform_b op (b.station i) o c) (perform op (w.station i))
  owner_told op o c f r h =
      let s = b.station i in
      let k = (h.line.stations i l).is in
      subst (λ (j : ℕ). Calls.Told j (perform_b op s o c) (perform op (w.station i))) (station_at k)
      (subst (λ (m : Station). Calls.Told (station s) (perform_b op s o c) (perform op m)) k.is (owner_means op s o c k.bytes f r))

  owner_sim : (op : Op) (o c : List ℕ) → OpFits op → ready (b.station i) o c ≡ true → Sim kinds b w → Sim kinds (owner_acts_b i op o c b) (owner_acts i op w).world
  unfolding owner_acts_b owner_acts
  owner_sim op o c f r h =
      let t = owner_told op o c f r h in
      let d = perform op (w.station i) in
      let k = perform_kind op (w.station i) ∙ (h.line.stations i l).kind_is in
      tell_sim kinds i op (carry_up_b i (perform_b op (b.station i) o c) b) (carry_up i d w) op _ _ refl t.answer (carry_up_lem _ d t k h)

  -- number 1
  owner_still : (op : Op) (o c : List ℕ) → ready (b.station i) o c ≡ false → owner_acts_b i op o c b ≡ b
  unfolding owner_acts_b tell_b messages_in
  owner_still op o c r = rw (owner_unready op (b.station i) o c r) (carry_none i _ b refl refl)

  -- the step
  pub step_told_at : (x : List ℕ) (m : Down) (o c : List ℕ) → ReadAs x (To i m) → ready (b.station i) o c ≡ true → Sim kinds b w
      → Calls.Told i (step_b x (b.station i) o c) (station_step m (w.station i))
  step_told_at x m o c q r h =
      let s = b.station i in
      let k = (h.line.stations i l).is in
      let own = station_at k in
      let number : down_number (station s) x ≡ 0 = rw own (taken_down x i m q) in
      let t = step_told x s o c (all_bytes x q.bytes_are) k.bytes r number (goes_to x i m q ∙ sym own) in
      subst (λ (j : ℕ). Calls.Told j (step_b x s o c) (station_step m (w.station i))) own
      (subst (λ (n : Station). Calls.Told (station s) (step_b x s o c) (station_step m n)) k.is
      (subst (λ (e : Down). Calls.Told (station s) (step_b x s o c) (station_step e (meant s))) (read_down x i m q) t))

  -- the first message of the down line is taken
  rest_down_lem : (ms : List (List ℕ)) (ds : List Down) → AllDown i ms ds → Sim kinds b w → Sim kinds (rest_down i ms b) (world_down w (upd w.down i ds))
  rest_down_lem ms ds q h =
      record {
        line =
            record {
              server = h.line.server;
              server_kinds = h.line.server_kinds;
              stations = h.line.stations;
              ups = h.line.ups;
              downs = λ j. by_eq j i (λ e. rw (e, eqb_yes j i e) q) (λ e. rw e (h.line.downs j));
              records = h.line.records;
              sent = h.line.sent;
            };
        notes = h.notes;
      }

-- a refused step leaves all as it was
module _ (i : ℕ) (b : WorldB) (o c x : List ℕ) (ms : List (List ℕ)) where
  abbrev out : Outcome
  out = step_b x (b.station i) o c

  refused_at : (n : ℕ) → out.said.answer ≡ Said.Refused n → station_takes_b i (x ∷ ms) o c b ≡ b
  unfolding station_takes_b tell_b messages_in
  refused_at n e =
      let all : out ≡ outcome (b.station i) o c (said (Said.Refused n) 0 0) = step_unchanged (b.station i) o c x n e in
      ap (λ (y : Outcome). tell_b i (b.asked i) (answer_of y.said.answer) (carry_up_b i y (cond (is_refused (answer_of y.said.answer)) b (rest_down i ms b)))) all
      ∙ carry_none i (outcome (b.station i) o c (said (Said.Refused n) 0 0)) b refl refl

  step_refused : is_refused (answer_of out.said.answer) ≡ true → station_takes_b i (x ∷ ms) o c b ≡ b
  step_refused = go out.said.answer refl
    where
      go : (a : Enum.Answer) → out.said.answer ≡ a → is_refused (answer_of a) ≡ true → station_takes_b i (x ∷ ms) o c b ≡ b
      go (Said.Refused n) e f = refused_at n e
      go (Said.Begun t) e f = absurd (false≢true f)
      go (Said.Value v) e f = absurd (false≢true f)
      go Said.Waits e f = absurd (false≢true f)
      go Said.Written e f = absurd (false≢true f)
      go (Said.Committed n) e f = absurd (false≢true f)
      go (Said.Aborted n) e f = absurd (false≢true f)
      go Said.Purged e f = absurd (false≢true f)
      go Said.Nothing e f = absurd (false≢true f)

module _ (kinds : List ℕ) (ok : kinds_ok kinds ≡ true) (i : ℕ) (l : i < 8) (b : WorldB) (w : World) (o c : List ℕ) where
  -- "an accepted step takes the first message of its line, a refused call moves none"
  station_sim : (ms : List (List ℕ)) (ds : List Down) → AllDown i ms ds → ready (b.station i) o c ≡ true → Sim kinds b w
      → Sim kinds (station_takes_b i ms o c b) (station_takes i ds w).world
  unfolding station_takes_b station_takes
  station_sim [] [] q r h = h
  station_sim [] (m ∷ ds) q r h = absurd q
  station_sim (x ∷ ms) [] q r h = absurd q
  station_sim (x ∷ ms) (m ∷ ds) q r h =
      let t = step_told_at kinds ok i l b w x m o c q.0 r h in
      let d = station_step m (w.station i) in
      let k = step_kind m (w.station i) ∙ (h.line.stations i l).kind_is in
      let same : is_refused (answer_of (step_b x (b.station i) o c).said.answer) ≡ is_refused d.answer = ap is_refused t.answer in
      let b₁ = rest_down i ms b in
      let w₁ = world_down w (upd w.down i ds) in
      let moved = carry_up_lem kinds ok i l b₁ w₁ _ d t k (rest_down_lem kinds ok i l b w ms ds q.1 h) in
      let asks = ap (λ (f : ℕ → Op). f i) h.notes.asked in
      let after = tell_sim kinds i (b.asked i) (carry_up_b i (step_b x (b.station i) o c) b₁) (carry_up i d w₁) (w.asked i) _ _ asks t.answer moved in
      by_b (is_refused d.answer)
      (λ e. subst (λ (z : WorldB). Sim kinds z (station_takes i (m ∷ ds) w).world) (sym (step_refused i b o c x ms (same ∙ e))) (rw e h))
      (λ e. rw (same, e) after)

  -- number 1
  station_still : (ms : List (List ℕ)) → ready (b.station i) o c ≡ false → station_takes_b i ms o c b ≡ b
  unfolding station_takes_b
  station_still [] r = refl
  station_still (x ∷ ms) r = step_refused i b o c x ms (rw r)

-- THE SERVER'S CALL

-- a refused call leaves all as it was
pub carry_refused : (n : ℕ) (o q : List ℕ) (b : WorldB) → carry_down_b (refused n b.server o q) b ≡ b
unfolding carry_down_b messages_in
carry_refused n o q b =
    let downs = fun_ext (λ j. append-nil (b.down j)) in
    λ t.
    record {
      server = b.server;
      station = b.station;
      up = b.up;
      down = downs t;
      archive = append-nil b.archive t;
      told = b.told;
      sent_down = append-nil b.sent_down t;
      number = b.number;
      asked = b.asked;
    }

-- what a call that passes number 1 was lent
pub record Lent (s o q : List ℕ) : Type 0 where
  pub state : ServerValid.valid s ≡ true
  pub messages : server_room ≤ length o
  pub records : records_room ≤ length q

pub lent : (s o q : List ℕ) → ServerCall.ready s o q ≡ true → Lent s o q
unfolding ServerCall.ready
lent s o q r =
    let two = ServerValid.valid s && leb server_room (length o) in
    let e : two ≡ true = and_l two (leb records_room (length q)) r in
    record {
      state = and_l (ServerValid.valid s) (leb server_room (length o)) e;
      messages = leb-true _ _ (and_r (ServerValid.valid s) (leb server_room (length o)) e);
      records = leb-true _ _ (and_r two (leb records_room (length q)) r);
    }

module _ (kinds : List ℕ) (size : length kinds ≡ 8) (i : ℕ) (l : i < 8) (b : WorldB) (w : World) (o q : List ℕ) where
  -- numbers 2 to 5 let every message of an up line pass: 6 is the model's
  pub check_is : (x : List ℕ) (u : Up) → Reads kinds i (length x) x u → Lent b.server o q → Sim kinds b w
      → check_step_b x b.server ≡ turned (unexpected i u w.server) 6 0
  unfolding check_step_b
  check_is x u k t h =
      let s = b.server in
      let is = h.line.server in
      let known : kinds_of s ≡ kinds = kinds_read is kinds size h.line.server_kinds in
      let six = unexpected_at is (wanting s t.state) kinds x k.accepted (all_bytes x k.bytes_are) in
      rw (known, k.accepted, six, k.station_is, k.meant)

  -- the message's own effect
  accepts_as : (x : List ℕ) (u : Up) → Reads kinds i (length x) x u → Lent b.server o q → Sim kinds b w → Serves (accept_b x (serving b.server [] [])) (accept i (up_of x) (start w.server))
  accepts_as x u k t h =
      let s = b.server in
      let is = h.line.server in
      let r = valid_ranged s t.state in
      rw k.station_is at (accept_means is (wanting s t.state) (sound_of is t.state) kinds x k.accepted (all_bytes x k.bytes_are) (omega (arith, r.ages_fit)) (omega (arith, r.arrivals_fit)))

  pub accepts : (x : List ℕ) (u : Up) → Reads kinds i (length x) x u → Lent b.server o q → Sim kinds b w → Serves (accept_b x (serving b.server [] [])) (accept i u (start w.server))
  accepts x u k t h = subst (λ (v : Up). Serves (accept_b x (serving b.server [] [])) (accept i v (start w.server))) k.meant (accepts_as x u k t h)

  -- the step
  pub serves : (x : List ℕ) (u : Up) → Reads kinds i (length x) x u → Lent b.server o q → Sim kinds b w → Serves (server_step_b x b.server) (server_step i u w.server)
  serves x u k t h =
      subst (λ (v : Up). Serves (server_step_b x b.server) (server_step i v w.server)) k.meant (step_means x b.server i w.server (accepts_as x u k t h))

  -- what it archives is within the limit
  pub archives : (x : List ℕ) (u : Up) → Reads kinds i (length x) x u → Lent b.server o q → Sim kinds b w → unexpected i u w.server ≡ false
      → All LimitedRec (server_step i u w.server).recs
  archives x u k t h e =
      let names : UpNames u = rw k.meant at (up_names kinds x k.accepted (all_bytes x k.bytes_are)) in
      step_archives i u w.server l names e (fit_of h.line.server (valid_ranged b.server t.state))

  rest_up : (ms : List (List ℕ)) (us : List Up) → AllReads kinds i ms us → Sim kinds b w → Sim kinds (rest_up_lem i ms b) (world_up w (upd w.up i us))
  rest_up ms us k h =
      record {
        line =
            record {
              server = h.line.server;
              server_kinds = h.line.server_kinds;
              stations = h.line.stations;
              ups = λ j. by_eq j i (λ e. rw (e, eqb_yes j i e) k) (λ e. rw e (h.line.ups j));
              downs = h.line.downs;
              records = h.line.records;
              sent = h.line.sent;
            };
        notes = h.notes;
      }

  -- state, messages and records are carried as the model's
  carry_down_lem : (y : Serving) (x : Model.Serving) → Serves y x → x.server.kind ≡ w.server.kind
      → messages_in (laid o q y).messages (laid o q y).sent ≡ y.sent
      → take (laid o q y).archived (laid o q y).records ≡ archive_of (records_of x.recs)
      → Sim kinds b w → Sim kinds (carry_down_b (laid o q y) b) (carry_down x w)
  unfolding carry_down_b carry_down
  carry_down_lem y x s k ms rs h =
      record {
        line =
            record {
              server = s.state;
              server_kinds = λ j m. ap (λ (f : ℕ → ℕ). f j) k ∙ h.line.server_kinds j m;
              stations = h.line.stations;
              ups = h.line.ups;
              downs = λ j. rw ms (down_join j (b.down j) (w.down j) _ _ (h.line.downs j) (sent_to_lem j y.sent x.sent s.sent));
              records = rw (rs, h.line.records) (sym (archive_join w.archive x.recs));
              sent = rw ms (sent_join b.sent_down w.sent_down y.sent x.sent h.line.sent s.sent);
            };
        notes = h.notes;
      }

module _ (kinds : List ℕ) (size : length kinds ≡ 8) (i : ℕ) (l : i < 8) (b : WorldB) (w : World) (o q : List ℕ) where
  server_sim : (ms : List (List ℕ)) (us : List Up) → AllReads kinds i ms us → ServerCall.ready b.server o q ≡ true → Sim kinds b w
      → Sim kinds (server_takes_b i ms o q b) (server_takes i us w).world
  unfolding server_takes_b server_takes server_called
  server_sim [] [] k r h = h
  server_sim [] (u ∷ us) k r h = absurd k
  server_sim (x ∷ ms) [] k r h = absurd k
  server_sim (x ∷ ms) (u ∷ us) k r h =
      let t = lent b.server o q r in
      let check = check_is kinds size i l b w o q x u k.0 t h in
      let s = serves kinds size i l b w o q x u k.0 t h in
      let ms₁ = messages_are s o q t.messages t.records (step_128 i u w.server) in
      by_b (unexpected i u w.server) (λ e. rw (r, check, e, carry_refused 6 o q b) h)
      (λ e.
      let rs₁ = records_are s o q t.messages t.records (step_8 i u w.server l) (archives kinds size i l b w o q x u k.0 t h e) in
      let moved = carry_down_lem kinds size i l (rest_up_lem i ms b) (world_up w (upd w.up i us)) o q _ _ s (server_kind i u w.server) ms₁ rs₁ (rest_up kinds size i l b w o q ms us k.1 h) in
      rw (r, check, e) moved)

  -- number 1
  server_still : (ms : List (List ℕ)) → ServerCall.ready b.server o q ≡ false → server_takes_b i ms o q b ≡ b
  unfolding server_takes_b server_called
  server_still [] r = refl
  server_still (x ∷ ms) r = rw r (carry_refused 1 o q b)

-- EVERY CALL

pub act_sim : (kinds : List ℕ) → length kinds ≡ 8 → kinds_ok kinds ≡ true → (c : CallB) (b : WorldB) (w : World) → Fits c → Sim kinds b w
    → Sim kinds (act_b c b) (act (as_call b c) w).world
unfolding act_b act
act_sim kinds size ok (OwnerB i op o c) b w f h =
    by_b (ready (b.station i) o c)
    (λ r. by_b (ltb i 8) (λ e. rw (r, e) (owner_sim kinds ok i (ltb_yes i 8 e) b w op o c f r h)) (λ e. rw (r, e) h))
    (λ r. by_b (ltb i 8) (λ e. rw (r, e, owner_still kinds ok i (ltb_yes i 8 e) b w op o c r) h) (λ e. rw (r, e) h))
act_sim kinds size ok (ServerTakesB i o q) b w f h =
    by_b (ServerCall.ready b.server o q)
    (λ r. by_b (ltb i 8) (λ e. rw (r, e) (server_sim kinds size i (ltb_yes i 8 e) b w o q (b.up i) (w.up i) (h.line.ups i) r h)) (λ e. rw (r, e) h))
    (λ r. by_b (ltb i 8) (λ e. rw (r, e, server_still kinds size i (ltb_yes i 8 e) b w o q (b.up i) r) h) (λ e. rw (r, e) h))
act_sim kinds size ok (StationTakesB i o c) b w f h =
    by_b (ready (b.station i) o c)
    (λ r. by_b (ltb i 8) (λ e. rw (r, e) (station_sim kinds ok i (ltb_yes i 8 e) b w o c (b.down i) (w.down i) (h.line.downs i) r h)) (λ e. rw (r, e) h))
    (λ r. by_b (ltb i 8) (λ e. rw (r, e, station_still kinds ok i (ltb_yes i 8 e) b w o c (b.down i) r) h) (λ e. rw (r, e) h))
