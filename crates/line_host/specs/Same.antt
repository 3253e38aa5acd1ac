-- Every call of an exported function is the call of `line_bytes` with the same arguments and buffers; where `told` or `served`, or the values of
-- a set, are too short it is one with no output at all, which number 1 turns back.
use Rattle.std.specs.Prelude.{ℕ, ◌^◌, ◌<◌, ◌≡◌, Bool, true, false, not, ◌||◌, cond, eqb, ltb, length, get_or, take}
use Rattle.std.proofs.Math.Path.{refl}
use Rattle.std.proofs.Common.{sym, ap, ◌∙◌, arith, lt-ltb}
use Rattle.std.proofs.lemmas.Bool.{false≢true}
use mathlib.Core.List.{List, [], ◌∷◌}
use Rattle.sets.specs.Laws.{by_b, by_eq}
use Rattle.line.specs.Line.{Op, Begin, Read, Write, Commits, Aborts, Purges, is_refused}
use Rattle.archive_truth.specs.Fits.{one_fits}
use Rattle.station_answer.specs.declared.Answer.{Answer}
use Rattle.station_answer.specs.declared.Answer.TheVariants.{Refused, Begun, Value, Waits, Written, Committed, Aborted, Purged, Nothing}
use Rattle.station_answer.specs.Did.{Outcome, refuses, laid}
use Rattle.station_state.specs.Valid.{valid}
use Rattle.station_state.specs.Stores.{values_at}
use Rattle.station_owner.specs.Owner.{ready}
use Rattle.server_state.specs.Valid as ServerValid
use Rattle.server_actions.specs.Pass.{server_step_b}
use Rattle.server_actions.specs.Actions.{Serving}
use Rattle.server_actions.specs.Step.{check_step_b, server_called}
use Rattle.server_actions.specs.Step as ServerCall
use Rattle.host.specs.Host as Station
use Rattle.server_host.specs.Host as Server
use Rattle.host.specs.Host.{told_length}
use Rattle.server_host.specs.Host.{served_length}
use Rattle.call_meaning.specs.Relation.{answer_of}
use Rattle.call_meaning.specs.Buffers.{messages_in, sent_by}
use Rattle.call_meaning.specs.Calls.{perform_b, OpFits, step_b}
use Rattle.call_meaning.proofs.Calls.{one_called, set_called, set_fits, owner_unready, step_unready}
use Rattle.line_bytes.specs.Bytes.{WorldB, CallB, OwnerB, ServerTakesB, StationTakesB, Fits, AllFit, rest_up_lem, rest_down, carry_up_b, carry_down_b, owner_acts_b, station_takes_b, server_takes_b, tell_b, act_b, run_b}
use Rattle.line_bytes.specs.Simulates.{carry_none, carry_refused}
use Rattle.line_host.specs.Line.{OpH, BeginH, ReadH, WriteH, WriteSetH, CommitH, AbortH, PurgeH, operation, ArgumentsFit, owner_hosted, step_hosted, server_hosted, answer_in, count_in, sent_in, posted_in, archived_in, carry_up_h, carry_down_h, CallH, OwnerH, StationH, ServerH, FitsH, AllFitH, owner_acts_h, station_takes_h, server_takes_h, line_h, WorldH, act_h, run_h}
use Rattle.line_host.specs.Refusals.{Said, Sure, owner_sure, delivery_sure}

-- THE CALL OF line_bytes

abbrev pub lent : ℕ → List ℕ → List ℕ → List ℕ
lent n t o = cond (ltb (length t) n) [] o

-- a set's values that are fewer than eight
abbrev pub few_values : OpH → Bool
few_values BeginH = false
few_values (ReadH a) = false
few_values (WriteH a v) = false
few_values (WriteSetH p x f) = ltb (length f) 8
few_values CommitH = false
few_values AbortH = false
few_values (PurgeH p) = false

-- what an owner's call lacks, beside its output: `told`, or values
abbrev pub lacks : OpH → List ℕ → Bool
lacks op t = few_values op || ltb (length t) told_length

abbrev pub lent_to : OpH → List ℕ → List ℕ → List ℕ
lent_to op t o = cond (lacks op t) [] o

abbrev pub plain_of : CallH → CallB
plain_of (OwnerH i op o c t) = OwnerB i (operation op) (lent_to op t o) (lent_to op t c)
plain_of (StationH i o c t) = StationTakesB i (lent told_length t o) (lent told_length t c)
plain_of (ServerH i o q t) = ServerTakesB i (lent served_length t o) (lent served_length t q)

abbrev pub plains_of : List CallH → List CallB
plains_of [] = []
plains_of (c ∷ cs) = plain_of c ∷ plains_of cs

eight_fit : (f : List ℕ) → ((o : ℕ) → get_or f o 0 < 2 ^ 64) → (o : ℕ) → o < 8 → get_or (Station.eight_of f) o 0 < 2 ^ 64
unfolding Station.eight_of
eight_fit f l o lo = rw (values_at (λ o. get_or f o 0) 8 o (omega arith) lo) (l o)

pub op_fits : (op : OpH) → ArgumentsFit op → OpFits (operation op)
op_fits BeginH f = f
op_fits (ReadH a) f = f
op_fits (WriteH a v) f = one_fits a v f
op_fits (WriteSetH p x f) l = set_fits p x (Station.eight_of f) (eight_fit f l)
op_fits CommitH f = f
op_fits AbortH f = f
op_fits (PurgeH p) f = f

pub plain_fits : (c : CallH) → FitsH c → Fits (plain_of c)
plain_fits (OwnerH i op o c t) f = op_fits op f
plain_fits (StationH i o c t) f = f
plain_fits (ServerH i o q t) f = f

pub plains_fit : (cs : List CallH) → AllFitH cs → AllFit (plains_of cs)
plains_fit [] f = tt
plains_fit (c ∷ cs) f = (plain_fits c f.0, plains_fit cs f.1)

-- WHAT A HOST READS IS WHAT WAS SAID

-- what the numbers tell of a call that said this
record Heard (x : Station.Told) (a : Answer) (n k : ℕ) : Type 0 where
  answer : answer_in x ≡ answer_of a
  messages : count_in x.number x.out 2 ≡ n
  commit : count_in x.number x.out 3 ≡ k
  accepted : eqb x.number 0 ≡ not (is_refused (answer_of a))

accepted_heard : {x : Station.Told} (a : Answer) {n k : ℕ} → eqb x.number 0 ≡ true → answer_in x ≡ answer_of a → is_refused (answer_of a) ≡ false → get_or x.out 2 0 ≡ n → get_or x.out 3 0 ≡ k → Heard x a n k
accepted_heard a z e r n k = record { answer = e; messages = rw z n; commit = rw z k; accepted = rw (z, r) }

heard : (t : List ℕ) → ltb (length t) told_length ≡ false → (a : Answer) (n k : ℕ) → Said a n k → Heard (Station.told_of t n k a) a n k
heard [] l a n k s = absurd (false≢true (sym l))
heard (x ∷ []) l a n k s = absurd (false≢true (sym l))
heard (x ∷ y ∷ []) l a n k s = absurd (false≢true (sym l))
heard (x ∷ y ∷ z ∷ []) l a n k s = absurd (false≢true (sym l))
heard (x ∷ y ∷ z ∷ u ∷ t) l (Refused m) n k s =
    record { answer = rw s.0; messages = rw (s.0, s.1); commit = rw (s.0, s.2); accepted = s.0 }
heard (x ∷ y ∷ z ∷ u ∷ t) l (Begun m) n k s = accepted_heard (Begun m) refl refl refl refl refl
heard (x ∷ y ∷ z ∷ u ∷ t) l (Value v) n k s = accepted_heard (Value v) refl refl refl refl refl
heard (x ∷ y ∷ z ∷ u ∷ t) l Waits n k s = accepted_heard Waits refl refl refl refl refl
heard (x ∷ y ∷ z ∷ u ∷ t) l Written n k s = accepted_heard Written refl refl refl refl refl
heard (x ∷ y ∷ z ∷ u ∷ t) l (Committed m) n k s = accepted_heard (Committed m) refl refl refl refl refl
heard (x ∷ y ∷ z ∷ u ∷ t) l (Aborted c) n k s = accepted_heard (Aborted c) refl refl refl refl refl
heard (x ∷ y ∷ z ∷ u ∷ t) l Purged n k s = accepted_heard Purged refl refl refl refl refl
heard (x ∷ y ∷ z ∷ u ∷ t) l Nothing n k s = accepted_heard Nothing refl refl refl refl refl

-- a call as its host finds it, and as it was made
pub record Found (h : Station.Hosted) (x : Outcome) : Type 0 where
  pub state : h.state ≡ x.state
  pub answer : answer_in h.told ≡ answer_of x.said.answer
  pub sent : sent_in h ≡ sent_by x
  pub accepted : eqb h.told.number 0 ≡ not (is_refused (answer_of x.said.answer))

module _ (s o c t : List ℕ) where
  -- "output is under ..": number 1 of `told`, and nothing lent is changed
  pub short_told : (x : Outcome) → ltb (length t) told_length ≡ true → Station.host_of s o c t x ≡ Station.hosted s o c t 1
  unfolding Station.host_of
  short_told x l = rw l

  made_found : (x : Outcome) → Sure x → ltb (length t) told_length ≡ false → Found (Station.host_of s o c t x) x
  unfolding Station.host_of Station.told_said
  made_found x q l =
      let h = heard t l x.said.answer x.said.messages x.said.commit q in
      rw l (record { state = refl; answer = h.answer; sent = rw (h.messages, h.commit); accepted = h.accepted })

  short_found : (x : Outcome) → ltb (length t) told_length ≡ true → Found (Station.host_of s o c t x) (laid [] [] (refuses 1 s))
  unfolding messages_in
  short_found x l = rw (short_told x l) (record { state = refl; answer = refl; sent = refl; accepted = refl })

-- no output: number 1
pub no_room : (s : List ℕ) → ready s [] [] ≡ false
unfolding ready
no_room s = by_b (valid s) (λ e. rw e) (λ e. rw e)

abbrev pub SameCall : (List ℕ → List ℕ → List ℕ → Outcome) → Type 0
SameCall f = (s o c t : List ℕ) → Found (Station.host_of s o c t (f s o c)) (f s (lent told_length t o) (lent told_length t c))

pub same_call : (f : List ℕ → List ℕ → List ℕ → Outcome) → ((s o c : List ℕ) → Sure (f s o c)) → ((s o c : List ℕ) → ready s o c ≡ false → f s o c ≡ laid o c (refuses 1 s)) → SameCall f
same_call f q u s o c t =
    by_b (ltb (length t) told_length)
    (λ l. rw (l, u s [] [] (no_room s)) (short_found s o c t (f s o c) l))
    (λ l. rw l (made_found s o c t (f s o c) (q s o c) l))

-- a set's values: with fewer than eight the call is none
module _ (p x : ℕ) (f : List ℕ) where
  abbrev set : OpH
  set = WriteSetH p x f

  set_few : (s o c t : List ℕ) → ltb (length f) 8 ≡ true → owner_hosted set s o c t ≡ Station.hosted s o c t 1
  unfolding Station.host_set_of
  set_few s o c t e = rw e

  set_lent : (s o c t : List ℕ) → ltb (length f) 8 ≡ false → owner_hosted set s o c t ≡ Station.host_of s o c t (perform_b (operation set) s o c)
  unfolding Station.host_set_of
  set_lent s o c t e = rw e (ap (Station.host_of s o c t) (set_called p x (Station.eight_of f) s o c))

  set_found : (s o c t : List ℕ) → Found (owner_hosted set s o c t) (perform_b (operation set) s (lent_to set t o) (lent_to set t c))
  unfolding messages_in
  set_found s o c t =
      by_b (ltb (length f) 8)
      (λ e. rw (e, set_few s o c t e, owner_unready (operation set) s [] [] (no_room s)) (record { state = refl; answer = refl; sent = refl; accepted = refl }))
      (λ e. rw (e, set_lent s o c t e) (same_call (perform_b (operation set)) (λ s o c. owner_sure s o c (operation set)) (owner_unready (operation set)) s o c t))

pub owner_found : (op : OpH) (s o c t : List ℕ) → Found (owner_hosted op s o c t) (perform_b (operation op) s (lent_to op t o) (lent_to op t c))
owner_found BeginH = same_call (perform_b Begin) (λ s o c. owner_sure s o c Begin) (owner_unready Begin)
owner_found (ReadH a) = same_call (perform_b (Read a)) (λ s o c. owner_sure s o c (Read a)) (owner_unready (Read a))
owner_found (WriteH a v) =
    λ s o c t. rw (one_called a v s o c) (same_call (perform_b (Write a v)) (λ s o c. owner_sure s o c (Write a v)) (owner_unready (Write a v)) s o c t)
owner_found (WriteSetH p x f) = set_found p x f
owner_found CommitH = same_call (perform_b Commits) (λ s o c. owner_sure s o c Commits) (owner_unready Commits)
owner_found AbortH = same_call (perform_b Aborts) (λ s o c. owner_sure s o c Aborts) (owner_unready Aborts)
owner_found (PurgeH p) = same_call (perform_b (Purges p)) (λ s o c. owner_sure s o c (Purges p)) (owner_unready (Purges p))

pub step_found : (x s o c t : List ℕ) → Found (step_hosted x s o c t) (step_b x s (lent told_length t o) (lent told_length t c))
step_found x = same_call (step_b x) (λ s o c. delivery_sure s o c x) (step_unready x)

-- the server's
pub record Posted (h : Server.Hosted) (x : ServerCall.Outcome) : Type 0 where
  pub state : h.state ≡ x.state
  pub sent : posted_in h ≡ messages_in x.messages x.sent
  pub archived : archived_in h ≡ take x.archived x.records
  pub accepted : eqb h.told.number 0 ≡ eqb x.number 0

module _ (s o q t : List ℕ) where
  pub short_served : (x : ServerCall.Outcome) → ltb (length t) served_length ≡ true → Server.host_of s o q t x ≡ Server.hosted s o q t 1
  unfolding Server.host_of
  short_served x l = rw l

  short_posted : (x : ServerCall.Outcome) → ltb (length t) served_length ≡ true → Posted (Server.host_of s o q t x) (ServerCall.refused 1 s [] [])
  unfolding messages_in
  short_posted x l = rw (short_served x l) (record { state = refl; sent = refl; archived = refl; accepted = refl })

  -- a refusal with a number
  refused_posted : (n : ℕ) → eqb n 0 ≡ false → ltb (length t) served_length ≡ false → Posted (Server.host_of s o q t (ServerCall.refused n s o q)) (ServerCall.refused n s o q)
  unfolding Server.host_of messages_in
  refused_posted n e l = rw l (record { state = refl; sent = rw e; archived = rw e; accepted = refl })

counted_posted : (s o q t : List ℕ) (y : Serving) → ltb (length t) served_length ≡ false → Posted (Server.host_of s o q t (ServerCall.laid o q y)) (ServerCall.laid o q y)
unfolding Server.host_of
counted_posted s o q [] y l = absurd (false≢true (sym l))
counted_posted s o q (a ∷ []) y l = absurd (false≢true (sym l))
counted_posted s o q (a ∷ b ∷ t) y l = rw l (record { state = refl; sent = refl; archived = refl; accepted = refl })

no_room_server : (s : List ℕ) → ServerCall.ready s [] [] ≡ false
unfolding ServerCall.ready
no_room_server s = by_b (ServerValid.valid s) (λ e. rw e) (λ e. rw e)

made_posted : (m s o q t : List ℕ) → ltb (length t) served_length ≡ false → Posted (server_hosted m s o q t) (server_called m s o q)
unfolding server_called
made_posted m s o q t l =
    let n = check_step_b m s in
    by_b (ServerCall.ready s o q)
    (λ r. rw r (by_eq n 0 (λ e. rw e (counted_posted s o q t (server_step_b m s) l)) (λ e. rw e (refused_posted s o q t n e l))))
    (λ r. rw r (refused_posted s o q t 1 refl l))

pub server_found : (m s o q t : List ℕ) → Posted (server_hosted m s o q t) (server_called m s (lent served_length t o) (lent served_length t q))
unfolding server_called
server_found m s o q t =
    by_b (ltb (length t) served_length)
    (λ l. rw (l, no_room_server s) (short_posted s o q t _ l))
    (λ l. rw l (made_posted m s o q t l))

-- EVERY CALL

pub carry_up_same : (i : ℕ) (h : Station.Hosted) (x : Outcome) (w : WorldB) → Found h x → carry_up_h i h w ≡ carry_up_b i x w
unfolding carry_up_h carry_up_b
carry_up_same i h x w f = rw (f.state, f.sent)

carry_down_same : (h : Server.Hosted) (x : ServerCall.Outcome) (w : WorldB) → Posted h x → carry_down_h h w ≡ carry_down_b x w
unfolding carry_down_h carry_down_b
carry_down_same h x w f = rw (f.state, f.sent, f.archived)

pub owner_same : (i : ℕ) (op : OpH) (o c t : List ℕ) (w : WorldB) → owner_acts_h i op o c t w ≡ owner_acts_b i (operation op) (lent_to op t o) (lent_to op t c) w
unfolding owner_acts_h owner_acts_b
owner_same i op o c t w =
    let f = owner_found op (w.station i) o c t in
    rw (f.answer, carry_up_same i _ _ w f)

pub station_same : (i : ℕ) (ms : List (List ℕ)) (o c t : List ℕ) (w : WorldB) → station_takes_h i ms o c t w ≡ station_takes_b i ms (lent told_length t o) (lent told_length t c) w
unfolding station_takes_h station_takes_b
station_same i [] o c t w = refl
station_same i (m ∷ l) o c t w =
    let f = step_found m (w.station i) o c t in
    by_b (is_refused (answer_of (step_b m (w.station i) (lent told_length t o) (lent told_length t c)).said.answer))
    (λ e. rw (f.answer, f.accepted, e, carry_up_same i _ _ w f))
    (λ e. rw (f.answer, f.accepted, e, carry_up_same i _ _ (rest_down i l w) f))

server_same : (i : ℕ) (ms : List (List ℕ)) (o q t : List ℕ) (w : WorldB) → server_takes_h i ms o q t w ≡ server_takes_b i ms (lent served_length t o) (lent served_length t q) w
unfolding server_takes_h server_takes_b
server_same i [] o q t w = refl
server_same i (m ∷ l) o q t w =
    let f = server_found m w.server o q t in
    rw (f.accepted, carry_down_same _ _ (cond (eqb (server_called m w.server (lent served_length t o) (lent served_length t q)).number 0) (rest_up_lem i l w) w) f)

pub act_same : (c : CallH) (w : WorldB) → line_h c w ≡ act_b (plain_of c) w
unfolding line_h act_b
act_same (OwnerH i op o c t) w = rw (owner_same i op o c t w)
act_same (StationH i o c t) w = rw (station_same i (w.down i) o c t w)
act_same (ServerH i o q t) w = rw (server_same i (w.up i) o q t w)

-- every list of calls of the exported functions is, on the line, the list of `line_bytes`
pub run_same : (cs : List CallH) (w : WorldH) → (run_h cs w).line ≡ run_b (plains_of cs) w.line
unfolding run_h run_b
run_same [] w = refl
run_same (c ∷ cs) w = run_same cs (act_h c w) ∙ ap (run_b (plains_of cs)) (act_same c w.line)

-- TOO SHORT: a call whose `told` or `served`, or whose set's values, are too short is a call like any other. It answers 1 (`short-told`, `set-few`,
-- `short-served`) and leaves the line as it was.

abbrev pub Short : CallH → Type 0
Short (OwnerH i op o c t) = lacks op t ≡ true
Short (StationH i o c t) = length t < told_length
Short (ServerH i o q t) = length t < served_length

module _ (i : ℕ) (w : WorldB) (h : Station.Hosted) (f : Found h (laid [] [] (refuses 1 (w.station i)))) where
  -- number 1: nothing to carry, and nothing to tell
  still : (op : Op) → tell_b i op (answer_in h.told) (carry_up_h i h w) ≡ w
  unfolding tell_b messages_in
  still op = rw f.answer (carry_up_same i h _ w f ∙ carry_none i (laid [] [] (refuses 1 (w.station i))) w refl refl)

owner_short : (i : ℕ) (op : OpH) (o c t : List ℕ) (w : WorldB) → lacks op t ≡ true → owner_acts_h i op o c t w ≡ w
unfolding owner_acts_h
owner_short i op o c t w l =
    let s = w.station i in
    let f : Found (owner_hosted op s o c t) (laid [] [] (refuses 1 s)) = rw (l, owner_unready (operation op) s [] [] (no_room s)) at (owner_found op s o c t) in
    still i w (owner_hosted op s o c t) f (operation op)

station_short : (i : ℕ) (ms : List (List ℕ)) (o c t : List ℕ) (w : WorldB) → ltb (length t) told_length ≡ true → station_takes_h i ms o c t w ≡ w
unfolding station_takes_h
station_short i [] o c t w l = refl
station_short i (m ∷ ms) o c t w l =
    let s = w.station i in
    let h = step_hosted m s o c t in
    let f = short_found s o c t (step_b m s o c) l in
    let stays : cond (eqb h.told.number 0) (rest_down i ms w) w ≡ w = rw f.accepted in
    ap (λ (z : WorldB). tell_b i (w.asked i) (answer_in h.told) (carry_up_h i h z)) stays ∙ still i w h f (w.asked i)

server_short : (i : ℕ) (ms : List (List ℕ)) (o q t : List ℕ) (w : WorldB) → ltb (length t) served_length ≡ true → server_takes_h i ms o q t w ≡ w
unfolding server_takes_h
server_short i [] o q t w l = refl
server_short i (m ∷ ms) o q t w l =
    let f = short_posted w.server o q t (server_called m w.server o q) l in
    rw f.accepted (carry_down_same (server_hosted m w.server o q t) _ w f ∙ carry_refused 1 [] [] w)

pub short_still : (c : CallH) (w : WorldB) → Short c → line_h c w ≡ w
unfolding line_h
short_still (OwnerH i op o c t) w l = by_b (ltb i 8) (λ e. rw e (owner_short i op o c t w l)) (λ e. rw e)
short_still (StationH i o c t) w l = by_b (ltb i 8) (λ e. rw e (station_short i (w.down i) o c t w (lt-ltb (length t) told_length l))) (λ e. rw e)
short_still (ServerH i o q t) w l = by_b (ltb i 8) (λ e. rw e (server_short i (w.up i) o q t w (lt-ltb (length t) served_length l))) (λ e. rw e)
