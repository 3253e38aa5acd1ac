-- The whole line as its hosts run it: document 01, "What a contract owes", (e). A call is a call of an exported function, and what it leaves
-- is the term that the function's contract cites. What a host carries, and what an owner is told, is read from the number answered and
-- from the numbers that the call left in `told` or `served`, and from nothing else.
use Rattle.std.specs.Prelude.{ℕ, ◌^◌, ◌<◌, not, ◌&&◌, cond, List, [], ◌∷◌, ◌++◌, eqb, ltb, length, get_or, take}
use Rattle.sets.specs.Base.{upd}
use Rattle.line.specs.Messages.{Answer, Nothing, Begun, Value, Waits, Written, CommittedAs, AbortedFor, Purged, Refused, Empty}
use Rattle.line.specs.Line.{Op, Begin, Read, Write, WriteSet, Commits, Aborts, Purges}
use Rattle.message.specs.Layout.{kind_of}
use Rattle.station_state.specs.Layout.{number}
use Rattle.station_answer.specs.Ask.{open_b}
use Rattle.station_owner.specs.Owner.{called, commit_called, own_begin_b, own_read_b, own_write_set_b, own_write_b, own_abort_b, own_purge_b}
use Rattle.station.specs.Station.{station_step_b}
use Rattle.host.specs.Host as Station
use Rattle.server_actions.specs.Step.{server_called}
use Rattle.server_host.specs.Host as Server
use Rattle.call_meaning.specs.Buffers.{messages_in, commit_in}
use Rattle.call_meaning.specs.Calls.{set_op}
use Rattle.line_bytes.specs.Bytes.{WorldB, fresh_b, tell_b, sent_to_b, rest_up_lem, rest_down}

-- AN OWNER'S CALL: the function of its name, with its arguments

pub data OpH : Type 0 where
  BeginH : OpH  -- wax_station_begin
  ReadH : ℕ → OpH  -- wax_station_read: address
  WriteH : ℕ → ℕ → OpH  -- wax_station_write: address, value
  WriteSetH : ℕ → ℕ → List ℕ → OpH  -- wax_station_write_set: page, set, values
  CommitH : OpH  -- wax_station_commit
  AbortH : OpH  -- wax_station_abort
  PurgeH : ℕ → OpH  -- wax_station_purge: page

-- the operation that it asks for
abbrev pub operation : OpH → Op
operation BeginH = Begin
operation (ReadH a) = Read a
operation (WriteH a v) = Write a v
operation (WriteSetH p x f) = set_op p x (Station.eight_of f)
operation CommitH = Commits
operation AbortH = Aborts
operation (PurgeH p) = Purges p

-- an argument is a number of its type: a value has 64 bits
abbrev pub ArgumentsFit : OpH → Type 0
ArgumentsFit BeginH = Unit {0}
ArgumentsFit (ReadH a) = Unit {0}
ArgumentsFit (WriteH a v) = v < 2 ^ 64
ArgumentsFit (WriteSetH p x f) = (o : ℕ) → get_or f o 0 < 2 ^ 64
ArgumentsFit CommitH = Unit {0}
ArgumentsFit AbortH = Unit {0}
ArgumentsFit (PurgeH p) = Unit {0}

-- THE FUNCTIONS: what each leaves of all that is lent to it, as its contract says (crates/host/src/lib.rt, crates/server_host/src/lib.rt)

-- of an owner: state; messages, commit, told
abbrev pub owner_hosted : OpH → List ℕ → List ℕ → List ℕ → List ℕ → Station.Hosted
owner_hosted BeginH s o c t = Station.host_of s o c t (called s o c (own_begin_b s))
owner_hosted (ReadH a) s o c t = Station.host_of s o c t (called s o c (own_read_b a s))
owner_hosted (WriteH a v) s o c t = Station.host_of s o c t (called s o c (own_write_b a v s))
owner_hosted (WriteSetH p x f) s o c t = Station.host_set_of f s o c t (called s o c (own_write_set_b p x (Station.eight_of f) s))
owner_hosted CommitH s o c t = Station.host_of s o c t (commit_called s o c)
owner_hosted AbortH s o c t = Station.host_of s o c t (called s o c (own_abort_b s))
owner_hosted (PurgeH p) s o c t = Station.host_of s o c t (called s o c (own_purge_b p s))

-- wax_station_step: message, state; messages, commit, told
abbrev pub step_hosted : List ℕ → List ℕ → List ℕ → List ℕ → List ℕ → Station.Hosted
step_hosted m s o c t = Station.host_of s o c t (called s o c (station_step_b m s))

-- wax_server_step: message, state; messages, records, served
abbrev pub server_hosted : List ℕ → List ℕ → List ℕ → List ℕ → List ℕ → Server.Hosted
server_hosted m s o q t = Server.host_of s o q t (server_called m s o q)

-- WHAT A HOST READS: the number answered, and where it is 0 the numbers left

-- told[0] with told[1]: WAX_BEGUN to WAX_NOTHING of the header
abbrev pub answer_as : ℕ → ℕ → Answer
answer_as a v =
    cond (eqb a 1) (Begun v)
    (cond (eqb a 2) (Value v)
    (cond (eqb a 3) Waits
    (cond (eqb a 4) Written
    (cond (eqb a 5) (CommittedAs v)
    (cond (eqb a 6) (AbortedFor v)
    (cond (eqb a 7) Purged Nothing))))))

abbrev pub answer_in : Station.Told → Answer
answer_in x = cond (eqb x.number 0) (answer_as (get_or x.out 0 0) (get_or x.out 1 0)) (Refused x.number)

-- a count that a call answering this number left in this place
abbrev pub count_in : ℕ → List ℕ → ℕ → ℕ
count_in n t k = cond (eqb n 0) (get_or t k 0) 0

-- told[2] messages, and told[3] bytes of a commit
abbrev pub sent_in : Station.Hosted → List (List ℕ)
sent_in h =
    let n = h.told.number in
    let t = h.told.out in
    messages_in h.messages (count_in n t 2) ++ commit_in h.commit (count_in n t 3)

-- served[0] messages, served[1] bytes of records
abbrev pub posted_in : Server.Hosted → List (List ℕ)
posted_in h = messages_in h.messages (count_in h.told.number h.told.out 0)

abbrev pub archived_in : Server.Hosted → List ℕ
archived_in h = take (count_in h.told.number h.told.out 1) h.records

-- CARRIAGE: "Messages sent join the back of their station's up or down line, records the end of the archive"

-- what station i's call left
unfoldable pub carry_up_h : ℕ → Station.Hosted → WorldB → WorldB
carry_up_h i h w =
    record {
      server = w.server;
      station = upd w.station i h.state;
      up = upd w.up i (w.up i ++ sent_in h);
      down = w.down;
      archive = w.archive;
      told = w.told;
      sent_down = w.sent_down;
      number = w.number;
      asked = w.asked;
    }

-- what the server's call left
unfoldable pub carry_down_h : Server.Hosted → WorldB → WorldB
carry_down_h h w =
    let ms = posted_in h in
    record {
      server = h.state;
      station = w.station;
      up = w.up;
      down = λ j. w.down j ++ sent_to_b j ms;
      archive = w.archive ++ archived_in h;
      told = w.told;
      sent_down = w.sent_down ++ ms;
      number = w.number;
      asked = w.asked;
    }

-- THE CALLS: "An owner's arguments and all output buffers are any.": `told` and `served` among them

pub data CallH : Type 0 where
  OwnerH : ℕ → OpH → List ℕ → List ℕ → List ℕ → CallH  -- station, call; lent for messages, for a commit, told
  StationH : ℕ → List ℕ → List ℕ → List ℕ → CallH  -- wax_station_step on the first message of its down line; lent for messages, for a commit, told
  ServerH : ℕ → List ℕ → List ℕ → List ℕ → CallH  -- wax_server_step on the first message of the station's up line; lent for messages, for records, served

abbrev pub FitsH : CallH → Type 0
FitsH (OwnerH i op o c t) = ArgumentsFit op
FitsH (StationH i o c t) = Unit {0}
FitsH (ServerH i o q t) = Unit {0}

abbrev pub AllFitH : List CallH → Type 0
AllFitH [] = Unit {0}
AllFitH (c ∷ cs) = FitsH c × AllFitH cs

-- A CALL: "Each call gets the state its end's last call left; nobody else writes it". What a call leaves is carried whatever it answers.

unfoldable pub owner_acts_h : ℕ → OpH → List ℕ → List ℕ → List ℕ → WorldB → WorldB
owner_acts_h i op o c t w = let h = owner_hosted op (w.station i) o c t in tell_b i (operation op) (answer_in h.told) (carry_up_h i h w)

-- "an accepted step takes the first message of its line, a refused call moves none"; no message, no call
unfoldable pub station_takes_h : ℕ → List (List ℕ) → List ℕ → List ℕ → List ℕ → WorldB → WorldB
station_takes_h i [] o c t w = w
station_takes_h i (m ∷ l) o c t w =
    let h = step_hosted m (w.station i) o c t in
    tell_b i (w.asked i) (answer_in h.told) (carry_up_h i h (cond (eqb h.told.number 0) (rest_down i l w) w))

unfoldable pub server_takes_h : ℕ → List (List ℕ) → List ℕ → List ℕ → List ℕ → WorldB → WorldB
server_takes_h i [] o q t w = w
server_takes_h i (m ∷ l) o q t w = let h = server_hosted m w.server o q t in carry_down_h h (cond (eqb h.told.number 0) (rest_up_lem i l w) w)

-- "Stations 0 to 7": there is no other to call
unfoldable pub line_h : CallH → WorldB → WorldB
line_h (OwnerH i op o c t) w = cond (ltb i 8) (owner_acts_h i op o c t w) w
line_h (StationH i o c t) w = cond (ltb i 8) (station_takes_h i (w.down i) o c t w) w
line_h (ServerH i o q t) w = cond (ltb i 8) (server_takes_h i (w.up i) o q t w) w

-- WHAT HAPPENED, call by call

pub data Event : Type 0 where
  Began : ℕ → ℕ → Event  -- station, transaction: its owner was told "begun"
  Asked : ℕ → ℕ → Event  -- station, transaction: its owner asked for its commit, and was told "waits"
  Ended : ℕ → ℕ → ℕ → Event  -- station, transaction, kind: open before the step on a message of this kind, and not open behind it
  EndedByOwner : ℕ → ℕ → Event  -- station, transaction: open before its owner's call, and not open behind it
  Archived : ℕ → ℕ → Event  -- a step of the server: the archive's length before it and behind it

abbrev pub asked_by : ℕ → Op → ℕ → List Event
asked_by i Begin n = []
asked_by i (Read a) n = []
asked_by i (WriteSet p f) n = []
asked_by i Commits n = Asked i n ∷ []
asked_by i Aborts n = []
asked_by i (Purges p) n = []

-- what owner i, whose transaction is n by its own note, is told of op
abbrev pub told_by : ℕ → Op → ℕ → Answer → List Event
told_by i op n Nothing = []
told_by i op n (Begun t) = Began i t ∷ []
told_by i op n (Value v) = []
told_by i op n Waits = asked_by i op n
told_by i op n Written = []
told_by i op n (CommittedAs k) = []
told_by i op n (AbortedFor c) = []
told_by i op n Purged = []
told_by i op n (Refused k) = []
told_by i op n Empty = []

-- of the state before a call and the state behind it: the transaction that was open is no longer
abbrev pub ended : (ℕ → Event) → List ℕ → List ℕ → List Event
ended e s z = cond (open_b s && not (open_b z)) (e (number s) ∷ []) []

abbrev pub owner_events : ℕ → OpH → List ℕ → List ℕ → List ℕ → WorldB → List Event
owner_events i op o c t w =
    let h = owner_hosted op (w.station i) o c t in
    told_by i (operation op) (w.number i) (answer_in h.told) ++ ended (EndedByOwner i) (w.station i) h.state

abbrev pub station_events : ℕ → List (List ℕ) → List ℕ → List ℕ → List ℕ → WorldB → List Event
station_events i [] o c t w = []
station_events i (m ∷ l) o c t w = ended (λ n. Ended i n (kind_of m)) (w.station i) (step_hosted m (w.station i) o c t).state

abbrev pub server_events : List (List ℕ) → List ℕ → List ℕ → List ℕ → WorldB → List Event
server_events [] o q t w = []
server_events (m ∷ l) o q t w =
    let h = server_hosted m w.server o q t in
    cond (eqb h.told.number 0) (Archived (length w.archive) (length (w.archive ++ archived_in h)) ∷ []) []

-- where a call is refused nothing happened
abbrev pub events_h : CallH → WorldB → List Event
events_h (OwnerH i op o c t) w = cond (ltb i 8) (owner_events i op o c t w) []
events_h (StationH i o c t) w = cond (ltb i 8) (station_events i (w.down i) o c t w) []
events_h (ServerH i o q t) w = cond (ltb i 8) (server_events (w.up i) o q t w) []

-- THE LINE AND ITS HISTORY

pub record WorldH : Type 0 where
  pub line : WorldB
  pub history : List Event  -- first event first

abbrev pub fresh_h : List ℕ → WorldH
fresh_h kinds = record { line = fresh_b kinds; history = [] }

abbrev pub act_h : CallH → WorldH → WorldH
act_h c w = record { line = line_h c w.line; history = w.history ++ events_h c w.line }

-- any list of calls
unfoldable pub run_h : List CallH → WorldH → WorldH
run_h [] w = w
run_h (c ∷ cs) w = run_h cs (act_h c w)
