-- The whole line over bytes: document 01, "What a contract owes", (e). Every call is what its contract says of it (`performB`, `stepB`,
-- `serverCalled`); what is here is the host's: who gets which state, how messages and records are carried, what owners are told.
use Rattle.std.specs.Prelude.{cond, List, [], ◌∷◌, ◌++◌, ℕ, eqb, ltb, get_or, take}
use Rattle.sets.specs.Base.{upd, snoc}
use Rattle.line.specs.Messages.{Answer, Nothing, Begun, Value, Waits, Written, CommittedAs, AbortedFor, Purged, Refused, Empty}
use Rattle.line.specs.Line.{Op, Begin, Told, ToldRead, ToldCommit, ToldAbort, address_of, writes_of, tell_writes, is_refused}
use Rattle.message.specs.Layout.{station_of}
use Rattle.station_state.specs.Valid.{fresh_state}
use Rattle.station_answer.specs.Did as Station
use Rattle.server_state.specs.Valid.{fresh_server}
use Rattle.server_actions.specs.Step.{server_called}
use Rattle.server_actions.specs.Step as Server
use Rattle.call_meaning.specs.Relation.{answer_of}
use Rattle.call_meaning.specs.Buffers.{messages_in, sent_by}
use Rattle.call_meaning.specs.Calls.{perform_b, step_b, OpFits}

-- THE LINE

pub record WorldB : Type 0 where
  pub server : List ℕ  -- its state, as its last call left it
  pub station : ℕ → List ℕ  -- each station's state, as its last call left it
  pub up : ℕ → List (List ℕ)  -- each station's messages on the way to the server, first message first
  pub down : ℕ → List (List ℕ)  -- each station's messages on the way to it
  pub archive : List ℕ  -- the bytes of the records
  pub told : List Told  -- what owners were told, in the order told
  pub sent_down : List (List ℕ)  -- every message ever sent to a station: "Committed: 21 sent. Aborted: 22 sent, .."
  pub number : ℕ → ℕ  -- owner's note: the transaction number told by begin
  pub asked : ℕ → Op  -- owner's note: the operation that "waits"

-- "A fresh line has every value, version and last number 0, nothing open, cached, listed, locked or under way, and an empty archive."
-- The eight stations' kinds come as a list.
abbrev pub fresh_b : List ℕ → WorldB
fresh_b kinds =
    record {
      server = fresh_server kinds;
      station = λ i. fresh_state i (get_or kinds i 0);
      up = λ i. [];
      down = λ i. [];
      archive = [];
      told = [];
      sent_down = [];
      number = λ i. 0;
      asked = λ i. Begin;
    }

-- THE CALLS: "An owner's arguments and all output buffers are any."

pub data CallB : Type 0 where
  OwnerB : ℕ → Op → List ℕ → List ℕ → CallB  -- station, operation; bytes lent for messages, for a commit
  ServerTakesB : ℕ → List ℕ → List ℕ → CallB  -- the server's step on the first message of the station's up line; bytes lent for messages, for records
  StationTakesB : ℕ → List ℕ → List ℕ → CallB  -- the station's step on the first message of its down line; bytes lent for messages, for a commit

-- an argument is a number of its type: a value has 64 bits
abbrev pub Fits : CallB → Type 0
Fits (OwnerB i op o c) = OpFits op
Fits (ServerTakesB i o q) = Unit {0}
Fits (StationTakesB i o c) = Unit {0}

abbrev pub AllFit : List CallB → Type 0
AllFit [] = Unit {0}
AllFit (c ∷ cs) = Fits c × AllFit cs

-- WHAT OWNERS ARE TOLD: "Owners are told a call's answer, after 'waits' the delivery's."

abbrev pub told_b : WorldB → List Told → WorldB
told_b w l =
    record { server = w.server; station = w.station; up = w.up; down = w.down; archive = w.archive; told = l; sent_down = w.sent_down; number = w.number; asked = w.asked }

abbrev pub log_b : WorldB → Told → WorldB
log_b w e = told_b w (snoc w.told e)

abbrev pub noted_b : WorldB → (ℕ → ℕ) → (ℕ → Op) → WorldB
noted_b w n a =
    record { server = w.server; station = w.station; up = w.up; down = w.down; archive = w.archive; told = w.told; sent_down = w.sent_down; number = n; asked = a }

-- station i's owner gets the answer to op
unfoldable pub tell_b : ℕ → Op → Answer → WorldB → WorldB
tell_b i op Nothing w = w
tell_b i op (Begun t) w = noted_b w (upd w.number i t) w.asked
tell_b i op (Value v) w = log_b w (ToldRead i (w.number i) (address_of op) v)
tell_b i op Waits w = noted_b w w.number (upd w.asked i op)
tell_b i op Written w = told_b w (tell_writes i (w.number i) 256 (writes_of op) w.told)
tell_b i op (CommittedAs n) w = log_b w (ToldCommit i (w.number i) n)
tell_b i op (AbortedFor c) w = log_b w (ToldAbort i (w.number i) c)
tell_b i op Purged w = w
tell_b i op (Refused n) w = w
tell_b i op Empty w = w

-- CARRIAGE: "Messages sent join the back of their station's up or down line, records the end of the archive"

-- of the messages, those to station i: "Byte 0 kind, 1 station on the line"
abbrev pub sent_to_b : ℕ → List (List ℕ) → List (List ℕ)
sent_to_b i [] = []
sent_to_b i (m ∷ ms) = cond (eqb i (station_of m)) (m ∷ sent_to_b i ms) (sent_to_b i ms)

-- what is left of station i's line once its first message is taken
abbrev pub rest_up_lem : ℕ → List (List ℕ) → WorldB → WorldB
rest_up_lem i rest w =
    record { server = w.server; station = w.station; up = upd w.up i rest; down = w.down; archive = w.archive; told = w.told; sent_down = w.sent_down; number = w.number; asked = w.asked }

abbrev pub rest_down : ℕ → List (List ℕ) → WorldB → WorldB
rest_down i rest w =
    record { server = w.server; station = w.station; up = w.up; down = upd w.down i rest; archive = w.archive; told = w.told; sent_down = w.sent_down; number = w.number; asked = w.asked }

-- what station i's call left: its state, and what it sent
unfoldable pub carry_up_b : ℕ → Station.Outcome → WorldB → WorldB
carry_up_b i b w =
    record {
      server = w.server;
      station = upd w.station i b.state;
      up = upd w.up i (w.up i ++ sent_by b);
      down = w.down;
      archive = w.archive;
      told = w.told;
      sent_down = w.sent_down;
      number = w.number;
      asked = w.asked;
    }

-- what the server's call left: its state, its messages, its records' bytes
unfoldable pub carry_down_b : Server.Outcome → WorldB → WorldB
carry_down_b b w =
    let ms = messages_in b.messages b.sent in
    record {
      server = b.state;
      station = w.station;
      up = w.up;
      down = λ j. w.down j ++ sent_to_b j ms;
      archive = w.archive ++ take b.archived b.records;
      told = w.told;
      sent_down = w.sent_down ++ ms;
      number = w.number;
      asked = w.asked;
    }

-- A CALL: "Each call gets the state its end's last call left; nobody else writes it". What a call leaves is carried whatever it answers.

unfoldable pub owner_acts_b : ℕ → Op → List ℕ → List ℕ → WorldB → WorldB
owner_acts_b i op o c w = let b = perform_b op (w.station i) o c in tell_b i op (answer_of b.said.answer) (carry_up_b i b w)

-- "an accepted step takes the first message of its line, a refused call moves none"; no message, no call
unfoldable pub station_takes_b : ℕ → List (List ℕ) → List ℕ → List ℕ → WorldB → WorldB
station_takes_b i [] o c w = w
station_takes_b i (m ∷ l) o c w =
    let b = step_b m (w.station i) o c in
    let a = answer_of b.said.answer in
    tell_b i (w.asked i) a (carry_up_b i b (cond (is_refused a) w (rest_down i l w)))

unfoldable pub server_takes_b : ℕ → List (List ℕ) → List ℕ → List ℕ → WorldB → WorldB
server_takes_b i [] o q w = w
server_takes_b i (m ∷ l) o q w = let b = server_called m w.server o q in carry_down_b b (cond (eqb b.number 0) (rest_up_lem i l w) w)

-- "Stations 0 to 7": there is no other to call
unfoldable pub act_b : CallB → WorldB → WorldB
act_b (OwnerB i op o c) w = cond (ltb i 8) (owner_acts_b i op o c w) w
act_b (ServerTakesB i o q) w = cond (ltb i 8) (server_takes_b i (w.up i) o q w) w
act_b (StationTakesB i o c) w = cond (ltb i 8) (station_takes_b i (w.down i) o c w) w

-- any list of calls
unfoldable pub run_b : List CallB → WorldB → WorldB
run_b [] w = w
run_b (c ∷ cs) w = run_b cs (act_b c w)
