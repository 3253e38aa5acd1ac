-- The whole line: server, stations, up and down lines, the archive, and what owners are told. `run` goes through a list of calls.
use Rattle.std.specs.Prelude.{Bool, true, false, cond, List, [], ◌∷◌, ◌++◌, ℕ, zero, suc, ◌+◌, eqb, ltb}
use Rattle.sets.specs.Base.{upd, snoc, Val, none, some, none_at}
use Rattle.line.specs.Messages.{page_of, Up, Down, Sent, To, Rec, Answer, Nothing, Begun, Value, Waits, Written, CommittedAs, AbortedFor, Purged, Refused, Empty}
use Rattle.line.specs.Station.{Station, fresh_station, Did, own_begin, own_read, of_page, own_write, own_commit, own_abort, own_purge, station_step}
use Rattle.line.specs.Server.{Server, fresh_server, Serving, server_step, unexpected}

-- an owner's operation
pub data Op : Type 0 where
  Begin : Op
  Read : ℕ → Op  -- address
  WriteSet : ℕ → (ℕ → Val) → Op  -- page; a value for each object, by address
  Commits : Op
  Aborts : Op
  Purges : ℕ → Op  -- page

-- the owner's write of one object is that of the set of one
abbrev pub one_at : ℕ → ℕ → ℕ → Val
one_at a v b = cond (eqb b a) (some v) none

abbrev pub Write : ℕ → ℕ → Op
Write a v = WriteSet (page_of a) (one_at a v)

-- a call; whatever it is, it is in the list. Bytes that are no message (numbers 2 to 5; 1 of a buffer) come as their number.
pub data Call : Type 0 where
  Owner : ℕ → Op → Call
  ServerTakes : ℕ → Call  -- the server's step on the first message of the station's up line
  StationTakes : ℕ → Call  -- the station's step on the first message of its down line
  Broken : ℕ → Call  -- a call turned back with this number before the model's rules are reached

-- what an owner was told: station, transaction, and ..
pub data Told : Type 0 where
  ToldRead : ℕ → ℕ → ℕ → ℕ → Told  -- address, value
  ToldWrite : ℕ → ℕ → ℕ → ℕ → Told  -- address, value
  ToldCommit : ℕ → ℕ → ℕ → Told  -- commit number
  ToldAbort : ℕ → ℕ → ℕ → Told  -- cause, 0 for its own abort

pub record World : Type 0 where
  pub server : Server
  pub station : ℕ → Station
  pub up : ℕ → List Up  -- first message first
  pub down : ℕ → List Down
  pub archive : List Rec  -- first record first
  pub told : List Told  -- in the order told
  pub sent_down : List Sent  -- every message ever sent to a station: "Committed: 21 sent. Aborted: 22 sent, ..."
  pub number : ℕ → ℕ  -- owner's note: the transaction number told by begin
  pub asked : ℕ → Op  -- owner's note: the operation that "waits"

abbrev pub world_server : World → (Server) → World
world_server s x = record { server = x; station = s.station; up = s.up; down = s.down; archive = s.archive; told = s.told; sent_down = s.sent_down; number = s.number; asked = s.asked }

abbrev pub world_station : World → (ℕ → Station) → World
world_station s x = record { server = s.server; station = x; up = s.up; down = s.down; archive = s.archive; told = s.told; sent_down = s.sent_down; number = s.number; asked = s.asked }

abbrev pub world_up : World → (ℕ → List Up) → World
world_up s x = record { server = s.server; station = s.station; up = x; down = s.down; archive = s.archive; told = s.told; sent_down = s.sent_down; number = s.number; asked = s.asked }

abbrev pub world_down : World → (ℕ → List Down) → World
world_down s x = record { server = s.server; station = s.station; up = s.up; down = x; archive = s.archive; told = s.told; sent_down = s.sent_down; number = s.number; asked = s.asked }

abbrev pub world_archive : World → (List Rec) → World
world_archive s x = record { server = s.server; station = s.station; up = s.up; down = s.down; archive = x; told = s.told; sent_down = s.sent_down; number = s.number; asked = s.asked }

abbrev pub world_told : World → (List Told) → World
world_told s x = record { server = s.server; station = s.station; up = s.up; down = s.down; archive = s.archive; told = x; sent_down = s.sent_down; number = s.number; asked = s.asked }

abbrev pub world_sent_down : World → (List Sent) → World
world_sent_down s x = record { server = s.server; station = s.station; up = s.up; down = s.down; archive = s.archive; told = s.told; sent_down = x; number = s.number; asked = s.asked }

abbrev pub world_number : World → (ℕ → ℕ) → World
world_number s x = record { server = s.server; station = s.station; up = s.up; down = s.down; archive = s.archive; told = s.told; sent_down = s.sent_down; number = x; asked = s.asked }

abbrev pub world_asked : World → (ℕ → Op) → World
world_asked s x = record { server = s.server; station = s.station; up = s.up; down = s.down; archive = s.archive; told = s.told; sent_down = s.sent_down; number = s.number; asked = x }

-- "A fresh line has every value, version and last number 0, nothing open, cached, listed, locked or under way, and an empty archive."
abbrev pub fresh : (ℕ → ℕ) → World
fresh k =
    record { server = fresh_server k; station = λ i. fresh_station (k i); up = λ i. []; down = λ i. []; archive = []; told = []; sent_down = []; number = λ i. 0; asked = λ i. Begin }

-- what owners are told: "Owners are told a call's answer, after 'waits' the delivery's."

abbrev pub address_of : Op → ℕ
address_of Begin = 0
address_of (Read a) = a
address_of (WriteSet p f) = 0
address_of Commits = 0
address_of Aborts = 0
address_of (Purges p) = 0

abbrev pub writes_of : Op → ℕ → Val
writes_of Begin = none_at
writes_of (Read a) = none_at
writes_of (WriteSet p f) = of_page p f
writes_of Commits = none_at
writes_of Aborts = none_at
writes_of (Purges p) = none_at

abbrev pub log : World → Told → World
log w e = world_told w (snoc w.told e)

-- the owner is told of each object written, addresses rising
abbrev pub tell_write : ℕ → ℕ → ℕ → Val → List Told → List Told
tell_write i t a none l = l
tell_write i t a (some v) l = snoc l (ToldWrite i t a v)

unfoldable pub tell_writes : ℕ → ℕ → ℕ → (ℕ → Val) → List Told → List Told
tell_writes i t zero f l = l
tell_writes i t (suc n) f l = tell_write i t n (f n) (tell_writes i t n f l)

-- station i's owner gets the answer to op
unfoldable pub tell : ℕ → Op → Answer → World → World
tell i op Nothing w = w
tell i op (Begun t) w = world_number w (upd w.number i t)
tell i op (Value v) w = log w (ToldRead i (w.number i) (address_of op) v)
tell i op Waits w = world_asked w (upd w.asked i op)
tell i op Written w = world_told w (tell_writes i (w.number i) 256 (writes_of op) w.told)
tell i op (CommittedAs n) w = log w (ToldCommit i (w.number i) n)
tell i op (AbortedFor c) w = log w (ToldAbort i (w.number i) c)
tell i op Purged w = w
tell i op (Refused n) w = w
tell i op Empty w = w

-- carriage: "Messages sent join the back of their station's up or down line, records the end of the archive"

abbrev pub sent_to : ℕ → List Sent → List Down
sent_to i [] = []
sent_to i (To j m ∷ l) = cond (eqb i j) (m ∷ sent_to i l) (sent_to i l)

unfoldable pub carry_down : Serving → World → World
carry_down x w =
    world_server (world_down (world_archive (world_sent_down w
    (w.sent_down ++ x.sent))
    (w.archive ++ x.recs))
    (λ i. w.down i ++ sent_to i x.sent))
    x.server

unfoldable pub carry_up : ℕ → Did → World → World
carry_up i d w = world_station (world_up w (upd w.up i (w.up i ++ d.sent))) (upd w.station i d.station)

-- a call's reply, as the caller sees it: the answer, the messages, the records
pub record Reply : Type 0 where
  pub answer : Answer
  pub ups : List Up
  pub downs : List Sent
  pub recs : List Rec

abbrev pub replies : Answer → Reply
replies a = record { answer = a; ups = []; downs = []; recs = [] }

pub record Acted : Type 0 where
  pub world : World
  pub reply : Reply

abbrev pub acted : World → Reply → Acted
acted w r = record { world = w; reply = r }

unfoldable pub perform : Op → Station → Did
perform Begin s = own_begin s
perform (Read a) s = own_read a s
perform (WriteSet p f) s = own_write p f s
perform Commits s = own_commit s
perform Aborts s = own_abort s
perform (Purges p) s = own_purge p s

abbrev pub up_reply : Did → Reply
up_reply d = record { answer = d.answer; ups = d.sent; downs = []; recs = [] }

unfoldable pub owner_acts : ℕ → Op → World → Acted
owner_acts i op w = let d = perform op (w.station i) in acted (tell i op d.answer (carry_up i d w)) (up_reply d)

abbrev pub is_refused : Answer → Bool
is_refused Nothing = false
is_refused (Begun t) = false
is_refused (Value v) = false
is_refused Waits = false
is_refused Written = false
is_refused (CommittedAs n) = false
is_refused (AbortedFor c) = false
is_refused Purged = false
is_refused (Refused n) = true
is_refused Empty = true

-- "an accepted step takes the first message of its line, a refused call moves none"
unfoldable pub station_takes : ℕ → List Down → World → Acted
station_takes i [] w = acted w (replies Empty)
station_takes i (m ∷ l) w =
    let d = station_step m (w.station i) in
    cond (is_refused d.answer) (acted w (up_reply d))
    (acted (tell i (w.asked i) d.answer (carry_up i d (world_down w (upd w.down i l)))) (up_reply d))

abbrev pub down_reply : Serving → Reply
down_reply x = record { answer = Nothing; ups = []; downs = x.sent; recs = x.recs }

unfoldable pub server_takes : ℕ → List Up → World → Acted
server_takes i [] w = acted w (replies Empty)
server_takes i (m ∷ l) w =
    let x = server_step i m w.server in
    cond (unexpected i m w.server) (acted w (replies (Refused 6)))
    (acted (carry_down x (world_up w (upd w.up i l))) (down_reply x))

unfoldable pub act : Call → World → Acted
act (Owner i op) w = cond (ltb i 8) (owner_acts i op w) (acted w (replies (Refused 4)))
act (ServerTakes i) w = cond (ltb i 8) (server_takes i (w.up i) w) (acted w (replies Empty))
act (StationTakes i) w = cond (ltb i 8) (station_takes i (w.down i) w) (acted w (replies Empty))
act (Broken n) w = acted w (replies (Refused n))

unfoldable pub run : List Call → World → World
run [] w = w
run (c ∷ cs) w = run cs (act c w).world
