-- What number 1 asks of a state, in the model's words: beside `Apart`, that a field which does not count is empty, and that what stands in
-- the waiting list fits the station that it stands for. And what number 4 asks of a message, and which kind of station sends or takes it.
use Rattle.std.specs.Prelude.{◌≡◌, Bool, true, false, not, ◌||◌, ◌≢◌, ℕ, suc, ◌≤◌, ◌<◌, eqb}
use Rattle.sets.specs.Base.{Val, none, has}
use Rattle.sets.specs.Size.{size}
use Rattle.limits.specs.Limit.{limit}
use Rattle.kinds.specs.Kinds.{most_kind}
use Rattle.line.specs.Messages.{page_of, address, locking, keeps, Work, Rec, Up, ReadRequest, WriteRequest, Commit, Abort, Purge, Busy, Done, WrittenSet, Lock, NoLock, ObjectLock, WholeLock, Down, Page, Deescalate, Callback, Committed, Aborted, Invalidate, Sent, To}
use Rattle.line.specs.Server.{Server, Waiter, Want, NoWant, WantRead, WantWrite, WantCommit, is_want}
use Rattle.line.specs.Station.{Station, Wait, Idle, ForRead, ForWrite, for_read, for_write, some_on, Kept, NotKept, KeptCall}
use Rattle.line.specs.Apart.{Apart}
use Rattle.line.specs.Asks.{Asks}

-- sets with no member, and with one
abbrev pub Vacant : (ℕ → Bool) → Type 0
Vacant f = (a : ℕ) → f a ≡ false

abbrev pub Only : (ℕ → Bool) → ℕ → Type 0
Only f a = (b : ℕ) → f b ≡ eqb b a

-- document 02, wish 1: "48 distinct reads and 48 distinct writes", of a transaction, of a commit, of a record
pub record Limited (reads writes : ℕ → Bool) : Type 0 where
  pub reads_few : size 256 reads ≤ limit
  pub writes_few : size 256 writes ≤ limit

abbrev pub LimitedWork : Work → Type 0
LimitedWork w = Limited (λ a. has (w.reads a)) (λ a. has (w.writes a))

abbrev pub LimitedRec : Rec → Type 0
LimitedRec r = Limited (λ a. has (r.reads a)) (λ a. has (r.writes a))

-- MESSAGES

-- number 4: "a station, page, object, requester or cause lies outside its range, a callback's requester is the station it comes to, a named
-- transaction or commit is 0", as far as the rules of this file need it; and of a commit what number 5 says of n and m above the limit
abbrev pub UpNames : Up → Type 0
UpNames (ReadRequest a t) = (a < 256) × (t ≢ 0)
UpNames (WriteRequest p t set) = (p < 32) × (t ≢ 0) × (some_on p set ≡ true)
UpNames (Commit w) = (w.transaction ≢ 0) × LimitedWork w
UpNames (Abort t) = t ≢ 0
UpNames (Purge p) = p < 32
UpNames (Busy r t) = t ≢ 0
UpNames (Done r t d) = t ≢ 0
UpNames (WrittenSet p t set) = t ≢ 0

-- a 17 or 18 names no object: "byte 3 is then 0"
abbrev pub Object : Lock → ℕ → Type 0
Object NoLock a = Unit {0}
Object ObjectLock a = a ≡ address (page_of a) 0
Object WholeLock a = a ≡ address (page_of a) 0

-- of a message to station j
abbrev pub DownNames : ℕ → Down → Type 0
DownNames j (Page l a t v u x) = (a < 256) × (t ≢ 0) × Object l a
DownNames j (Deescalate p t) = (p < 32) × (t ≢ 0)
DownNames j (Callback r t set) = (eqb j r ≡ false) × (t ≢ 0)
DownNames j (Committed t n) = t ≢ 0
DownNames j (Aborted t c) = t ≢ 0
DownNames j (Invalidate d) = Unit {0}

-- "2, 4, 6, 7, 8 from a validating station": what a station of this kind may send
abbrev pub sent_by : ℕ → Up → Bool
sent_by k (ReadRequest a t) = true
sent_by k (WriteRequest p t set) = locking k
sent_by k (Commit w) = true
sent_by k (Abort t) = locking k
sent_by k (Purge p) = true
sent_by k (Busy r t) = locking k
sent_by k (Done r t d) = locking k
sent_by k (WrittenSet p t set) = locking k

-- "17 to 20 come to locking stations, 23 to validating ones" (reading 13): what one of this kind takes
abbrev pub taken_by : ℕ → Down → Bool
taken_by k (Page NoLock a t v u x) = true
taken_by k (Page ObjectLock a t v u x) = locking k
taken_by k (Page WholeLock a t v u x) = locking k
taken_by k (Deescalate p t) = locking k
taken_by k (Callback r t set) = locking k
taken_by k (Committed t n) = true
taken_by k (Aborted t c) = true
taken_by k (Invalidate d) = not (locking k)

pub record UpFits (k : ℕ) (m : Up) : Type 0 where
  pub names : UpNames m
  pub kind_fits : sent_by k m ≡ true

pub record DownFits (j k : ℕ) (m : Down) : Type 0 where
  pub names : DownNames j m
  pub kind_fits : taken_by k m ≡ true

-- a message goes to a station of the line, and fits its kind
abbrev pub SentFits : (ℕ → ℕ) → Sent → Type 0
SentFits kind (To j m) = (j < 8) × DownFits j (kind j) m

-- THE SERVER

-- 20s go out for a write or a commit
abbrev pub calls : Want → Bool
calls NoWant = false
calls WantRead = false
calls WantWrite = true
calls WantCommit = true

-- who waits for nothing has an empty entry
pub record Blank (arrival req : ℕ) (reads writes : ℕ → Bool) : Type 0 where
  pub arrival_is : arrival ≡ 0
  pub req_is : req ≡ 0
  pub nothing_read : Vacant reads
  pub nothing_written : Vacant writes

-- a read is for one object, which its set has
pub record One (req : ℕ) (own others : ℕ → Bool) : Type 0 where
  pub in_range : req < 256
  pub asked_for : Only own req
  pub nothing_else : Vacant others

-- a write is for objects of one page, for which its request stands
pub record OnPage (req : ℕ) (own others : ℕ → Bool) : Type 0 where
  pub in_range : req < 256
  pub stands : req ≡ address (page_of req) 0
  pub some_asked : some_on (page_of req) own ≡ true
  pub page_only_lem : (b : ℕ) → own b ≡ true → page_of b ≡ page_of req
  pub nothing_else : Vacant others

-- a commit is of the latest transaction, and within the limit
pub record OfLatest (latest req : ℕ) (w : Work) : Type 0 where
  pub req_is : req ≡ 0
  pub latest_is : w.transaction ≡ latest
  pub few : LimitedWork w

-- a station that owes station i a 7
pub record Owes (kind : ℕ → ℕ) (i j : ℕ) : Type 0 where
  pub station : j < 8
  pub another : eqb j i ≡ false
  pub locks : locking (kind j) ≡ true

-- station i's entry in the waiting list
pub record Form (kind : ℕ → ℕ) (i latest : ℕ) (w : Waiter) : Type 0 where
  pub blank : is_want w.want ≡ false → Blank w.arrival w.req w.reads w.writes
  pub read : w.want ≡ WantRead → One w.req w.reads w.writes
  pub write : w.want ≡ WantWrite → OnPage w.req w.writes w.reads
  pub commit : w.want ≡ WantCommit → OfLatest latest w.req w.work
  pub called : w.called ≡ true → calls w.want ≡ true
  pub pending : (j : ℕ) → w.pend j ≡ true → w.called ≡ true
  pub owed : (j : ℕ) → w.pend j ≡ true → Owes kind i j
  pub busy : (j : ℕ) → w.busy j ≡ true → w.pend j ≡ true

-- over fields, as `ApartOf`
pub record Forms (kind : ℕ → ℕ) (latest : ℕ → ℕ) (fin : ℕ → Bool) (queue : ℕ → Waiter) : Type 0 where
  pub kinds : (i : ℕ) → kind i ≤ most_kind
  -- "each transaction": numbered from 1
  pub named : (i : ℕ) → i < 8 → fin i ≡ false → latest i ≢ 0
  pub form : (i : ℕ) → i < 8 → Form kind i (latest i) (queue i)

-- a whole lock was given to a transaction
abbrev pub GivenToSome : (ℕ → ℕ) → (ℕ → ℕ) → Type 0
GivenToSome wl whole_for = (h p : ℕ) → wl p ≡ suc h → whole_for p ≢ 0

pub record Fit (s : Server) : Type 0 where
  pub apart : Apart s
  pub forms : Forms s.kind s.latest s.fin s.queue
  pub given : GivenToSome s.wl s.whole_for

-- A STATION

-- its transaction
pub record Works (opened : Bool) (num : ℕ) (rd wr : ℕ → Val) (wait : Wait) : Type 0 where
  pub numbered : opened ≡ true → num ≢ 0
  pub idle : opened ≡ false → wait ≡ Idle
  pub unread : opened ≡ false → (a : ℕ) → rd a ≡ none
  pub unwritten : opened ≡ false → (a : ℕ) → wr a ≡ none
  -- a read that is out is the transaction's first of the object, which it has not written
  pub first : (a : ℕ) → wait ≡ ForRead a → (rd a ≡ none) × (wr a ≡ none)
  -- a write that is out is of objects of one page
  pub asks : (p : ℕ) (f : ℕ → Val) → wait ≡ ForWrite p f → Asks p f

-- its locks: of an open transaction of a locking station; a keeping station's whole locks outlive it
pub record Locked (kind : ℕ) (opened : Bool) (ol wl : ℕ → Bool) : Type 0 where
  pub object_opened : (a : ℕ) → ol a ≡ true → opened ≡ true
  pub object_locks : (a : ℕ) → ol a ≡ true → locking kind ≡ true
  pub whole_opened : (p : ℕ) → wl p ≡ true → keeps kind ≡ false → opened ≡ true
  pub whole_locks : (p : ℕ) → wl p ≡ true → locking kind ≡ true

-- a kept callback names a transaction, at a locking station
abbrev pub KeptFits : ℕ → Kept → Type 0
KeptFits kind NotKept = Unit {0}
KeptFits kind (KeptCall t set) = (locking kind ≡ true) × (t ≢ 0)

pub record Callbacks (own kind : ℕ) (opened : Bool) (kept : ℕ → Kept) : Type 0 where
  pub not_own : kept own ≡ NotKept
  pub done : opened ≡ false → (r : ℕ) → r < 8 → kept r ≡ NotKept
  pub fit : (r : ℕ) → KeptFits kind (kept r)

-- the transaction is within the limit, the read or the write that is out counted as recorded
pub record LimitedStation (rd wr : ℕ → Val) (wait : Wait) : Type 0 where
  pub reads_few : size 256 (λ a. has (rd a) || for_read wait a) ≤ limit
  pub writes_few : size 256 (λ a. has (wr a) || for_write wait a) ≤ limit

pub record FitStation (own : ℕ) (s : Station) : Type 0 where
  pub works : Works s.opened s.num s.rd s.wr s.wait
  pub few : LimitedStation s.rd s.wr s.wait
  pub locked : Locked s.kind s.opened s.ol s.wl
  pub callbacks : Callbacks own s.kind s.opened s.kept
