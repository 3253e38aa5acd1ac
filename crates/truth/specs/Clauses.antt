-- The clauses of the invariant, layer by layer: statements only. docs/PROOF.md says what each layer is for. Each is over plain values of one
-- station (or a station and a requester, or an address), so that an action that leaves these values is seen to keep the clause.
use Rattle.std.specs.Prelude.{◌≡◌, Bool, true, false, not, ◌&&◌, ◌||◌, cond, List, [], ◌∷◌, ◌++◌, ◌⊎◌, ℕ, ◌+◌, ◌≤◌, ◌<◌, eqb, ltb, length, take}
use Rattle.sets.specs.Base.{Val, none, some, has, val_or, zeros}
use Rattle.line.specs.All.{All}
use Rattle.line.specs.Messages.{page_of, locking, Work, Up, ReadRequest, WriteRequest, Commit, Abort, Purge, Busy, Done, WrittenSet, NoLock, ObjectLock, WholeLock, Down, Page, Deescalate, Callback, Committed, Aborted, Invalidate, Sent, To, Rec}
use Rattle.line.specs.Station.{Station, Wait, Idle, ForRead, ForWrite, ForCommit, waiting, for_read, for_write, writes_to, for_commit, some_on, Kept, NotKept, KeptCall}
use Rattle.line.specs.Server.{Server, Waiter, Want, NoWant, WantRead, WantWrite, WantCommit, is_want, no_waiter, other}
use Rattle.line.specs.Line.{World, Op, Read, Commits, writes_of, Told, ToldRead, ToldWrite, ToldCommit, ToldAbort}
use Rattle.line.specs.Truth.{In, count, left, NumberedFrom, of_transaction, of_number, last_write, first_read, SameAsTold}

-- 1. TOKENS

-- *Stale*: a 1 or 16 of a validating station whose transaction t is not the open one
abbrev pub stale : ℕ → ℕ → Bool → ℕ → Bool
stale kind num opened t = not (locking kind) && not (opened && eqb t num)

-- a token that is not stale; `old` says which transactions are over for 1 and 16
abbrev pub token_up : (ℕ → Bool) → Up → Bool
token_up old (ReadRequest a t) = not (old t)
token_up old (WriteRequest p t set) = true
token_up old (Commit w) = true
token_up old (Abort t) = false
token_up old (Purge p) = false
token_up old (Busy r t) = false
token_up old (Done r t d) = false
token_up old (WrittenSet p t set) = false

abbrev pub token_down : (ℕ → Bool) → Down → Bool
token_down old (Page NoLock a t v u x) = not (old t)
token_down old (Page ObjectLock a t v u x) = true
token_down old (Page WholeLock a t v u x) = true
token_down old (Deescalate p t) = false
token_down old (Callback r t set) = false
token_down old (Committed t n) = true
token_down old (Aborted t c) = true
token_down old (Invalidate d) = false

abbrev pub tokens : (ℕ → Bool) → Want → List Up → List Down → ℕ
tokens old v U D = count (token_up old) U + cond (is_want v) 1 0 + count (token_down old) D

-- a token names t, not above the latest begun; if it is not stale, t is open and the wait is its own
pub record Fit (old : Bool) (t num : ℕ) (opened fit : Bool) : Type 0 where
  pub below : t ≤ num
  pub same : old ≡ false → t ≡ num
  pub alive : old ≡ false → opened ≡ true
  pub waits : old ≡ false → fit ≡ true

-- the wait that a 1 or 16, a 2, 17 or 18, and a 22 answer: a 2, 17 or 18 is for a page, and a 2 names something there
abbrev pub page_wait : ℕ → Wait → ℕ → Bool
page_wait kind w a = for_read w a || (not (locking kind) && for_write w a)

abbrev pub lock_wait : ℕ → Wait → ℕ → Bool
lock_wait kind w p = locking kind && writes_to w p

abbrev pub abort_wait : ℕ → Wait → Bool
abort_wait kind w = waiting w && (locking kind || for_commit w)

abbrev pub FitUp : ℕ → ℕ → Bool → Wait → Up → Type 0
FitUp kind num opened w (ReadRequest a t) = Fit (stale kind num opened t) t num opened (page_wait kind w a)
FitUp kind num opened w (WriteRequest p t set) = Fit false t num opened (lock_wait kind w p && some_on p set)
FitUp kind num opened w (Commit k) = Fit false k.transaction num opened (for_commit w)
FitUp kind num opened w (Abort t) = Unit {0}
FitUp kind num opened w (Purge p) = Unit {0}
FitUp kind num opened w (Busy r t) = Unit {0}
FitUp kind num opened w (Done r t d) = Unit {0}
FitUp kind num opened w (WrittenSet p t set) = Unit {0}

abbrev pub FitDown : ℕ → ℕ → Bool → Wait → Down → Type 0
FitDown kind num opened w (Page NoLock a t v u x) = Fit (stale kind num opened t) t num opened (page_wait kind w a)
FitDown kind num opened w (Page ObjectLock a t v u x) = Fit false t num opened (lock_wait kind w (page_of a))
FitDown kind num opened w (Page WholeLock a t v u x) = Fit false t num opened (lock_wait kind w (page_of a))
FitDown kind num opened w (Deescalate p t) = Unit {0}
FitDown kind num opened w (Callback r t set) = Unit {0}
FitDown kind num opened w (Committed t n) = Fit false t num opened (for_commit w)
FitDown kind num opened w (Aborted t c) = Fit false t num opened (abort_wait kind w)
FitDown kind num opened w (Invalidate d) = Unit {0}

-- a waiter has no transaction of its own: it is the latest
abbrev pub FitWaiter : ℕ → ℕ → Bool → Wait → ℕ → Want → ℕ → Type 0
FitWaiter kind num opened w latest NoWant a = Unit {0}
FitWaiter kind num opened w latest WantRead a = Fit false latest num opened (locking kind && for_read w a)
FitWaiter kind num opened w latest WantWrite a = Fit false latest num opened (lock_wait kind w (page_of a))
FitWaiter kind num opened w latest WantCommit a = Fit false latest num opened (not (locking kind) && for_commit w)

-- a commit on its way up brings the station's reads and writes
abbrev pub SameWork : (ℕ → Val) → (ℕ → Val) → Up → Type 0
SameWork rd wr (ReadRequest a t) = Unit {0}
SameWork rd wr (WriteRequest p t set) = Unit {0}
SameWork rd wr (Commit k) = (k.reads ≡ rd) × (k.writes ≡ wr)
SameWork rd wr (Abort t) = Unit {0}
SameWork rd wr (Purge p) = Unit {0}
SameWork rd wr (Busy r t) = Unit {0}
SameWork rd wr (Done r t d) = Unit {0}
SameWork rd wr (WrittenSet p t set) = Unit {0}

-- so does a commit that waits; and its own number is the latest
abbrev pub WaitingWork : (ℕ → Val) → (ℕ → Val) → ℕ → Want → Work → Type 0
WaitingWork rd wr latest NoWant k = Unit {0}
WaitingWork rd wr latest WantRead k = Unit {0}
WaitingWork rd wr latest WantWrite k = Unit {0}
WaitingWork rd wr latest WantCommit k = (k.transaction ≡ latest) × (k.reads ≡ rd) × (k.writes ≡ wr)

-- what a waiter reads and writes, a write's objects being some of one page; who does not wait has the empty entry
abbrev pub Shape : Want → Waiter → Type 0
Shape NoWant q = q ≡ no_waiter
Shape WantRead q = ((b : ℕ) → q.reads b ≡ eqb b q.req) × ((b : ℕ) → q.writes b ≡ false) × (q.called ≡ false)
Shape WantWrite q = ((b : ℕ) → q.reads b ≡ false) × ((b : ℕ) → q.writes b ≡ true → page_of b ≡ page_of q.req) × (some_on (page_of q.req) q.writes ≡ true)
Shape WantCommit q = ((b : ℕ) → q.reads b ≡ has (q.work.reads b)) × ((b : ℕ) → q.writes b ≡ has (q.work.writes b))

pub record Tokens (skind kind num : ℕ) (opened : Bool) (rd wr : ℕ → Val) (w : Wait) (q : Waiter) (latest : ℕ) (fin : Bool) (U : List Up) (D : List Down) : Type 0 where
  pub kinds : skind ≡ kind  -- the server's word on the station's kind
  pub S1a : tokens (stale kind num opened) q.want U D ≤ 1  -- any two tokens that are not stale are the same one
  pub S1b_up : All (FitUp kind num opened w) U  -- each token names T ≤ num; if not stale: live, and it fits the wait
  pub S1b_waiter : FitWaiter kind num opened w latest q.want q.req
  pub S1b_down : All (FitDown kind num opened w) D
  pub S3_up : All (SameWork rd wr) U  -- a 3 in Up: reads = R, Rv; writes = W, Wv
  pub S3_waiter : WaitingWork rd wr latest q.want q.work  -- the same for a commit waiter
  pub S4 : is_want q.want ≡ true → fin ≡ false  -- a waiter's transaction (the latest) is not finished
  pub S5 : (a : ℕ) → for_read w a ≡ true → (rd a ≡ none) × (wr a ≡ none)  -- what is waited for is neither read nor written yet
  pub S6 : opened ≡ false → ((a : ℕ) → (rd a ≡ none) × (wr a ≡ none)) × (waiting w ≡ false)  -- nothing read, written or asked when closed
  pub S7 : Shape q.want q  -- what a waiter reads and writes; a read is not called
  pub range_wait : (a : ℕ) → (for_read w a || for_write w a) ≡ true → a < 256  -- "page 0 to 31, object 0 to 7"
  pub range_page : (p : ℕ) → writes_to w p ≡ true → p < 32
  pub range_used : (a : ℕ) → 256 ≤ a → (rd a ≡ none) × (wr a ≡ none)

abbrev pub TokensAt : Server → (ℕ → Station) → (ℕ → List Up) → (ℕ → List Down) → ℕ → Type 0
TokensAt s t u d i =
    Tokens (s.kind i) (t i).kind (t i).num (t i).opened (t i).rd (t i).wr (t i).wait (s.queue i) (s.latest i) (s.fin i) (u i) (d i)

-- 2. COVERAGE, for a locking station

-- a page message (16, 17, 18) for the page
abbrev pub brings : ℕ → Down → Bool
brings p (Page l a t v u x) = eqb p (page_of a)
brings p (Deescalate q t) = false
brings p (Callback r t set) = false
brings p (Committed t n) = false
brings p (Aborted t c) = false
brings p (Invalidate d) = false

-- a drop of the page: 5, or a 7 with the page in its drops
abbrev pub dropped : ℕ → Up → Bool
dropped p (ReadRequest a t) = false
dropped p (WriteRequest q t set) = false
dropped p (Commit w) = false
dropped p (Abort t) = false
dropped p (Purge q) = eqb p q
dropped p (Busy r t) = false
dropped p (Done r t d) = d p
dropped p (WrittenSet q t set) = false

-- a 1 or 2 for the page
abbrev pub asks_for : ℕ → Up → Bool
asks_for p (ReadRequest a t) = eqb p (page_of a)
asks_for p (WriteRequest q t set) = eqb p q
asks_for p (Commit w) = false
asks_for p (Abort t) = false
asks_for p (Purge q) = false
asks_for p (Busy r t) = false
asks_for p (Done r t d) = false
asks_for p (WrittenSet q t set) = false

abbrev pub waits_for : ℕ → Want → ℕ → Bool
waits_for p NoWant a = false
waits_for p WantRead a = eqb p (page_of a)
waits_for p WantWrite a = eqb p (page_of a)
waits_for p WantCommit a = false

-- behind a 1 or 2 for the page there is no drop of it
abbrev pub NoDropBehind : ℕ → List Up → Type 0
NoDropBehind p [] = Unit {0}
NoDropBehind p (m ∷ l) = (asks_for p m ≡ true → count (dropped p) l ≡ 0) × NoDropBehind p l

-- one page: is it cached, is the station listed for it
pub record Covered (p : ℕ) (cached listed : Bool) (v : Want) (req : ℕ) (U : List Up) (D : List Down) : Type 0 where
  pub C1 : cached ≡ true → listed ≡ true  -- cached, so listed
  pub C1_down : 1 ≤ count (brings p) D → listed ≡ true  -- on its way down, so listed
  pub C2 : 1 ≤ count (dropped p) U → cached ≡ false  -- a drop in Up: not cached
  pub C2_down : 1 ≤ count (dropped p) U → count (brings p) D ≡ 0  -- .. and no page message for it
  pub C2r : NoDropBehind p U  -- .. and no 1 or 2 for it ahead of the drop
  pub C2r_waiter : 1 ≤ count (dropped p) U → waits_for p v req ≡ false  -- .. and no waiter for it

pub record Coverage (cached : ℕ → Bool) (rd : ℕ → Val) (listed : ℕ → Bool) (v : Want) (req : ℕ) (U : List Up) (D : List Down) : Type 0 where
  pub page : (p : ℕ) → Covered p (cached p) (listed p) v req U D
  pub C3 : (a : ℕ) → has (rd a) ≡ true → cached (page_of a) ≡ true  -- what is read is cached (nothing is read when closed, S6)

abbrev pub CoverageAt : Server → (ℕ → Station) → (ℕ → List Up) → (ℕ → List Down) → ℕ → Type 0
CoverageAt s t u d i =
    locking (t i).kind ≡ true → Coverage (t i).cached (t i).rd (s.listed i) (s.queue i).want (s.queue i).req (u i) (d i)

-- 3. CALLBACKS of requester r at station j

-- callback tokens of (r, t): a 20 in Dn, a kept callback, a 7 in Up
abbrev pub call_of : ℕ → ℕ → Down → Bool
call_of r t (Page l a u v x y) = false
call_of r t (Deescalate p u) = false
call_of r t (Callback k u set) = eqb k r && eqb u t
call_of r t (Committed u n) = false
call_of r t (Aborted u c) = false
call_of r t (Invalidate d) = false

abbrev pub kept_of : ℕ → Kept → Bool
kept_of t NotKept = false
kept_of t (KeptCall u set) = eqb u t

abbrev pub done_of : ℕ → ℕ → Up → Bool
done_of r t (ReadRequest a u) = false
done_of r t (WriteRequest p u set) = false
done_of r t (Commit w) = false
done_of r t (Abort u) = false
done_of r t (Purge p) = false
done_of r t (Busy k u) = false
done_of r t (Done k u d) = eqb k r && eqb u t
done_of r t (WrittenSet p u set) = false

abbrev pub call_tokens : ℕ → ℕ → Kept → List Up → List Down → ℕ
call_tokens r t k U D = count (call_of r t) D + cond (kept_of t k) 1 0 + count (done_of r t) U

-- what a token of r names is not above t; and one that names t itself names the addresses `set`
abbrev pub CallBelow : ℕ → ℕ → Down → Type 0
CallBelow r t (Page l a u v x y) = Unit {0}
CallBelow r t (Deescalate p u) = Unit {0}
CallBelow r t (Callback k u set) = k ≡ r → u ≤ t
CallBelow r t (Committed u n) = Unit {0}
CallBelow r t (Aborted u c) = Unit {0}
CallBelow r t (Invalidate d) = Unit {0}

abbrev pub KeptBelow : ℕ → Kept → Type 0
KeptBelow t NotKept = Unit {0}
KeptBelow t (KeptCall u set) = u ≤ t

abbrev pub DoneBelow : ℕ → ℕ → Up → Type 0
DoneBelow r t (ReadRequest a u) = Unit {0}
DoneBelow r t (WriteRequest p u set) = Unit {0}
DoneBelow r t (Commit w) = Unit {0}
DoneBelow r t (Abort u) = Unit {0}
DoneBelow r t (Purge p) = Unit {0}
DoneBelow r t (Busy k u) = Unit {0}
DoneBelow r t (Done k u d) = k ≡ r → u ≤ t
DoneBelow r t (WrittenSet p u set) = Unit {0}

abbrev pub CallNames : ℕ → ℕ → (ℕ → Bool) → Down → Type 0
CallNames r t W (Page l a u v x y) = Unit {0}
CallNames r t W (Deescalate p u) = Unit {0}
CallNames r t W (Callback k u set) = k ≡ r → u ≡ t → set ≡ W
CallNames r t W (Committed u n) = Unit {0}
CallNames r t W (Aborted u c) = Unit {0}
CallNames r t W (Invalidate d) = Unit {0}

abbrev pub KeptNames : ℕ → (ℕ → Bool) → Kept → Type 0
KeptNames t W NotKept = Unit {0}
KeptNames t W (KeptCall u set) = u ≡ t → set ≡ W

-- latest, fin and q are the requester's, `kept` is station j's kept callback of r, `pend` whether j owes r a 7
pub record Callbacks (r latest : ℕ) (fin : Bool) (q : Waiter) (pend : Bool) (kept : Kept) (U : List Up) (D : List Down) : Type 0 where
  pub G1a_down : All (CallBelow r latest) D  -- a callback token (r, T): T ≤ latest(r)
  pub G1a_kept : KeptBelow latest kept
  pub G1a_up : All (DoneBelow r latest) U
  pub G1b : fin ≡ false → 1 ≤ call_tokens r latest kept U D → (is_want q.want ≡ true) × (q.called ≡ true) × (pend ≡ true)  -- one of latest(r), unfinished: r has a called waiter and j ∈ pend
  pub G1c : fin ≡ false → call_tokens r latest kept U D ≤ 1  -- .. and there is one only
  pub G5_down : is_want q.want ≡ true → q.called ≡ true → All (CallNames r latest q.writes) D  -- a 20 of a called waiter names what it writes
  pub G5_kept : is_want q.want ≡ true → q.called ≡ true → KeptNames latest q.writes kept

abbrev pub CallbacksAt : Server → (ℕ → Station) → (ℕ → List Up) → (ℕ → List Down) → ℕ → ℕ → Type 0
CallbacksAt s t u d r j = Callbacks r (s.latest r) (s.fin r) (s.queue r) ((s.queue r).pend j) ((t j).kept r) (u j) (d j)

-- G4: of two waiters, the called one writes nothing that an earlier one wants
abbrev pub G4 : Waiter → Waiter → Type 0
G4 w e =
    is_want w.want ≡ true → w.called ≡ true → is_want e.want ≡ true → ltb e.arrival w.arrival ≡ true
    → (a : ℕ) → a < 256 → w.writes a ≡ true → (e.reads a || e.writes a) ≡ false

abbrev pub G4At : Server → ℕ → ℕ → Type 0
G4At s i j = G4 (s.queue i) (s.queue j)

-- DE-ESCALATION tokens of (p, t): a 19 in Dn, an 8 in Up. No clause of truth speaks of them; crates progress and jams do.
abbrev pub ask_of : ℕ → ℕ → Down → Bool
ask_of p t (Page l a u v x y) = false
ask_of p t (Deescalate q u) = eqb q p && eqb u t
ask_of p t (Callback r u set) = false
ask_of p t (Committed u n) = false
ask_of p t (Aborted u c) = false
ask_of p t (Invalidate d) = false

abbrev pub set_of : ℕ → ℕ → Up → Bool
set_of p t (ReadRequest a u) = false
set_of p t (WriteRequest q u set) = false
set_of p t (Commit w) = false
set_of p t (Abort u) = false
set_of p t (Purge q) = false
set_of p t (Busy r u) = false
set_of p t (Done r u d) = false
set_of p t (WrittenSet q u set) = eqb q p && eqb u t

abbrev pub ask_tokens : ℕ → ℕ → List Up → List Down → ℕ
ask_tokens p t U D = count (ask_of p t) D + count (set_of p t) U

-- 4. EXCLUSION

-- a page message that shows the address
abbrev pub shows : ℕ → Down → Bool
shows b (Page l a t v u x) = eqb (page_of b) (page_of a) && not (u b)
shows b (Deescalate p t) = false
shows b (Callback r t set) = false
shows b (Committed t n) = false
shows b (Aborted t c) = false
shows b (Invalidate d) = false

-- nothing of address a at the station: it is not shown in its copy, and no page message on its way shows it
pub record Hidden (a : ℕ) (cached unav : Bool) (D : List Down) : Type 0 where
  pub copy : (cached && not unav) ≡ false
  pub under_way : count (shows a) D ≡ 0

-- at locking station j and address a; ol is its lock, wl its page's
pub record Locked (j a ol wl : ℕ) (listed cached unav : Bool) (rd : Val) (D : List Down) : Type 0 where
  pub F1 : other ol j ≡ true → Hidden a cached unav D  -- locked by another: hidden
  pub F2a : other wl j ≡ true → listed ≡ false  -- page locked whole by another: not listed
  pub F3a : has rd ≡ true → other ol j ≡ false  -- read here: locked by no other

abbrev pub LockedAt : Server → (ℕ → Station) → (ℕ → List Down) → ℕ → ℕ → Type 0
LockedAt s t d j a =
    locking (t j).kind ≡ true
    → Locked j a (s.ol a) (s.wl (page_of a)) (s.listed j (page_of a)) ((t j).cached (page_of a)) ((t j).unav a) ((t j).rd a) (d j)

-- behind the 20 of (r, t) no page message shows a
abbrev pub NoShowBehind : ℕ → ℕ → ℕ → List Down → Type 0
NoShowBehind r t a [] = Unit {0}
NoShowBehind r t a (m ∷ l) = (call_of r t m ≡ true → count (shows a) l ≡ 0) × NoShowBehind r t a l

-- requester r (its waiter is called and writes a; t is its latest) at another locking station j
pub record Called (r t a : ℕ) (pend cached unav : Bool) (rd : Val) (U : List Up) (D : List Down) : Type 0 where
  pub F3b : has rd ≡ true → (pend ≡ true) × (count (done_of r t) U ≡ 0)  -- read here: not cleared
  pub G2a : NoShowBehind r t a D  -- behind the 20 nothing shows a
  pub G2c : 1 ≤ count (done_of r t) U → Hidden a cached unav D  -- cleared by the 7: hidden
  pub G2d : pend ≡ false → Hidden a cached unav D  -- cleared by pend: hidden

abbrev pub CalledAt : Server → (ℕ → Station) → (ℕ → List Up) → (ℕ → List Down) → ℕ → ℕ → ℕ → Type 0
CalledAt s t u d r j a =
    locking (t j).kind ≡ true → eqb j r ≡ false → is_want (s.queue r).want ≡ true → (s.queue r).called ≡ true → (s.queue r).writes a ≡ true
    → Called r (s.latest r) a ((s.queue r).pend j) ((t j).cached (page_of a)) ((t j).unav a) ((t j).rd a) (u j) (d j)

-- 5. VALUES, at a locking station and an address; val is the server's

abbrev pub is_committed : Down → Bool
is_committed (Page l a t v u x) = false
is_committed (Deescalate p t) = false
is_committed (Callback r t set) = false
is_committed (Committed t n) = true
is_committed (Aborted t c) = false
is_committed (Invalidate d) = false

abbrev pub TrueValue : ℕ → ℕ → Down → Type 0
TrueValue b val (Page l a t v u x) = eqb (page_of b) (page_of a) ≡ true → u b ≡ false → x b ≡ val
TrueValue b val (Deescalate p t) = Unit {0}
TrueValue b val (Callback r t set) = Unit {0}
TrueValue b val (Committed t n) = Unit {0}
TrueValue b val (Aborted t c) = Unit {0}
TrueValue b val (Invalidate d) = Unit {0}

abbrev pub ShowsRequested : Down → Type 0
ShowsRequested (Page NoLock a t v u x) = u a ≡ false
ShowsRequested (Page ObjectLock a t v u x) = Unit {0}
ShowsRequested (Page WholeLock a t v u x) = Unit {0}
ShowsRequested (Deescalate p t) = Unit {0}
ShowsRequested (Callback r t set) = Unit {0}
ShowsRequested (Committed t n) = Unit {0}
ShowsRequested (Aborted t c) = Unit {0}
ShowsRequested (Invalidate d) = Unit {0}

-- A2, both kinds: an own write stands in the copy
abbrev pub A2 : Bool → ℕ → Val → Type 0
A2 cached copy wr = (v : ℕ) → wr ≡ some v → cached ≡ true → copy ≡ v

abbrev pub A2At : (ℕ → Station) → ℕ → ℕ → Type 0
A2At t i a = A2 ((t i).cached (page_of a)) ((t i).copy a) ((t i).wr a)

pub record Values (a val : ℕ) (cached unav : Bool) (copy : ℕ) (rd wr : Val) (D : List Down) : Type 0 where
  pub A : (cached && not unav) ≡ true → has wr ≡ false → copy ≡ val  -- shown, not written here: the server's value
  pub A_installed : (cached && not unav) ≡ true → 1 ≤ count is_committed D → copy ≡ val  -- shown, written, the 21 on its way: the server's value
  pub B : All (TrueValue a val) D  -- a page message that shows it has the server's value
  pub B2 : All ShowsRequested D  -- a 16 shows its requested address
  pub E : count is_committed D ≡ 0 → (v : ℕ) → rd ≡ some v → v ≡ val  -- what was read is still the server's value

abbrev pub ValuesAt : Server → (ℕ → Station) → (ℕ → List Down) → ℕ → ℕ → Type 0
ValuesAt s t d i a =
    locking (t i).kind ≡ true → Values a (s.val a) ((t i).cached (page_of a)) ((t i).unav a) ((t i).copy a) ((t i).rd a) ((t i).wr a) (d i)

-- 6. VALIDATED; Hist n a: the value of a after records 1..n
abbrev pub Hist : List Rec → ℕ → ℕ → ℕ
Hist archive n a = left (take n archive) zeros a

-- V0, of the server alone: an object's value is what the archive leaves at that object's version
pub record Versions (archive : List Rec) (last : ℕ) (ver : ℕ → ℕ) : Type 0 where
  pub V0_last : (a : ℕ) → ver a ≤ last
  pub V0 : (n a : ℕ) → ver a ≤ n → n ≤ last → Hist archive n a ≡ Hist archive (ver a) a

abbrev pub TruePage : List Rec → ℕ → Down → Type 0
TruePage archive last (Page l a t v u x) = (b : ℕ) → page_of b ≡ page_of a → (v b ≤ last) × (x b ≡ Hist archive (v b) b)
TruePage archive last (Deescalate p t) = Unit {0}
TruePage archive last (Callback r t set) = Unit {0}
TruePage archive last (Committed t n) = Unit {0}
TruePage archive last (Aborted t c) = Unit {0}
TruePage archive last (Invalidate d) = Unit {0}

-- the reads of a commit were true at the versions it names
abbrev pub TrueReads : List Rec → ℕ → Work → Type 0
TrueReads archive last k = (a v : ℕ) → k.reads a ≡ some v → (k.read_versions a ≤ last) × (v ≡ Hist archive (k.read_versions a) a)

-- said of the work of a commit in Up, and of a commit that waits
abbrev pub WorkUp : (Work → Type 0) → Up → Type 0
WorkUp P (ReadRequest a t) = Unit {0}
WorkUp P (WriteRequest p t set) = Unit {0}
WorkUp P (Commit k) = P k
WorkUp P (Abort t) = Unit {0}
WorkUp P (Purge p) = Unit {0}
WorkUp P (Busy r t) = Unit {0}
WorkUp P (Done r t d) = Unit {0}
WorkUp P (WrittenSet p t set) = Unit {0}

abbrev pub WorkWaiting : (Work → Type 0) → Want → Work → Type 0
WorkWaiting P NoWant k = Unit {0}
WorkWaiting P WantRead k = Unit {0}
WorkWaiting P WantWrite k = Unit {0}
WorkWaiting P WantCommit k = P k

-- `seen` is the version that an object had when the transaction first used it
pub record Validated (archive : List Rec) (last : ℕ) (cached : ℕ → Bool) (cver copy : ℕ → ℕ) (rd wr : ℕ → Val) (seen : ℕ → ℕ) (q : Waiter) (U : List Up) (D : List Down) : Type 0 where
  pub V1_last : (a : ℕ) → cached (page_of a) ≡ true → cver a ≤ last
  pub V1 : (a : ℕ) → cached (page_of a) ≡ true → has (wr a) ≡ false → copy a ≡ Hist archive (cver a) a  -- a copy is what its object's version says
  pub V2 : All (TruePage archive last) D  -- so is a page on its way
  pub V3_up : All (WorkUp (TrueReads archive last)) U  -- so were the reads of a commit
  pub V3_waiter : WorkWaiting (TrueReads archive last) q.want q.work
  pub V5 : (a v : ℕ) → rd a ≡ some v → (seen a ≤ last) × (v ≡ Hist archive (seen a) a)  -- so is what was read

abbrev pub ValidatedAt : List Rec → Server → (ℕ → Station) → (ℕ → List Up) → (ℕ → List Down) → ℕ → Type 0
ValidatedAt archive s t u d i =
    locking (t i).kind ≡ false
    → Validated archive s.last (t i).cached (t i).cver (t i).copy (t i).rd (t i).wr (t i).seen (s.queue i) (u i) (d i)

-- 7. GHOST AND GOALS

-- T1: each record's reads are what the records before it leave, from v
abbrev pub TrueRecords : List Rec → (ℕ → ℕ) → Type 0
TrueRecords [] v = Unit {0}
TrueRecords (r ∷ l) v = ((a x : ℕ) → r.reads a ≡ some x → x ≡ v a) × TrueRecords l (λ a. val_or (r.writes a) (v a))

pub record Archived (archive : List Rec) (last : ℕ) (val : ℕ → ℕ) : Type 0 where
  pub order : NumberedFrom 1 archive
  pub all : length archive ≡ last
  pub T1 : TrueRecords archive zeros
  pub T1_pages : (a : ℕ) → left archive zeros a ≡ val a
  pub T3 : (i t : ℕ) → count (of_transaction i t) archive ≤ 1  -- two different records differ in (station, transaction)

-- a transaction of the station is over
abbrev pub over : ℕ → Bool → ℕ → Bool
over num opened t = ltb t num || (eqb t num && not opened)

-- the owner's note of the operation that waits is the station's own
abbrev pub NotedWait : Wait → Op → Type 0
NotedWait Idle op = Unit {0}
NotedWait (ForRead a) op = op ≡ Read a
NotedWait (ForWrite p f) op = writes_of op ≡ f
NotedWait ForCommit op = op ≡ Commits

-- T6: the record of a 21 on its way
abbrev pub RecordedDown : ℕ → List Rec → (ℕ → Val) → (ℕ → Val) → Down → Type 0
RecordedDown i archive rd wr (Page l a t v u x) = Unit {0}
RecordedDown i archive rd wr (Deescalate p t) = Unit {0}
RecordedDown i archive rd wr (Callback r t set) = Unit {0}
RecordedDown i archive rd wr (Committed t n) =
    (count (λ r. of_number n r && of_transaction i t r) archive ≡ 1)
    × ((r : Rec) → In r archive → of_transaction i t r ≡ true → (r.number ≡ n) × (r.reads ≡ rd) × (r.writes ≡ wr))
RecordedDown i archive rd wr (Aborted t c) = Unit {0}
RecordedDown i archive rd wr (Invalidate d) = Unit {0}

-- told to owner i: nothing of a transaction above its latest
abbrev pub ToldBelow : ℕ → ℕ → Told → Type 0
ToldBelow i num (ToldRead j t a v) = j ≡ i → t ≤ num
ToldBelow i num (ToldWrite j t a v) = j ≡ i → t ≤ num
ToldBelow i num (ToldCommit j t n) = j ≡ i → t ≤ num
ToldBelow i num (ToldAbort j t c) = j ≡ i → t ≤ num

-- what owner i was told, and what was sent to its station. number and asked are the owner's notes
pub record Owned (i : ℕ) (num : ℕ) (opened : Bool) (rd wr : ℕ → Val) (w : Wait) (D : List Down) (archive : List Rec) (told : List Told) (sent_down : List Sent) (number : ℕ) (asked : Op) : Type 0 where
  pub note : opened ≡ true → number ≡ num
  pub note_wait : NotedWait w asked
  pub told_below : All (ToldBelow i num) told
  pub T5_reads : opened ≡ true → (a : ℕ) → rd a ≡ first_read i num told a none none  -- reads recorded = first reads told
  pub T5_writes : opened ≡ true → (a : ℕ) → wr a ≡ last_write i num told a none  -- writes = last writes told
  pub T6 : All (RecordedDown i archive rd wr) D  -- a 21 on its way has its record, with R and W
  pub T6_untold : (t n : ℕ) → In (Committed t n) D → In (ToldCommit i t n) told → ⊥
  pub T8 : (r : Rec) → In r archive → r.station ≡ i → (In (Committed r.transaction r.number) D) ⊎ (over num opened r.transaction ≡ true)
  pub T8_sent : (r : Rec) → In r archive → r.station ≡ i → In (To i (Committed r.transaction r.number)) sent_down
  pub T8_recorded : (t n : ℕ) → In (To i (Committed t n)) sent_down → count (λ r. of_number n r && of_transaction i t r) archive ≡ 1
  pub T2 : (r : Rec) → In r archive → r.station ≡ i → SameAsTold told r  -- a record has exactly what its owner was told
  pub T2_told : (t n : ℕ) → In (ToldCommit i t n) told → In (To i (Committed t n)) sent_down  -- a commit told was sent
  pub T2_again : (t a v : ℕ) (before after : List Told) → told ≡ before ++ (ToldRead i t a v ∷ after)
      → v ≡ val_or (last_write i t before a none) (val_or (first_read i t told a none none) 0)  -- no read was told another value than the first
  pub T9 : (t c : ℕ) → In (ToldAbort i t c) told → (over num opened t ≡ true) × (count (of_transaction i t) archive ≡ 0)  -- told aborted: over, and no record (T4)
  pub T4 : (t c : ℕ) → In (To i (Aborted t c)) sent_down → ((In (Aborted t c) D) ⊎ (over num opened t ≡ true)) × (count (of_transaction i t) archive ≡ 0)  -- 22 sent: under way or over, and no record

abbrev pub OwnedAt : World → ℕ → Type 0
OwnedAt w i =
    Owned i (w.station i).num (w.station i).opened (w.station i).rd (w.station i).wr (w.station i).wait (w.down i)
    w.archive w.told w.sent_down (w.number i) (w.asked i)
