-- "Server steps": accept of each message, then the atomic actions of the pass, then the pass.
use Rattle.std.specs.Prelude.{Bool, true, false, not, ◌&&◌, ◌||◌, cond, List, [], ◌∷◌, ◌++◌, ℕ, zero, suc, ◌+◌, eqb, ltb, length}
use Rattle.sets.specs.Base.{upd, upd2, snoc, has, val_or, none_at, nowhere, zeros, any, turned, memo}
use Rattle.sets.specs.Reach.{on_cycle}
use Rattle.line.specs.Messages.{page_of, address, last_number, locking, keeps, Work, Up, ReadRequest, WriteRequest, Commit, Abort, Purge, Busy, Done, WrittenSet, Lock, NoLock, ObjectLock, WholeLock, Down, Page, Deescalate, Callback, Committed, Aborted, Invalidate, Sent, To, Rec}

-- what a station waits for at the server; "Every other request, and a validating commit, joins one waiting list by arrival"
pub data Want : Type 0 where
  NoWant WantRead WantWrite WantCommit : Want

pub record Waiter : Type 0 where
  pub want : Want
  pub arrival : ℕ  -- the list's order
  pub req : ℕ  -- the address requested; of a write the first of its page
  pub work : Work  -- of a commit
  pub reads : ℕ → Bool  -- addresses to read
  pub writes : ℕ → Bool  -- addresses to write
  pub called : Bool  -- its 20s were sent
  pub pend : ℕ → Bool  -- stations that owe a 7
  pub busy : ℕ → Bool  -- those of them that sent 6

abbrev pub waiter_want : Waiter → (Want) → Waiter
waiter_want s x = record { want = x; arrival = s.arrival; req = s.req; work = s.work; reads = s.reads; writes = s.writes; called = s.called; pend = s.pend; busy = s.busy }

abbrev pub waiter_arrival : Waiter → (ℕ) → Waiter
waiter_arrival s x = record { want = s.want; arrival = x; req = s.req; work = s.work; reads = s.reads; writes = s.writes; called = s.called; pend = s.pend; busy = s.busy }

abbrev pub waiter_req : Waiter → (ℕ) → Waiter
waiter_req s x = record { want = s.want; arrival = s.arrival; req = x; work = s.work; reads = s.reads; writes = s.writes; called = s.called; pend = s.pend; busy = s.busy }

abbrev pub waiter_work : Waiter → (Work) → Waiter
waiter_work s x = record { want = s.want; arrival = s.arrival; req = s.req; work = x; reads = s.reads; writes = s.writes; called = s.called; pend = s.pend; busy = s.busy }

abbrev pub waiter_reads : Waiter → (ℕ → Bool) → Waiter
waiter_reads s x = record { want = s.want; arrival = s.arrival; req = s.req; work = s.work; reads = x; writes = s.writes; called = s.called; pend = s.pend; busy = s.busy }

abbrev pub waiter_writes : Waiter → (ℕ → Bool) → Waiter
waiter_writes s x = record { want = s.want; arrival = s.arrival; req = s.req; work = s.work; reads = s.reads; writes = x; called = s.called; pend = s.pend; busy = s.busy }

abbrev pub waiter_called : Waiter → (Bool) → Waiter
waiter_called s x = record { want = s.want; arrival = s.arrival; req = s.req; work = s.work; reads = s.reads; writes = s.writes; called = x; pend = s.pend; busy = s.busy }

abbrev pub waiter_pend : Waiter → (ℕ → Bool) → Waiter
waiter_pend s x = record { want = s.want; arrival = s.arrival; req = s.req; work = s.work; reads = s.reads; writes = s.writes; called = s.called; pend = x; busy = s.busy }

abbrev pub waiter_busy : Waiter → (ℕ → Bool) → Waiter
waiter_busy s x = record { want = s.want; arrival = s.arrival; req = s.req; work = s.work; reads = s.reads; writes = s.writes; called = s.called; pend = s.pend; busy = x }

abbrev pub no_work : Work
no_work = record { transaction = 0; reads = none_at; writes = none_at; read_versions = zeros; written_versions = zeros }

abbrev pub no_waiter : Waiter
no_waiter = record { want = NoWant; arrival = 0; req = 0; work = no_work; reads = nowhere; writes = nowhere; called = false; pend = nowhere; busy = nowhere }

-- a lock's holder: 0 for none, suc i for station i
pub record Server : Type 0 where
  pub kind : ℕ → ℕ
  pub val : ℕ → ℕ  -- by address
  pub ver : ℕ → ℕ  -- "The version is kept for each object": by address
  pub last : ℕ  -- last commit number
  pub ol : ℕ → ℕ  -- object locks, by address
  pub wl : ℕ → ℕ  -- whole locks, by page
  pub whole_for : ℕ → ℕ  -- by page: the transaction that the present 18 was given to
  pub asked : ℕ → Bool  -- 19 was sent for the present 18
  pub listed : ℕ → ℕ → Bool  -- station, page
  pub latest : ℕ → ℕ  -- latest transaction seen of the station
  pub fin : ℕ → Bool  -- it is finished
  pub age : ℕ → ℕ
  pub ages : ℕ  -- the age counter
  pub age_kept : ℕ → Bool  -- wish 2: the station keeps its age
  pub arrivals : ℕ  -- the arrival counter
  pub queue : ℕ → Waiter  -- the waiting list: a station's entry; a station waits for one thing at a time

abbrev pub set_kind : Server → (ℕ → ℕ) → Server
set_kind s x = record { kind = x; val = s.val; ver = s.ver; last = s.last; ol = s.ol; wl = s.wl; whole_for = s.whole_for; asked = s.asked; listed = s.listed; latest = s.latest; fin = s.fin; age = s.age; ages = s.ages; age_kept = s.age_kept; arrivals = s.arrivals; queue = s.queue }

abbrev pub set_val : Server → (ℕ → ℕ) → Server
set_val s x = record { kind = s.kind; val = x; ver = s.ver; last = s.last; ol = s.ol; wl = s.wl; whole_for = s.whole_for; asked = s.asked; listed = s.listed; latest = s.latest; fin = s.fin; age = s.age; ages = s.ages; age_kept = s.age_kept; arrivals = s.arrivals; queue = s.queue }

abbrev pub set_ver : Server → (ℕ → ℕ) → Server
set_ver s x = record { kind = s.kind; val = s.val; ver = x; last = s.last; ol = s.ol; wl = s.wl; whole_for = s.whole_for; asked = s.asked; listed = s.listed; latest = s.latest; fin = s.fin; age = s.age; ages = s.ages; age_kept = s.age_kept; arrivals = s.arrivals; queue = s.queue }

abbrev pub set_last : Server → (ℕ) → Server
set_last s x = record { kind = s.kind; val = s.val; ver = s.ver; last = x; ol = s.ol; wl = s.wl; whole_for = s.whole_for; asked = s.asked; listed = s.listed; latest = s.latest; fin = s.fin; age = s.age; ages = s.ages; age_kept = s.age_kept; arrivals = s.arrivals; queue = s.queue }

abbrev pub set_ol : Server → (ℕ → ℕ) → Server
set_ol s x = record { kind = s.kind; val = s.val; ver = s.ver; last = s.last; ol = x; wl = s.wl; whole_for = s.whole_for; asked = s.asked; listed = s.listed; latest = s.latest; fin = s.fin; age = s.age; ages = s.ages; age_kept = s.age_kept; arrivals = s.arrivals; queue = s.queue }

abbrev pub set_wl : Server → (ℕ → ℕ) → Server
set_wl s x = record { kind = s.kind; val = s.val; ver = s.ver; last = s.last; ol = s.ol; wl = x; whole_for = s.whole_for; asked = s.asked; listed = s.listed; latest = s.latest; fin = s.fin; age = s.age; ages = s.ages; age_kept = s.age_kept; arrivals = s.arrivals; queue = s.queue }

abbrev pub set_whole_for : Server → (ℕ → ℕ) → Server
set_whole_for s x = record { kind = s.kind; val = s.val; ver = s.ver; last = s.last; ol = s.ol; wl = s.wl; whole_for = x; asked = s.asked; listed = s.listed; latest = s.latest; fin = s.fin; age = s.age; ages = s.ages; age_kept = s.age_kept; arrivals = s.arrivals; queue = s.queue }

abbrev pub set_asked : Server → (ℕ → Bool) → Server
set_asked s x = record { kind = s.kind; val = s.val; ver = s.ver; last = s.last; ol = s.ol; wl = s.wl; whole_for = s.whole_for; asked = x; listed = s.listed; latest = s.latest; fin = s.fin; age = s.age; ages = s.ages; age_kept = s.age_kept; arrivals = s.arrivals; queue = s.queue }

abbrev pub set_listed : Server → (ℕ → ℕ → Bool) → Server
set_listed s x = record { kind = s.kind; val = s.val; ver = s.ver; last = s.last; ol = s.ol; wl = s.wl; whole_for = s.whole_for; asked = s.asked; listed = x; latest = s.latest; fin = s.fin; age = s.age; ages = s.ages; age_kept = s.age_kept; arrivals = s.arrivals; queue = s.queue }

abbrev pub set_latest : Server → (ℕ → ℕ) → Server
set_latest s x = record { kind = s.kind; val = s.val; ver = s.ver; last = s.last; ol = s.ol; wl = s.wl; whole_for = s.whole_for; asked = s.asked; listed = s.listed; latest = x; fin = s.fin; age = s.age; ages = s.ages; age_kept = s.age_kept; arrivals = s.arrivals; queue = s.queue }

abbrev pub set_fin : Server → (ℕ → Bool) → Server
set_fin s x = record { kind = s.kind; val = s.val; ver = s.ver; last = s.last; ol = s.ol; wl = s.wl; whole_for = s.whole_for; asked = s.asked; listed = s.listed; latest = s.latest; fin = x; age = s.age; ages = s.ages; age_kept = s.age_kept; arrivals = s.arrivals; queue = s.queue }

abbrev pub set_age : Server → (ℕ → ℕ) → Server
set_age s x = record { kind = s.kind; val = s.val; ver = s.ver; last = s.last; ol = s.ol; wl = s.wl; whole_for = s.whole_for; asked = s.asked; listed = s.listed; latest = s.latest; fin = s.fin; age = x; ages = s.ages; age_kept = s.age_kept; arrivals = s.arrivals; queue = s.queue }

abbrev pub set_ages : Server → (ℕ) → Server
set_ages s x = record { kind = s.kind; val = s.val; ver = s.ver; last = s.last; ol = s.ol; wl = s.wl; whole_for = s.whole_for; asked = s.asked; listed = s.listed; latest = s.latest; fin = s.fin; age = s.age; ages = x; age_kept = s.age_kept; arrivals = s.arrivals; queue = s.queue }

abbrev pub set_age_kept : Server → (ℕ → Bool) → Server
set_age_kept s x = record { kind = s.kind; val = s.val; ver = s.ver; last = s.last; ol = s.ol; wl = s.wl; whole_for = s.whole_for; asked = s.asked; listed = s.listed; latest = s.latest; fin = s.fin; age = s.age; ages = s.ages; age_kept = x; arrivals = s.arrivals; queue = s.queue }

abbrev pub set_arrivals : Server → (ℕ) → Server
set_arrivals s x = record { kind = s.kind; val = s.val; ver = s.ver; last = s.last; ol = s.ol; wl = s.wl; whole_for = s.whole_for; asked = s.asked; listed = s.listed; latest = s.latest; fin = s.fin; age = s.age; ages = s.ages; age_kept = s.age_kept; arrivals = x; queue = s.queue }

abbrev pub set_queue : Server → (ℕ → Waiter) → Server
set_queue s x = record { kind = s.kind; val = s.val; ver = s.ver; last = s.last; ol = s.ol; wl = s.wl; whole_for = s.whole_for; asked = s.asked; listed = s.listed; latest = s.latest; fin = s.fin; age = s.age; ages = s.ages; age_kept = s.age_kept; arrivals = s.arrivals; queue = x }

abbrev pub fresh_server : (ℕ → ℕ) → Server
fresh_server k =
    record { kind = k; val = zeros; ver = zeros; last = 0; ol = zeros; wl = zeros; whole_for = zeros; asked = nowhere; listed = λ i p. false; latest = zeros; fin = λ i. true; age = zeros; ages = 1; age_kept = nowhere; arrivals = 1; queue = λ i. no_waiter }

-- a server's step under way: the server, the messages sent in order, the records archived
pub record Serving : Type 0 where
  pub server : Server
  pub sent : List Sent
  pub recs : List Rec

abbrev pub serving_server : Serving → (Server) → Serving
serving_server s x = record { server = x; sent = s.sent; recs = s.recs }

abbrev pub serving_sent : Serving → (List Sent) → Serving
serving_sent s x = record { server = s.server; sent = x; recs = s.recs }

abbrev pub serving_recs : Serving → (List Rec) → Serving
serving_recs s x = record { server = s.server; sent = s.sent; recs = x }

abbrev pub on_server : Serving → Server → Serving
on_server x s = serving_server x s

abbrev pub send : Serving → ℕ → Down → Serving
send x i m = serving_sent x (snoc x.sent (To i m))

-- small questions

abbrev pub is_want : Want → Bool
is_want NoWant = false
is_want WantRead = true
is_want WantWrite = true
is_want WantCommit = true

abbrev pub waits : Server → ℕ → Bool
waits s i = is_want (s.queue i).want

abbrev pub other : ℕ → ℕ → Bool
other h i = not (eqb h 0) && not (eqb h (suc i))

-- "a commit wants all that it read or wrote"
abbrev pub wants : Server → ℕ → ℕ → Bool
wants s i a = (s.queue i).reads a || (s.queue i).writes a

abbrev pub wants_page : Server → ℕ → ℕ → Bool
wants_page s i p = any 8 (λ o. wants s i (address p o))

abbrev pub writes_page : Server → ℕ → ℕ → Bool
writes_page s i p = any 8 (λ o. (s.queue i).writes (address p o))

abbrev pub wrote_page : Work → ℕ → Bool
wrote_page w p = any 8 (λ o. has (w.writes (address p o)))

abbrev pub used_page : Work → ℕ → Bool
used_page w p = any 8 (λ o. has (w.reads (address p o)) || has (w.writes (address p o)))

-- "a lock of its own" on the page
abbrev pub lock_on : Server → ℕ → ℕ → Bool
lock_on s i p = eqb (s.wl p) (suc i) || any 8 (λ o. eqb (s.ol (address p o)) (suc i))

-- number 6 at the server

-- document 02: "naming a transaction above an unfinished one"
abbrev pub above_open : Server → ℕ → ℕ → Bool
above_open s i t = ltb (s.latest i) t && not (s.fin i)

-- "1 to 4 with a number below the station's latest, of a finished transaction, above an unfinished locking one or while it waits"
abbrev pub bad_number : Server → ℕ → ℕ → Bool
bad_number s i t =
    ltb t (s.latest i) || (eqb t (s.latest i) && s.fin i) || (ltb (s.latest i) t && not (s.fin i) && locking (s.kind i)) || waits s i

-- "a locking commit that writes an unlocked object"
abbrev pub unlocked : Server → ℕ → Work → Bool
unlocked s i w = locking (s.kind i) && any 256 (λ a. has (w.writes a) && not (eqb (s.ol a) (suc i)) && not (eqb (s.wl (page_of a)) (suc i)))

-- "2, 4, 6, 7, 8 from a validating station"; "5 or 7 dropping a page with a lock of its own"
abbrev pub unexpected : ℕ → Up → Server → Bool
unexpected i (ReadRequest a t) s = bad_number s i t
unexpected i (WriteRequest p t set) s = bad_number s i t || not (locking (s.kind i))
unexpected i (Commit w) s = bad_number s i w.transaction || unlocked s i w
unexpected i (Abort t) s = bad_number s i t || not (locking (s.kind i))
unexpected i (Purge p) s = lock_on s i p
unexpected i (Busy r t) s = not (locking (s.kind i))
unexpected i (Done r t d) s = not (locking (s.kind i)) || any 32 (λ p. d p && lock_on s i p)
unexpected i (WrittenSet p t set) s = not (locking (s.kind i)) || (keeps (s.kind i) && above_open s i t)

-- parts of the actions

-- AGES: "Young means the server saw its transaction's first message later; each transaction gets a new age", and wish 2: "A station aborted for
-- cause 1 now keeps its age for its next transactions"

-- what a new transaction's age is, and the counter afterwards
pub record Aged : Type 0 where
  pub age : ℕ
  pub ages : ℕ

-- kept or new: the age of a station's next transaction, by whether it keeps its age, the age that it has, and the counter
abbrev pub aged : Bool → ℕ → ℕ → Aged
aged true a n = record { age = a; ages = n }
aged false a n = record { age = n; ages = n + 1 }

unfoldable pub notice : ℕ → ℕ → Serving → Serving
notice i t x =
    let s = x.server in
    let g = aged (s.age_kept i) (s.age i) s.ages in
    cond (eqb t (s.latest i)) x
    (on_server x (set_latest (set_fin (set_age (set_ages s g.ages) (upd s.age i g.age)) (upd s.fin i false)) (upd s.latest i t)))

-- how a transaction ends at the server. A validating station's own abort and its higher number are none of these: "An end that a
-- validating station doesn't report ends no kept age."
pub data End : Type 0 where
  ByCommit : End
  ByCause : ℕ → End
  ByMessage : End

-- whether the station keeps its age behind it: "A station aborted for cause 1 now keeps its age for its next transactions, until ..."
abbrev pub keeps_age : End → Bool
keeps_age ByCommit = false  -- ".. one commits"
keeps_age (ByCause c) = eqb c 1  -- ".. the server aborts one for cause 2, 3 or 4"; another cause 1 keeps it
keeps_age ByMessage = false  -- ".. or an abort message arrives"

-- "every transaction's end frees its locks"; of a keeping station document 02 says that its "whole-page lock outlives commit and abort":
-- whether the whole lock of holder h goes when a transaction of station i, of kind k, ends
abbrev pub unlocks : ℕ → ℕ → ℕ → Bool
unlocks k i h = eqb h (suc i) && not (keeps k)

unfoldable pub finish : ℕ → End → Serving → Serving
finish i e x =
    let s = x.server in
    on_server x (set_age_kept (set_fin (set_ol (set_wl (set_whole_for (set_asked s
    (λ p. not (unlocks (s.kind i) i (s.wl p)) && s.asked p))
    (λ p. cond (unlocks (s.kind i) i (s.wl p)) 0 (s.whole_for p)))
    (λ p. cond (unlocks (s.kind i) i (s.wl p)) 0 (s.wl p)))
    (λ a. cond (eqb (s.ol a) (suc i)) 0 (s.ol a)))
    (upd s.fin i true))
    (upd s.age_kept i (keeps_age e)))

unfoldable pub join : ℕ → Waiter → Serving → Serving
join i w x = let s = x.server in on_server x (set_queue (set_arrivals s (s.arrivals + 1)) (upd s.queue i w))

unfoldable pub leave : ℕ → Serving → Serving
leave i x = on_server x (set_queue x.server (upd x.server.queue i no_waiter))

-- "eight values", and "eight of 4 bytes after the values": those of the page, and nothing of any other
abbrev pub values_on : ℕ → (ℕ → ℕ) → ℕ → ℕ
values_on p v b = cond (eqb (page_of b) p) (v b) 0

-- 16, 17, 18; "A station is listed as holding a page from the sending of 16, 17 or 18"
unfoldable pub send_page : Lock → ℕ → ℕ → (ℕ → Bool) → Serving → Serving
send_page l i a u x =
    let s = x.server in
    send (on_server x (set_listed s (upd2 s.listed i (page_of a) true))) i (Page l a (s.latest i) (values_on (page_of a) s.ver) u (values_on (page_of a) s.val))

-- "Unavailable in 16 to 18 are objects that others have locked or wait to write, without the one requested"; of a set without all of it
abbrev pub unavailable : Server → ℕ → ℕ → ℕ → Bool
unavailable s i a b = eqb (page_of b) (page_of a) && not (wants s i b) && (other (s.ol b) i || any 8 (λ j. not (eqb j i) && (s.queue j).writes b))

-- 22: "its locks and request go"                                                   P.abort, and U3l with cause 4
unfoldable pub abort : ℕ → ℕ → Serving → Serving
abort i c x = let y = finish i (ByCause c) (leave i x) in send y i (Aborted (y.server.latest i) c)

-- "Install: write values, archive the record, free locks, send 21, then, stations rising, 23" to other validating stations listed for a
-- written page                                                                     P.inst, and U3l
abbrev pub informed : Server → ℕ → Work → ℕ → Bool
informed s i w j = not (eqb j i) && not (locking (s.kind j)) && any 32 (λ p. wrote_page w p && s.listed j p)

unfoldable pub write : Work → Serving → Serving
write w x =
    let s = x.server in
    on_server x (set_val (set_ver (set_last s
    (s.last + 1))
    (λ a. cond (has (w.writes a)) (s.last + 1) (s.ver a)))
    (λ a. val_or (w.writes a) (s.val a)))

abbrev pub record_of : Server → ℕ → Work → Rec
record_of s i w = record { number = s.last; transaction = w.transaction; station = i; kind = s.kind i; reads = w.reads; writes = w.writes }

unfoldable pub archive : ℕ → Work → Serving → Serving
archive i w x = serving_recs x (snoc x.recs (record_of x.server i w))

-- "Kind 23 carries object sets by page": all that was written. "A listed copy remains listed after 23 unless purged."
unfoldable pub inform : ℕ → Work → ℕ → Serving → Serving
inform i w j x = cond (informed x.server i w j) (send x j (Invalidate (λ a. has (w.writes a)))) x

unfoldable pub inform_from : ℕ → ℕ → ℕ → Work → Serving → Serving
inform_from zero j i w x = x
inform_from (suc n) j i w x = inform_from n (suc j) i w (inform i w j x)

unfoldable pub install : ℕ → Work → Serving → Serving
install i w x = let y = finish i ByCommit (archive i w (write w (leave i x))) in inform_from 8 0 i w (send y i (Committed w.transaction y.server.last))

-- accept: the message's own effect

abbrev pub read_waiter : Server → ℕ → Waiter
read_waiter s a = record { want = WantRead; arrival = s.arrivals; req = a; work = no_work; reads = λ b. eqb b a; writes = nowhere; called = false; pend = nowhere; busy = nowhere }

-- "The request waits for all its objects"
abbrev pub write_waiter : Server → ℕ → (ℕ → Bool) → Waiter
write_waiter s p set = record { want = WantWrite; arrival = s.arrivals; req = address p 0; work = no_work; reads = nowhere; writes = λ b. eqb (page_of b) p && set b; called = false; pend = nowhere; busy = nowhere }

abbrev pub commit_waiter : Server → Work → Waiter
commit_waiter s w = record { want = WantCommit; arrival = s.arrivals; req = 0; work = w; reads = λ b. has (w.reads b); writes = λ b. has (w.writes b); called = false; pend = nowhere; busy = nowhere }

-- "Validating read: send 16 at the same step, unavailable set empty."               U1v
unfoldable pub serve_now : ℕ → ℕ → Serving → Serving
serve_now i a x = send_page NoLock i a nowhere x

-- U1l, U2, U3v
unfoldable pub join_read : ℕ → ℕ → Serving → Serving
join_read i a x = join i (read_waiter x.server a) x

unfoldable pub join_write : ℕ → ℕ → (ℕ → Bool) → Serving → Serving
join_write i p set x = join i (write_waiter x.server p set) x

unfoldable pub join_commit : ℕ → Work → Serving → Serving
join_commit i w x = join i (commit_waiter x.server w) x

-- "A locking commit installs without waiting"; "number 4,294,967,295 already used, cause 4 (so too a locking commit)"   U3l
unfoldable pub commit_now : ℕ → Work → Serving → Serving
commit_now i w x = cond (eqb x.server.last last_number) (abort i 4 x) (install i w x)

-- "until 5, a page in 7"                                                            U5, U7
unfoldable pub unlist : ℕ → (ℕ → Bool) → Serving → Serving
unlist i d x = let s = x.server in on_server x (set_listed s (λ j p. cond (eqb j i) (s.listed j p && not (d p)) (s.listed j p)))

-- "A 6, 7 or 8 that answers no open 20 or 19 of an unfinished transaction only drops its pages."
abbrev pub open_call : Server → ℕ → ℕ → ℕ → Bool
open_call s i r t = waits s r && eqb t (s.latest r) && (s.queue r).pend i

-- U6
unfoldable pub mark_busy : ℕ → ℕ → Serving → Serving
mark_busy i r x = let s = x.server in on_server x (set_queue s (upd s.queue r (waiter_busy (s.queue r) (upd (s.queue r).busy i true))))

-- U7
unfoldable pub answered : ℕ → ℕ → Serving → Serving
answered i r x =
    let s = x.server in
    on_server x (set_queue s (upd s.queue r (waiter_pend (waiter_busy (s.queue r) (upd (s.queue r).busy i false)) (upd (s.queue r).pend i false))))

-- "8 makes it locks on its set"                                                     U8
-- Document 02 of a keeping station's: it "is heeded either way"
abbrev pub open_ask : Server → ℕ → ℕ → ℕ → Bool
open_ask s i p t = eqb (s.wl p) (suc i) && s.asked p && (keeps (s.kind i) || (not (s.fin i) && eqb t (s.latest i)))

unfoldable pub loosen : ℕ → ℕ → (ℕ → Bool) → Serving → Serving
loosen i p set x =
    let s = x.server in
    on_server x (set_ol (set_wl (set_whole_for (set_asked s
    (upd s.asked p false))
    (upd s.whole_for p 0))
    (upd s.wl p 0))
    (λ a. cond (eqb (page_of a) p && set a) (suc i) (s.ol a)))

-- "A transaction that the server first meets through such an 8 gets its age then."
unfoldable pub meet : ℕ → ℕ → Serving → Serving
meet i t x = cond (ltb (x.server.latest i) t) (notice i t x) x

-- "its set is locked only if that transaction is unfinished"
abbrev pub heeded : Server → ℕ → ℕ → (ℕ → Bool) → ℕ → Bool
heeded s i t set a = not (s.fin i) && eqb t (s.latest i) && set a

unfoldable pub heed : ℕ → ℕ → ℕ → (ℕ → Bool) → Serving → Serving
heed i p t set x = let y = meet i t x in loosen i p (heeded y.server i t set) y

unfoldable pub accept : ℕ → Up → Serving → Serving
accept i (ReadRequest a t) x = cond (locking (x.server.kind i)) (join_read i a (notice i t x)) (serve_now i a (notice i t x))
accept i (WriteRequest p t set) x = join_write i p set (notice i t x)
accept i (Commit w) x = cond (locking (x.server.kind i)) (commit_now i w (notice i w.transaction x)) (join_commit i w (notice i w.transaction x))
accept i (Abort t) x = finish i ByMessage (notice i t x)
accept i (Purge p) x = unlist i (λ q. eqb q p) x
accept i (Busy r t) x = cond (open_call x.server i r t) (mark_busy i r x) x
accept i (Done r t d) x = let y = unlist i d x in cond (open_call x.server i r t) (answered i r y) y
accept i (WrittenSet p t set) x = cond (open_ask x.server i p t) (heed i p t set x) x

-- the pass: its gates

-- "Validating commit: number 4,294,967,295 already used, cause 4", and by document 02: "Cause 2 is given for a used object with another
-- version"; "behind causes 4 and 2, cause 3 is given exactly when a written object itself is locked by another". A page locked whole is asked
-- for by 19 and waited for, as a page that is only read (`shut`)
abbrev pub stale_at : Server → Work → ℕ → Bool
stale_at s w a = (has (w.reads a) && not (eqb (w.read_versions a) (s.ver a))) || (has (w.writes a) && not (eqb (w.written_versions a) (s.ver a)))

abbrev pub stale : Server → Work → Bool
stale s w = any 256 (stale_at s w)

abbrev pub locked_at : Server → ℕ → ℕ → Bool
locked_at s i a = (s.queue i).writes a && other (s.ol a) i

abbrev pub locked : Server → ℕ → Bool
locked s i = any 256 (locked_at s i)

abbrev pub fault : Server → ℕ → ℕ
fault s i = turned (eqb s.last last_number) 4 (turned (stale s (s.queue i).work) 2 (turned (locked s i) 3 0))

abbrev pub earlier : Server → ℕ → ℕ → Bool
earlier s j i = waits s j && ltb (s.queue j).arrival (s.queue i).arrival

-- "Blocked while another holds a lock on an object wanted, or an earlier waiter wants it and one of the two writes": j blocks i at a
abbrev pub blocks : Server → ℕ → ℕ → ℕ → Bool
blocks s i a j =
    (eqb (s.ol a) (suc j) && not (eqb j i)) || (earlier s j i && wants s j a && ((s.queue j).writes a || (s.queue i).writes a))

abbrev pub blocked_at : Server → ℕ → ℕ → Bool
blocked_at s i a = wants s i a && any 8 (blocks s i a)

abbrev pub blocked : Server → ℕ → Bool
blocked s i = any 256 (blocked_at s i)

-- the station that a lock names
abbrev pub holder : ℕ → ℕ
holder zero = 0
holder (suc h) = h

-- "Page locked whole by another"
abbrev pub shut : Server → ℕ → ℕ → Bool
shut s i p = wants_page s i p && other (s.wl p) i

-- by a keeping station
abbrev pub shut_kept : Server → ℕ → ℕ → Bool
shut_kept s i p = shut s i p && keeps (s.kind (holder (s.wl p)))

-- the pass: its actions, each for the waiter of station i

-- "send 19, once for each 18"; it names "the 18's transaction, as 19 always does"   P.19
unfoldable pub ask : ℕ → ℕ → Serving → Serving
ask h p x = let s = x.server in send (on_server x (set_asked s (upd s.asked p true))) h (Deescalate p (s.whole_for p))

-- "pages rising", of those pages that d says
unfoldable pub ask_from : (Server → ℕ → ℕ → Bool) → ℕ → ℕ → ℕ → Serving → Serving
ask_from d zero p i x = x
ask_from d (suc n) p i x = ask_from d n (suc p) i (cond (d x.server i p && not (x.server.asked p)) (ask (holder (x.server.wl p)) p x) x)

-- "Read: send 16."                                                                  P.read
unfoldable pub serve_read : ℕ → Serving → Serving
serve_read i x = let s = x.server in send_page NoLock i (s.queue i).req (unavailable s i (s.queue i).req) (leave i x)

-- "Write: once, send 20 naming the objects to be written to each other locking station listed for a page of theirs, stations
-- rising."                                                                          P.call
abbrev pub concerned : Server → ℕ → ℕ → Bool
concerned s i j = not (eqb j i) && ltb j 8 && locking (s.kind j) && any 32 (λ p. s.listed j p && writes_page s i p)

abbrev pub calls_from : ℕ → ℕ → Server → ℕ → List Sent
calls_from zero j s i = []
calls_from (suc n) j s i =
    cond (concerned s i j) (To j (Callback i (s.latest i) (s.queue i).writes) ∷ calls_from n (suc j) s i) (calls_from n (suc j) s i)

unfoldable pub call : ℕ → Serving → Serving
call i x =
    let s = x.server in
    serving_sent (on_server x (set_queue s (upd s.queue i (waiter_pend (waiter_called (s.queue i) true) (concerned s i))))) (x.sent ++ calls_from 8 0 s i)

-- "The whole page is locked (18) if no other locking station is listed and no other station has a lock there or waits to write
-- there; else the object (17)."
abbrev pub hinders : Server → ℕ → ℕ → ℕ → Bool
hinders s i p j = not (eqb j i) && ((locking (s.kind j) && s.listed j p) || lock_on s j p || writes_page s j p)

-- P.18
unfoldable pub grant_page : ℕ → Serving → Serving
grant_page i x =
    let s = x.server in
    let a = (s.queue i).req in
    let y = leave i x in
    send_page WholeLock i a (unavailable s i a)
    (on_server y (set_wl (set_whole_for (set_asked y.server
    (upd s.asked (page_of a) false))
    (upd s.whole_for (page_of a) (s.latest i)))
    (upd s.wl (page_of a) (suc i))))

-- P.17: "takes them in one step"
unfoldable pub grant_object : ℕ → Serving → Serving
grant_object i x =
    let s = x.server in
    let a = (s.queue i).req in
    let y = leave i x in
    send_page ObjectLock i a (unavailable s i a) (on_server y (set_ol y.server (λ b. cond ((s.queue i).writes b) (suc i) (s.ol b))))

unfoldable pub grant : ℕ → Serving → Serving
grant i x = let s = x.server in cond (any 8 (hinders s i (page_of (s.queue i).req))) (grant_object i x) (grant_page i x)

-- P.inst
unfoldable pub install_waiter : ℕ → Serving → Serving
install_waiter i x = install i (x.server.queue i).work x

-- one waiter's turn: the bullets are gates, looked at anew at every visit

-- "Write: once, send 20 ... When each has answered 7, lock or install."
unfoldable pub call_once : ℕ → Serving → Serving
call_once i x = cond (x.server.queue i).called x (call i x)

abbrev pub all_answered : Server → ℕ → Bool
all_answered s i = not (any 8 (s.queue i).pend)

unfoldable pub after_calls : Want → ℕ → Serving → Serving
after_calls NoWant i x = x
after_calls WantRead i x = x
after_calls WantWrite i x = cond (all_answered x.server i) (grant i x) x
after_calls WantCommit i x = cond (all_answered x.server i) (install_waiter i x) x

unfoldable pub proceed : Want → ℕ → Serving → Serving
proceed NoWant i x = x
proceed WantRead i x = serve_read i x
proceed WantWrite i x = after_calls WantWrite i (call_once i x)
proceed WantCommit i x = after_calls WantCommit i (call_once i x)

unfoldable pub gates : Want → ℕ → Serving → Serving
gates w i x =
    cond (blocked x.server i) x
    (cond (any 32 (shut x.server i)) (ask_from shut 32 0 i x)
    (proceed w i x))

unfoldable pub judge : ℕ → Serving → Serving
judge i x = cond (eqb (fault x.server i) 0) (gates WantCommit i x) (abort i (fault x.server i) x)

-- document 02: a keeping station gets 19 "as soon as another's waiting request or commit wants the page, even one blocked or given cause 3
-- (19 goes first), not 2 or 4"
unfoldable pub ask_keepers : ℕ → Serving → Serving
ask_keepers i x = ask_from shut_kept 32 0 i x

abbrev pub out_of_time : Server → ℕ → Bool
out_of_time s i = eqb s.last last_number || stale s (s.queue i).work

unfoldable pub visit : Want → ℕ → Serving → Serving
visit NoWant i x = x
visit WantRead i x = gates WantRead i (ask_keepers i x)
visit WantWrite i x = gates WantWrite i (ask_keepers i x)
visit WantCommit i x = judge i (cond (out_of_time x.server i) x (ask_keepers i x))

-- "the list is passed in order": the stations that wait, by arrival; 8 for none
abbrev pub first_from : ℕ → ℕ → Server → ℕ
first_from zero b s = 8
first_from (suc n) b s =
    let r = first_from n b s in
    cond (waits s n && not (ltb (s.queue n).arrival b) && (eqb r 8 || ltb (s.queue n).arrival (s.queue r).arrival)) n r

abbrev pub order : ℕ → ℕ → Server → List ℕ
order zero b s = []
order (suc n) b s =
    let i = first_from 8 b s in
    let rest = i ∷ order n ((s.queue i).arrival + 1) s in
    cond (eqb i 8) [] rest

unfoldable pub pass : List ℕ → Serving → Serving
pass [] x = x
pass (i ∷ l) x = pass l (visit (x.server.queue i).want i x)

-- "A waits-for edge runs from a waiter to a lock's holder that blocks it, an earlier waiter that blocks it, and a station that sent 6
-- to it and not yet 7; none to the holder of a whole lock while 8 is awaited."
abbrev pub edge : Server → ℕ → ℕ → Bool
edge s i j = waits s i && ((s.queue i).busy j || any 256 (λ a. wants s i a && blocks s i a j))

abbrev pub edges : Server → ℕ → ℕ → Bool
edges s = memo 8 nowhere (λ i. memo 8 false (edge s i))

-- "the youngest in any cycle": 8 for none. Edges run from waiters, so only waiters are asked
abbrev pub youngest : ℕ → (ℕ → Bool) → (ℕ → ℕ) → ℕ
youngest zero c age = 8
youngest (suc n) c age =
    let r = youngest n c age in
    cond (c n && (eqb r 8 || ltb (age r) (age n))) n r

abbrev pub victim : Server → ℕ
victim s = let e = edges s in youngest 8 (λ i. waits s i && on_cycle 8 e i) s.age

-- "repeated until nothing changes": whatever changes sends a message
abbrev pub moved : Serving → Serving → Bool
moved x y = not (eqb (length x.sent) (length y.sent))

-- "When the pass rests and edges form a cycle, the youngest in any cycle gets 22, cause 1, its locks and request go, and the pass
-- runs again."
unfoldable pub settle : ℕ → Serving → Serving
settle zero x = x
settle (suc n) x =
    let y = pass (order 8 0 x.server) x in
    let again = settle n y in
    let v = victim y.server in
    let next = settle n (abort v 1 y) in
    cond (moved x y) again (cond (eqb v 8) y next)

-- a waiter not yet called weighs 3, a called one 2, a whole lock not yet asked 1: each round uses up one of at most 56
abbrev pub fuel : ℕ
fuel = 64

abbrev pub start : Server → Serving
start s = record { server = s; sent = []; recs = [] }

unfoldable pub server_step : ℕ → Up → Server → Serving
server_step i m s = settle fuel (accept i m (start s))
