-- "Station steps": the owner's operations and the station's step. Pure: a station in, a station, an answer and messages out.
use Rattle.std.specs.Prelude.{Bool, true, false, not, ◌&&◌, ◌||◌, cond, List, [], ◌∷◌, ℕ, zero, suc, ◌+◌, eqb, ltb, leb}
use Rattle.sets.specs.Base.{upd, snoc, Val, none, some, has, val_or, none_at, nowhere, zeros, any, turned}
use Rattle.sets.specs.Size.{size}
use Rattle.limits.specs.Limit.{limit}
use Rattle.line.specs.Messages.{page_of, address, last_number, locking, keeps, Work, Up, ReadRequest, WriteRequest, Commit, Abort, Purge, Busy, Done, WrittenSet, Lock, NoLock, ObjectLock, WholeLock, Down, Page, Deescalate, Callback, Committed, Aborted, Invalidate, Answer, Nothing, Begun, Value, Waits, Written, CommittedAs, AbortedFor, Purged, Refused}

-- what the owner waits for
pub data Wait : Type 0 where
  Idle : Wait
  ForRead : ℕ → Wait  -- address
  ForWrite : ℕ → (ℕ → Val) → Wait  -- page; "The owner gives a value for each object": what is written, by address
  ForCommit : Wait

-- a callback kept for a requester: its transaction and the addresses named
pub data Kept : Type 0 where
  NotKept : Kept
  KeptCall : ℕ → (ℕ → Bool) → Kept

pub record Station : Type 0 where
  pub kind : ℕ
  pub num : ℕ  -- "A station numbers its transactions from 1": the latest begun
  pub opened : Bool  -- "one open at a time"
  pub cached : ℕ → Bool  -- by page
  pub cver : ℕ → ℕ  -- version of the copy, by address
  pub copy : ℕ → ℕ  -- by address
  pub unav : ℕ → Bool  -- unavailable, by address
  pub rd : ℕ → Val  -- recorded reads
  pub wr : ℕ → Val  -- own last writes
  pub seen : ℕ → ℕ  -- by address: the copy's version when the transaction first used the object
  pub wait : Wait
  pub ol : ℕ → Bool  -- own object locks
  pub wl : ℕ → Bool  -- own whole locks, by page
  pub kept : ℕ → Kept  -- by requester

abbrev pub set_kind : Station → (ℕ) → Station
set_kind s x = record { kind = x; num = s.num; opened = s.opened; cached = s.cached; cver = s.cver; copy = s.copy; unav = s.unav; rd = s.rd; wr = s.wr; seen = s.seen; wait = s.wait; ol = s.ol; wl = s.wl; kept = s.kept }

abbrev pub set_num : Station → (ℕ) → Station
set_num s x = record { kind = s.kind; num = x; opened = s.opened; cached = s.cached; cver = s.cver; copy = s.copy; unav = s.unav; rd = s.rd; wr = s.wr; seen = s.seen; wait = s.wait; ol = s.ol; wl = s.wl; kept = s.kept }

abbrev pub set_opened : Station → (Bool) → Station
set_opened s x = record { kind = s.kind; num = s.num; opened = x; cached = s.cached; cver = s.cver; copy = s.copy; unav = s.unav; rd = s.rd; wr = s.wr; seen = s.seen; wait = s.wait; ol = s.ol; wl = s.wl; kept = s.kept }

abbrev pub set_cached : Station → (ℕ → Bool) → Station
set_cached s x = record { kind = s.kind; num = s.num; opened = s.opened; cached = x; cver = s.cver; copy = s.copy; unav = s.unav; rd = s.rd; wr = s.wr; seen = s.seen; wait = s.wait; ol = s.ol; wl = s.wl; kept = s.kept }

abbrev pub set_cver : Station → (ℕ → ℕ) → Station
set_cver s x = record { kind = s.kind; num = s.num; opened = s.opened; cached = s.cached; cver = x; copy = s.copy; unav = s.unav; rd = s.rd; wr = s.wr; seen = s.seen; wait = s.wait; ol = s.ol; wl = s.wl; kept = s.kept }

abbrev pub set_copy : Station → (ℕ → ℕ) → Station
set_copy s x = record { kind = s.kind; num = s.num; opened = s.opened; cached = s.cached; cver = s.cver; copy = x; unav = s.unav; rd = s.rd; wr = s.wr; seen = s.seen; wait = s.wait; ol = s.ol; wl = s.wl; kept = s.kept }

abbrev pub set_unav : Station → (ℕ → Bool) → Station
set_unav s x = record { kind = s.kind; num = s.num; opened = s.opened; cached = s.cached; cver = s.cver; copy = s.copy; unav = x; rd = s.rd; wr = s.wr; seen = s.seen; wait = s.wait; ol = s.ol; wl = s.wl; kept = s.kept }

abbrev pub set_rd : Station → (ℕ → Val) → Station
set_rd s x = record { kind = s.kind; num = s.num; opened = s.opened; cached = s.cached; cver = s.cver; copy = s.copy; unav = s.unav; rd = x; wr = s.wr; seen = s.seen; wait = s.wait; ol = s.ol; wl = s.wl; kept = s.kept }

abbrev pub set_wr : Station → (ℕ → Val) → Station
set_wr s x = record { kind = s.kind; num = s.num; opened = s.opened; cached = s.cached; cver = s.cver; copy = s.copy; unav = s.unav; rd = s.rd; wr = x; seen = s.seen; wait = s.wait; ol = s.ol; wl = s.wl; kept = s.kept }

abbrev pub set_seen : Station → (ℕ → ℕ) → Station
set_seen s x = record { kind = s.kind; num = s.num; opened = s.opened; cached = s.cached; cver = s.cver; copy = s.copy; unav = s.unav; rd = s.rd; wr = s.wr; seen = x; wait = s.wait; ol = s.ol; wl = s.wl; kept = s.kept }

abbrev pub set_wait : Station → (Wait) → Station
set_wait s x = record { kind = s.kind; num = s.num; opened = s.opened; cached = s.cached; cver = s.cver; copy = s.copy; unav = s.unav; rd = s.rd; wr = s.wr; seen = s.seen; wait = x; ol = s.ol; wl = s.wl; kept = s.kept }

abbrev pub set_ol : Station → (ℕ → Bool) → Station
set_ol s x = record { kind = s.kind; num = s.num; opened = s.opened; cached = s.cached; cver = s.cver; copy = s.copy; unav = s.unav; rd = s.rd; wr = s.wr; seen = s.seen; wait = s.wait; ol = x; wl = s.wl; kept = s.kept }

abbrev pub set_wl : Station → (ℕ → Bool) → Station
set_wl s x = record { kind = s.kind; num = s.num; opened = s.opened; cached = s.cached; cver = s.cver; copy = s.copy; unav = s.unav; rd = s.rd; wr = s.wr; seen = s.seen; wait = s.wait; ol = s.ol; wl = x; kept = s.kept }

abbrev pub set_kept : Station → (ℕ → Kept) → Station
set_kept s x = record { kind = s.kind; num = s.num; opened = s.opened; cached = s.cached; cver = s.cver; copy = s.copy; unav = s.unav; rd = s.rd; wr = s.wr; seen = s.seen; wait = s.wait; ol = s.ol; wl = s.wl; kept = x }

abbrev pub fresh_station : ℕ → Station
fresh_station k =
    record { kind = k; num = 0; opened = false; cached = nowhere; cver = zeros; copy = zeros; unav = nowhere; rd = none_at; wr = none_at; seen = zeros; wait = Idle; ol = nowhere; wl = nowhere; kept = λ r. NotKept }

-- what a call does: the station afterwards, the answer, the messages sent up in order
pub record Did : Type 0 where
  pub station : Station
  pub answer : Answer
  pub sent : List Up

abbrev pub did_station : Did → (Station) → Did
did_station s x = record { station = x; answer = s.answer; sent = s.sent }

abbrev pub did_answer : Did → (Answer) → Did
did_answer s x = record { station = s.station; answer = x; sent = s.sent }

abbrev pub did_sent : Did → (List Up) → Did
did_sent s x = record { station = s.station; answer = s.answer; sent = x }

abbrev pub does : Answer → Station → List Up → Did
does a s m = record { station = s; answer = a; sent = m }

-- "Refused calls answer the number, send nothing and change no state": number 0 is none
abbrev pub unless : ℕ → Did → Station → Did
unless n d s = cond (eqb n 0) d (does (Refused n) s [])

-- small questions

abbrev pub waiting : Wait → Bool
waiting Idle = false
waiting (ForRead a) = true
waiting (ForWrite p f) = true
waiting ForCommit = true

abbrev pub for_read : Wait → ℕ → Bool
for_read Idle b = false
for_read (ForRead a) b = eqb b a
for_read (ForWrite p f) b = false
for_read ForCommit b = false

abbrev pub for_write : Wait → ℕ → Bool
for_write Idle b = false
for_write (ForRead a) b = false
for_write (ForWrite p f) b = has (f b)
for_write ForCommit b = false

-- a write of this page is out
abbrev pub writes_to : Wait → ℕ → Bool
writes_to Idle p = false
writes_to (ForRead a) p = false
writes_to (ForWrite q f) p = eqb p q
writes_to ForCommit p = false

abbrev pub for_commit : Wait → Bool
for_commit Idle = false
for_commit (ForRead a) = false
for_commit (ForWrite p f) = false
for_commit ForCommit = true

-- a request for the page is out
abbrev pub requested : Wait → ℕ → Bool
requested Idle p = false
requested (ForRead a) p = eqb p (page_of a)
requested (ForWrite q f) p = eqb p q
requested ForCommit p = false

abbrev pub live : Station → ℕ → Bool
live s t = s.opened && eqb t s.num

-- "the transaction has read or written" the object; something on the page
abbrev pub used_at : Station → ℕ → Bool
used_at s a = has (s.rd a) || has (s.wr a)

abbrev pub used_page : Station → ℕ → Bool
used_page s p = any 8 (λ o. used_at s (address p o))

abbrev pub wrote_page : Station → ℕ → Bool
wrote_page s p = any 8 (λ o. has (s.wr (address p o)))

-- "an available cached object"
abbrev pub shown : Station → ℕ → Bool
shown s a = s.cached (page_of a) && not (s.unav a)

-- a dropped page leaves nothing behind
unfoldable pub drop_pages : (ℕ → Bool) → Station → Station
drop_pages d s =
    set_cached (set_cver (set_copy (set_unav s
    (λ a. not (d (page_of a)) && s.unav a))
    (λ a. cond (d (page_of a)) 0 (s.copy a)))
    (λ a. cond (d (page_of a)) 0 (s.cver a)))
    (λ p. not (d p) && s.cached p)

-- "Read, write": what happens in the copy. The version that a commit carries for an object (document 02, wish 6) is the one that its copy
-- had when the transaction first read or wrote it.

unfoldable pub record_read : ℕ → Station → Station
record_read a s = set_seen (set_rd s (upd s.rd a (some (s.copy a)))) (upd s.seen a (s.cver a))

-- the last write stands
abbrev pub or_val : Val → Val → Val
or_val none w = w
or_val (some v) w = some v

-- a set is written as one: f is what is written, by address
unfoldable pub write_local : (ℕ → Val) → Station → Station
write_local f s =
    set_seen (set_copy (set_wr s
    (λ a. or_val (f a) (s.wr a)))
    (λ a. val_or (f a) (s.copy a)))
    (λ a. cond (has (f a) && not (used_at s a)) (s.cver a) (s.seen a))

-- a keeping station's lock on a whole page, whatever transaction it was given to
abbrev pub kept_whole : Station → ℕ → Bool
kept_whole s p = keeps s.kind && s.wl p

-- callbacks

-- "drop each cached page named on which the transaction has read or written nothing and for which no request is out"; of a page under a
-- kept lock: "no callback drops one"
abbrev pub drops : (ℕ → Bool) → Station → ℕ → Bool
drops set s p = s.cached p && any 8 (λ o. set (address p o)) && not (used_page s p) && not (requested s.wait p) && not (kept_whole s p)

-- "mark the named objects unavailable" (on cached pages)
unfoldable pub mark : (ℕ → Bool) → Station → Station
mark set s = set_unav s (λ a. s.unav a || (s.cached (page_of a) && set a))

-- "mark ..., drop ..., and send 7"
unfoldable pub do_callback : ℕ → ℕ → (ℕ → Bool) → Did → Did
do_callback r t set d =
    let s = d.station in
    did_sent (did_station d (drop_pages (drops set s) (mark set s))) (snoc d.sent (Done r t (drops set s)))

unfoldable pub do_kept : ℕ → Kept → Did → Did
do_kept r NotKept d = d
do_kept r (KeptCall t set) d = do_callback r t set (did_station d (set_kept d.station (upd d.station.kept r NotKept)))

-- "Kept callbacks are done so, by rising requester, when the transaction ends"
unfoldable pub do_all_kept : ℕ → ℕ → Did → Did
do_all_kept zero r d = d
do_all_kept (suc n) r d = do_all_kept n (suc r) (do_kept r (d.station.kept r) d)

-- ends of a transaction

-- a kept lock stays: it "outlives commit and abort"
unfoldable pub closed : Station → Station
closed s = set_opened (set_wait (set_seen (set_rd (set_wr (set_ol (set_wl s (kept_whole s)) nowhere) none_at) none_at) zeros) Idle) false

unfoldable pub close : Did → Did
close d = do_all_kept 8 0 (did_station d (closed d.station))

-- "However aborted, a locking station marks written objects unavailable; a validating one drops written pages."
unfoldable pub undo : Station → Station
undo s = cond (locking s.kind) (mark (λ a. has (s.wr a)) s) (drop_pages (wrote_page s) s)

-- the owner's operations

-- 7 Waiting, 9 Open, 11 Spent
abbrev pub check_begin : Station → ℕ
check_begin s = turned (waiting s.wait) 7 (turned s.opened 9 (turned (eqb s.num last_number) 11 0))

-- 7 Waiting, 8 Closed, then others
abbrev pub open_then : Station → ℕ → ℕ
open_then s others = turned (waiting s.wait) 7 (turned (not s.opened) 8 others)

abbrev pub check_open : Station → ℕ
check_open s = open_then s 0

-- 15 Long (document 02, wish 1): "the owner's 49th recorded read or 49th written object". What was read or written before is not recorded
-- as read again, and what was written before is not one object more. A set is counted whole: all that is written with it
abbrev pub long_read : ℕ → Station → Bool
long_read a s = not (used_at s a) && leb limit (size 256 (λ b. has (s.rd b)))

abbrev pub long_write : (ℕ → Val) → Station → Bool
long_write f s = ltb limit (size 256 (λ b. has (s.wr b) || has (f b)))

-- 4 Range (an address is one byte: page 0 to 31, object 0 to 7), 7 Waiting, 8 Closed, 15 Long
abbrev pub check_read : ℕ → Station → ℕ
check_read a s = turned (not (ltb a 256)) 4 (open_then s (turned (long_read a s) 15 0))

-- sets of objects of one page

abbrev pub some_on : ℕ → (ℕ → Bool) → Bool
some_on p set = any 8 (λ o. set (address p o))

abbrev pub several_on : ℕ → (ℕ → Bool) → Bool
several_on p set = ltb 1 (size 8 (λ o. set (address p o)))

-- the first of a set from a on, that many to go; the last where there is none
abbrev pub lowest_from : ℕ → ℕ → (ℕ → Bool) → ℕ
lowest_from zero a set = a
lowest_from (suc n) a set = cond (set a) a (lowest_from n (suc a) set)

abbrev pub lowest_on : ℕ → (ℕ → Bool) → ℕ
lowest_on p set = lowest_from 7 (address p 0) set

-- 4 Range: "the empty set, or several objects from a validating owner, is number 4"
abbrev pub bad_set : ℕ → (ℕ → Val) → Station → Bool
bad_set p f s = not (ltb p 32) || not (some_on p (λ a. has (f a))) || (not (locking s.kind) && several_on p (λ a. has (f a)))

-- .., 7 Waiting, 8 Closed, 15 Long
abbrev pub check_write : ℕ → (ℕ → Val) → Station → ℕ
check_write p f s = turned (bad_set p f s) 4 (open_then s (turned (long_write f s) 15 0))

-- 4 Range, 7 Waiting ("a purge counts only for the requested page"), 10 Kept: "purging a page under a kept lock is number 10" too
abbrev pub check_purge : ℕ → Station → ℕ
check_purge p s = turned (not (ltb p 32)) 4 (turned (requested s.wait p) 7 (turned (used_page s p || not (s.cached p) || kept_whole s p) 10 0))

unfoldable pub own_begin : Station → Did
own_begin s = unless (check_begin s) (does (Begun (s.num + 1)) (set_opened (set_num s (s.num + 1)) true) []) s

unfoldable pub read_local : ℕ → Station → Did
read_local a s = does (Value (s.copy a)) (record_read a s) []

-- "An object not cached or unavailable is requested (1) and the owner gets 'waits'"
unfoldable pub read_ask : ℕ → Station → Did
read_ask a s = does Waits (set_wait s (ForRead a)) (ReadRequest a s.num ∷ [])

-- "afterwards it sees that value or its own last write. Otherwise an available cached object is read locally."
unfoldable pub read_as : ℕ → Val → Val → Station → Did
read_as a none none s = cond (shown s a) (read_local a s) (read_ask a s)
read_as a none (some v) s = does (Value v) s []
read_as a (some v) r s = does (Value v) s []

unfoldable pub own_read : ℕ → Station → Did
own_read a s = unless (check_read a s) (read_as a (s.wr a) (s.rd a) s) s

-- "A locking station writes locally under its lock on object or page, else sends 2." Of a validating one document 02 says: "It writes
-- locally only on available objects"; else it sends 1.
abbrev pub may_write : ℕ → Station → Bool
may_write a s = cond (locking s.kind) (s.ol a || s.wl (page_of a)) (shown s a)

-- "the request names those under no lock yet"
abbrev pub named : (ℕ → Val) → Station → ℕ → Bool
named f s a = has (f a) && not (may_write a s)

-- a validating station has one object to ask for
unfoldable pub write_ask : ℕ → (ℕ → Val) → Station → Did
write_ask p f s =
    does Waits (set_wait s (ForWrite p f))
    (cond (locking s.kind) (WriteRequest p s.num (named f s)) (ReadRequest (lowest_on p (named f s)) s.num) ∷ [])

-- "all are written when the grant arrives, at once if none is named"
unfoldable pub write_set : ℕ → (ℕ → Val) → Station → Did
write_set p f s = unless (check_write p f s) (cond (some_on p (named f s)) (write_ask p f s) (does Written (write_local f s) [])) s

-- the owner's call is of one page
abbrev pub of_page : ℕ → (ℕ → Val) → ℕ → Val
of_page p f a = cond (eqb (page_of a) p) (f a) none

unfoldable pub own_write : ℕ → (ℕ → Val) → Station → Did
own_write p f s = write_set p (of_page p f) s

-- "one version for each entry of its record ..; from a locking station all are 0"
abbrev pub version_sent : Station → (ℕ → Val) → ℕ → ℕ
version_sent s entries a = cond (not (locking s.kind) && has (entries a)) (s.seen a) 0

abbrev pub work_of : Station → Work
work_of s = record { transaction = s.num; reads = s.rd; writes = s.wr; read_versions = version_sent s s.rd; written_versions = version_sent s s.wr }

-- "Commit sends 3 and waits for 21 or 22."
unfoldable pub own_commit : Station → Did
own_commit s = unless (check_open s) (does Waits (set_wait s ForCommit) (Commit (work_of s) ∷ [])) s

-- "An owner's abort ends the transaction; a locking station sends 4."
unfoldable pub own_abort : Station → Did
own_abort s = unless (check_open s) (close (does (AbortedFor 0) (undo s) (cond (locking s.kind) (Abort s.num ∷ []) []))) s

unfoldable pub own_purge : ℕ → Station → Did
own_purge p s = unless (check_purge p s) (does Purged (drop_pages (λ q. eqb q p) s) (Purge p ∷ [])) s

-- the station's step

-- "A 16 that then comes for the ended transaction is taken and ignored."
abbrev pub ended : Station → ℕ → Bool
ended s t = not (locking s.kind) && not (live s t) && not (ltb s.num t)

-- 6: "a down message that fits neither station, kind nor open wait (19, 20, 23 and a 16 for an ended validating transaction need no wait)"
abbrev pub fits_page : Lock → ℕ → ℕ → Station → Bool
fits_page NoLock a t s = ended s t || (live s t && (for_read s.wait a || (not (locking s.kind) && for_write s.wait a)))
fits_page ObjectLock a t s = locking s.kind && live s t && writes_to s.wait (page_of a)
fits_page WholeLock a t s = locking s.kind && live s t && writes_to s.wait (page_of a)

abbrev pub fits : Down → Station → Bool
fits (Page l a t v u x) s = fits_page l a t s
fits (Deescalate p t) s = locking s.kind
fits (Callback r t set) s = locking s.kind
fits (Committed t n) s = live s t && for_commit s.wait
fits (Aborted t c) s = live s t && waiting s.wait
fits (Invalidate set) s = not (locking s.kind)

-- "An arriving page replaces the copy save for the transaction's own values."
unfoldable pub arrive : ℕ → (ℕ → ℕ) → (ℕ → Bool) → (ℕ → ℕ) → Station → Station
arrive p v u x s =
    set_cached (set_cver (set_copy (set_unav s
    (λ b. cond (eqb (page_of b) p) (u b) (s.unav b)))
    (λ b. cond (eqb (page_of b) p) (val_or (s.wr b) (x b)) (s.copy b)))
    (λ b. cond (eqb (page_of b) p) (v b) (s.cver b)))
    (upd s.cached p true)

-- "takes them in one step": 17 locks all that its 2 named, which with those locked before is all that is to be written
unfoldable pub take_lock : Lock → ℕ → Station → Station
take_lock NoLock a s = s
take_lock ObjectLock a s = set_ol s (λ b. s.ol b || for_write s.wait b)
take_lock WholeLock a s = set_wl s (upd s.wl (page_of a) true)

-- "the delivery that brings the page gives the owner's answer"
unfoldable pub answer_wait : Wait → Station → Did
answer_wait Idle s = does Nothing s []
answer_wait (ForRead a) s = does (Value (s.copy a)) (record_read a s) []
answer_wait (ForWrite p f) s = does Written (write_local f s) []
answer_wait ForCommit s = does Nothing s []

-- "taken and ignored"
abbrev pub ignored : ℕ → (ℕ → ℕ) → (ℕ → Bool) → (ℕ → ℕ) → Station → Did
ignored a v u x s = does Nothing s []

unfoldable pub on_page : Lock → ℕ → ℕ → (ℕ → ℕ) → (ℕ → Bool) → (ℕ → ℕ) → Station → Did
on_page l a t v u x s = cond (ended s t) (ignored a v u x s) (answer_wait s.wait (set_wait (arrive (page_of a) v u x (take_lock l a s)) Idle))

-- "On 19: send 8 with the objects written on that page, empty if that transaction is over; if it is open, the whole lock becomes
-- locks on those objects."
abbrev pub written_on : ℕ → ℕ → Station → ℕ → Bool
written_on p t s b = live s t && eqb (page_of b) p && has (s.wr b)

unfoldable pub loosen : ℕ → (ℕ → Bool) → Station → Station
loosen p set s = set_wl (set_ol s (λ b. s.ol b || set b)) (upd s.wl p false)

-- "Such an 8 names the open transaction, else the 18's transaction", of a keeping station; t is what the 19 names
abbrev pub answers_for : ℕ → Station → ℕ
answers_for t s = cond (keeps s.kind && s.opened) s.num t

-- a keeping station "gives up the whole lock", open or not
abbrev pub gives_up : ℕ → ℕ → Station → Bool
gives_up p t s = (keeps s.kind || live s t) && s.wl p

unfoldable pub on_deescalate : ℕ → ℕ → Station → Did
on_deescalate p t s =
    let u = answers_for t s in
    does Nothing (cond (gives_up p t s) (loosen p (written_on p u s) s) s) (WrittenSet p u (written_on p u s) ∷ [])

-- "the open transaction has read or written a named object"
abbrev pub in_use : (ℕ → Bool) → Station → Bool
in_use set s = any 256 (λ a. set a && used_at s a)

-- "Locking, on 20: if the open transaction has read or written a named object, send 6 and keep the callback, a newer one from that
-- requester replacing it; else mark .., drop .., and send 7."
unfoldable pub on_callback : ℕ → ℕ → (ℕ → Bool) → Station → Did
on_callback r t set s =
    cond (in_use set s)
    (does Nothing (set_kept s (upd s.kept r (KeptCall t set))) (Busy r t ∷ []))
    (do_callback r t set (does Nothing s []))

-- "on 21 the written objects, no longer their pages, take the commit number"
unfoldable pub on_committed : ℕ → Station → Did
on_committed n s = close (does (CommittedAs n) (set_cver s (λ a. cond (s.cached (page_of a) && has (s.wr a)) n (s.cver a))) [])

unfoldable pub on_aborted : ℕ → Station → Did
on_aborted c s = close (does (AbortedFor c) (undo s) [])

-- Validating, on 23: "the station marks those objects unavailable, and its transaction, if no commit is out, ends if it used one", as
-- aborted, cause 2
unfoldable pub on_invalidate : (ℕ → Bool) → Station → Did
on_invalidate set s =
    cond (in_use set s && not (for_commit s.wait))
    (close (does (AbortedFor 2) (undo (mark set s)) []))
    (does Nothing (mark set s) [])

unfoldable pub on_down : Down → Station → Did
on_down (Page l a t v u x) s = on_page l a t v u x s
on_down (Deescalate p t) s = on_deescalate p t s
on_down (Callback r t set) s = on_callback r t set s
on_down (Committed t n) s = on_committed n s
on_down (Aborted t c) s = on_aborted c s
on_down (Invalidate set) s = on_invalidate set s

unfoldable pub station_step : Down → Station → Did
station_step m s = unless (turned (not (fits m s)) 6 0) (on_down m s) s
