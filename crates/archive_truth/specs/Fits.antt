-- What the records of every run fit into: document 01's bytes. One invariant of the line, carried over every call: the values in copies, in
-- pages under way and at the server, what stations and commits under way have read and written, and the records archived.
use Rattle.std.specs.Prelude.{◌≡◌, refl, Bool, true, false, ◌&&◌, cond, List, [], ◌∷◌, ◌++◌, ℕ, zero, suc, ◌+◌, ◌^◌, ◌≤◌, ◌<◌, eqb, ltb}
use Rattle.std.proofs.Math.Bool.{not}
use Rattle.std.proofs.lemmas.Bool.{false≢true}
use Rattle.std.proofs.Common.{arith}
use Rattle.sets.specs.Base.{upd, Val, none, some, val_or, none_at, nowhere, turned, any}
use Rattle.sets.specs.Laws.{by_b, by_eq}
use Rattle.sets.proofs.Laws.{eqb_yes, eqb_no, ltb_yes}
use Rattle.line.specs.All.{All, all_append}
use Rattle.kinds.specs.Kinds.{most_kind}
use Rattle.line.specs.Messages.{page_of, last_number, locking, Work, Up, ReadRequest, WriteRequest, Commit, Abort, Purge, Busy, Done, WrittenSet, Lock, NoLock, ObjectLock, WholeLock, Down, Page, Deescalate, Callback, Committed, Aborted, Invalidate, Sent, To, Rec, Answer, Nothing, Begun, Value, Waits, Written, CommittedAs, AbortedFor, Purged, Refused, Empty}
use Rattle.line.specs.Station as S
use Rattle.line.specs.Station.{Station, Did, unless, Wait, Idle, ForRead, ForWrite, ForCommit, waiting, Kept, NotKept, KeptCall, shown, used_at, for_commit, live, ended, fits, check_begin, open_then, check_open, long_read, check_purge, drop_pages, record_read, write_local, mark, do_callback, do_kept, do_all_kept, closed, close, undo, own_begin, read_local, read_ask, read_as, own_read, write_ask, own_write, own_commit, own_abort, own_purge, arrive, take_lock, answer_wait, on_page, on_deescalate, on_callback, on_committed, on_aborted, on_invalidate, on_down, station_step, or_val, some_on, bad_set, check_read, check_write, named, write_set, of_page}
use Rattle.line.specs.Server.{Server, Serving, Waiter, no_waiter, Want, NoWant, WantRead, WantWrite, WantCommit, unexpected, notice, finish, join, leave, send_page, abort, informed, write, archive, inform, inform_from, install, serve_now, join_read, join_write, join_commit, commit_now, unlist, open_call, mark_busy, answered, open_ask, loosen, accept, ask, serve_read, concerned, calls_from, call, grant_page, grant_object, install_waiter, start, server_step, heed}
use Rattle.line.specs.Pass.{Atomic, if_keeps, step_keeps, met_keeps}
use Rattle.line.specs.Line.{World, Op, Begin, Read, Write, Commits, Aborts, Purges, Call, Owner, ServerTakes, StationTakes, Broken, fresh, world_down, tell, sent_to, carry_up, carry_down, perform, owner_acts, station_takes, server_takes, act, run, is_refused, WriteSet}
use Rattle.entries.specs.Entries.{FitVal, Within}
use Rattle.line.specs.Asks.{set_asks}

-- WHAT FITS

-- what is read or written: values of 8 bytes, nothing from address 256 on
pub record FitMap (f : ℕ → Val) : Type 0 where
  pub values : (a : ℕ) → FitVal (f a)
  pub within : Within f

-- a record of the archive
pub record FitRec (r : Rec) : Type 0 where
  pub station : r.station < 8
  pub kind : r.kind ≤ most_kind
  pub transaction_least : 1 ≤ r.transaction
  pub transaction_most : r.transaction ≤ 4294967295
  pub number_least : 1 ≤ r.number
  pub number_most : r.number ≤ 4294967295
  pub reads : FitMap r.reads
  pub writes : FitMap r.writes

-- the calls: each value written has 8 bytes
abbrev pub FitOp : Op → Type 0
FitOp Begin = Unit {0}
FitOp (Read a) = Unit {0}
FitOp (WriteSet p f) = (a : ℕ) → FitVal (of_page p f a)
FitOp Commits = Unit {0}
FitOp Aborts = Unit {0}
FitOp (Purges p) = Unit {0}

-- a write of one object
pub one_fits : (a v : ℕ) → v < 2 ^ 64 → FitOp (Write a v)
one_fits a v k b = by_eq (page_of b) (page_of a) (λ q. rw q (by_eq b a (λ e. rw e k) (λ e. rw e tt))) (λ q. rw q tt)

abbrev pub FitCall : Call → Type 0
FitCall (Owner i op) = FitOp op
FitCall (ServerTakes i) = Unit {0}
FitCall (StationTakes i) = Unit {0}
FitCall (Broken n) = Unit {0}

abbrev pub FitCalls : List Call → Type 0
FitCalls cs = All FitCall cs

-- what a commit brings
record FitWork (w : Work) : Type 0 where
  least : 1 ≤ w.transaction
  most : w.transaction ≤ last_number
  reads : FitMap w.reads
  writes : FitMap w.writes

abbrev FitUp : Up → Type 0
FitUp (ReadRequest a t) = Unit {0}
FitUp (WriteRequest p t set) = Unit {0}
FitUp (Commit w) = FitWork w
FitUp (Abort t) = Unit {0}
FitUp (Purge p) = Unit {0}
FitUp (Busy r t) = Unit {0}
FitUp (Done r t d) = Unit {0}
FitUp (WrittenSet p t set) = Unit {0}

abbrev FitDown : Down → Type 0
FitDown (Page l a t v u x) = (b : ℕ) → x b < 2 ^ 64
FitDown (Deescalate p t) = Unit {0}
FitDown (Callback r t set) = Unit {0}
FitDown (Committed t n) = Unit {0}
FitDown (Aborted t c) = Unit {0}
FitDown (Invalidate d) = Unit {0}

abbrev FitSent : Sent → Type 0
FitSent (To j m) = FitDown m

abbrev FitWait : Wait → Type 0
FitWait Idle = Unit {0}
FitWait (ForRead a) = a < 256
FitWait (ForWrite p f) = FitMap f
FitWait ForCommit = Unit {0}

abbrev FitWaiter : Want → Work → Type 0
FitWaiter NoWant w = Unit {0}
FitWaiter WantRead w = Unit {0}
FitWaiter WantWrite w = Unit {0}
FitWaiter WantCommit w = FitWork w

record FitStation (num : ℕ) (opened : Bool) (copy : ℕ → ℕ) (rd wr : ℕ → Val) (wait : Wait) : Type 0 where
  begun : opened ≡ true → 1 ≤ num
  most : num ≤ last_number
  copies : (a : ℕ) → copy a < 2 ^ 64
  reads : FitMap rd
  writes : FitMap wr
  waits : FitWait wait

record FitServer (kind val : ℕ → ℕ) (last : ℕ) (queue : ℕ → Waiter) : Type 0 where
  kinds : (i : ℕ) → kind i ≤ most_kind
  values : (a : ℕ) → val a < 2 ^ 64
  most : last ≤ last_number
  waiters : (i : ℕ) → FitWaiter (queue i).want (queue i).work

record FitServing (kind val : ℕ → ℕ) (last : ℕ) (queue : ℕ → Waiter) (sent : List Sent) (recs : List Rec) : Type 0 where
  server : FitServer kind val last queue
  sends : All FitSent sent
  records : All FitRec recs

record FitLine (s : Server) (t : ℕ → Station) (u : ℕ → List Up) (d : ℕ → List Down) (l : List Rec) : Type 0 where
  server : FitServer s.kind s.val s.last s.queue
  stations : (i : ℕ) → FitStation (t i).num (t i).opened (t i).copy (t i).rd (t i).wr (t i).wait
  ups : (i : ℕ) → All FitUp (u i)
  downs : (i : ℕ) → All FitDown (d i)
  records : All FitRec l

abbrev StationFits : Station → Type 0
StationFits s = FitStation s.num s.opened s.copy s.rd s.wr s.wait

abbrev DidFits : Did → Type 0
DidFits d = StationFits d.station × All FitUp d.sent

abbrev ServingFits : Serving → Type 0
ServingFits x = FitServing x.server.kind x.server.val x.server.last x.server.queue x.sent x.recs

abbrev LineFits : World → Type 0
LineFits w = FitLine w.server w.station w.up w.down w.archive

-- VALUES

map_none : FitMap none_at
map_none = record { values = λ a. tt; within = λ a h. refl }

map_upd : (f : ℕ → Val) (a x : ℕ) → a < 256 → x < 2 ^ 64 → FitMap f → FitMap (upd f a (some x))
map_upd f a x b k h =
    record {
      values = λ c. by_eq c a (λ e. rw e k) (λ e. rw e (h.values c));
      within = λ c l. by_eq c a (λ e. absurd (omega (arith, eqb_yes c a e))) (λ e. rw e (h.within c l));
    }

val_or_lem : (c : Val) (x : ℕ) → FitVal c → x < 2 ^ 64 → val_or c x < 2 ^ 64
val_or_lem none x h k = k
val_or_lem (some y) x h k = h

if_fits : (b : Bool) (x y : ℕ) → x < 2 ^ 64 → y < 2 ^ 64 → cond b x y < 2 ^ 64
if_fits true x y h k = h
if_fits false x y h k = k

-- THE STATION

if_did : (P : Did → Type 0) (b : Bool) {d e : Did} → (b ≡ true → P d) → (b ≡ false → P e) → P (cond b d e)
if_did P true t f = t refl
if_did P false t f = f refl

drop_fits : (d : ℕ → Bool) (s : Station) → StationFits s → StationFits (drop_pages d s)
unfolding drop_pages
drop_fits d s h =
    record { begun = h.begun; most = h.most; copies = λ a. if_fits (d (page_of a)) 0 (s.copy a) (omega arith) (h.copies a); reads = h.reads; writes = h.writes; waits = h.waits }

mark_fits : (set : ℕ → Bool) (s : Station) → StationFits s → StationFits (mark set s)
unfolding mark
mark_fits set s h = h

read_fits : (a : ℕ) (s : Station) → a < 256 → StationFits s → StationFits (record_read a s)
unfolding record_read
read_fits a s b h =
    record { begun = h.begun; most = h.most; copies = h.copies; reads = map_upd s.rd a (s.copy a) b (h.copies a) h.reads; writes = h.writes; waits = h.waits }

-- what is written over what was
map_over : (f g : ℕ → Val) → FitMap f → FitMap g → FitMap (λ a. or_val (f a) (g a))
map_over f g h k = record { values = λ a. one (f a) (h.values a) (g a) (k.values a); within = λ a l. rw (h.within a l) (k.within a l) }
  where
    one : (v : Val) → FitVal v → (w : Val) → FitVal w → FitVal (or_val v w)
    one none x w y = y
    one (some n) x w y = x

write_fits : (f : ℕ → Val) (s : Station) → FitMap f → StationFits s → StationFits (write_local f s)
unfolding write_local
write_fits f s k h =
    record { begun = h.begun; most = h.most; copies = λ c. val_or_lem (f c) (s.copy c) (k.values c) (h.copies c); reads = h.reads; writes = map_over f s.wr k h.writes; waits = h.waits }

wait_fits : (w : Wait) (s : Station) → FitWait w → StationFits s → StationFits (S.set_wait s w)
wait_fits w s k h = record { begun = h.begun; most = h.most; copies = h.copies; reads = h.reads; writes = h.writes; waits = k }

-- ends of a transaction

callback_fits : (r t : ℕ) (set : ℕ → Bool) (d : Did) → DidFits d → DidFits (do_callback r t set d)
unfolding do_callback
callback_fits r t set d h = (drop_fits _ (mark set d.station) (mark_fits set d.station h.0), all_append FitUp d.sent _ h.1 (tt, tt))

kept_fits : (r : ℕ) (k : Kept) (d : Did) → DidFits d → DidFits (do_kept r k d)
unfolding do_kept
kept_fits r NotKept d h = h
kept_fits r (KeptCall t set) d h = callback_fits r t set _ h

all_kept_fits : (n r : ℕ) (d : Did) → DidFits d → DidFits (do_all_kept n r d)
unfolding do_all_kept
all_kept_fits zero r d h = h
all_kept_fits (suc n) r d h = all_kept_fits n (suc r) (do_kept r (d.station.kept r) d) (kept_fits r (d.station.kept r) d h)

close_fits : (d : Did) → DidFits d → DidFits (close d)
unfolding close closed
close_fits d h =
    all_kept_fits 8 0 _
    (record { begun = λ e. absurd (false≢true e); most = h.0.most; copies = h.0.copies; reads = map_none; writes = map_none; waits = tt }, h.1)

undo_fits : (s : Station) → StationFits s → StationFits (undo s)
unfolding undo
undo_fits s h = by_b (locking s.kind) (λ e. rw e (mark_fits _ s h)) (λ e. rw e (drop_fits _ s h))

-- what a call that is not refused has passed

begin_passed : (a b c : Bool) → eqb (turned a 7 (turned b 9 (turned c 11 0))) 0 ≡ true → c ≡ false
begin_passed true b c e = absurd (false≢true e)
begin_passed false true c e = absurd (false≢true e)
begin_passed false false true e = absurd (false≢true e)
begin_passed false false false e = refl

open_passed : (a b : Bool) → eqb (turned a 7 (turned (not b) 8 0)) 0 ≡ true → b ≡ true
open_passed true b e = absurd (false≢true e)
open_passed false true e = refl
open_passed false false e = absurd (false≢true e)

address_passed : (b : Bool) (n : ℕ) → eqb (turned (not b) 4 n) 0 ≡ true → b ≡ true
address_passed true n e = refl
address_passed false n e = absurd (false≢true e)

-- the owner's operations

module _ (s : Station) (h : StationFits s) where
  unless_fits : (n : ℕ) (d : Did) → (eqb n 0 ≡ true → DidFits d) → DidFits (unless n d s)
  unless_fits n d k = if_did DidFits (eqb n 0) k (λ e. (h, tt))

  address_fits : (a : ℕ) → eqb (check_read a s) 0 ≡ true → a < 256
  address_fits a e = ltb_yes a 256 (address_passed (ltb a 256) (open_then s (turned (long_read a s) 15 0)) e)

  -- a set that 4 lets pass
  set_fits : (p : ℕ) (f : ℕ → Val) → ((a : ℕ) → FitVal (of_page p f a)) → eqb (check_write p (of_page p f) s) 0 ≡ true → FitMap (of_page p f)
  set_fits p f k e =
      let g = set_asks p f s (set_passed (bad_set p (of_page p f) s) _ e) in
      record {
        values = k;
        within = λ a l. by_eq (page_of a) p (λ q. let r = g.in_range in absurd (omega (arith, eqb_yes (page_of a) p q))) (λ q. rw q refl);
      }
    where
      set_passed : (b : Bool) (n : ℕ) → eqb (turned b 4 n) 0 ≡ true → b ≡ false
      set_passed true n z = absurd (false≢true z)
      set_passed false n z = refl

  begin_fits : DidFits (own_begin s)
  unfolding own_begin
  begin_fits =
      unless_fits (check_begin s) _
      (λ e.
      let n = eqb_no s.num last_number (begin_passed (waiting s.wait) s.opened (eqb s.num last_number) e) in
      (record { begun = λ q. omega arith; most = omega (arith, h.most, n); copies = h.copies; reads = h.reads; writes = h.writes; waits = h.waits }, tt))

  read_as_fits : (a : ℕ) → a < 256 → (w r : Val) → DidFits (read_as a w r s)
  unfolding read_as read_local read_ask
  read_as_fits a b none none = if_did DidFits (shown s a) (λ e. (read_fits a s b h, tt)) (λ e. (wait_fits (ForRead a) s b h, (tt, tt)))
  read_as_fits a b none (some v) = (h, tt)
  read_as_fits a b (some v) r = (h, tt)

  write_ask_fits : (p : ℕ) (f : ℕ → Val) → FitMap f → DidFits (write_ask p f s)
  unfolding write_ask
  write_ask_fits p f k = (wait_fits (ForWrite p f) s k h, (by_b (locking s.kind) (λ e. rw e tt) (λ e. rw e tt), tt))

  commit_fits : DidFits (own_commit s)
  unfolding own_commit
  commit_fits =
      unless_fits (check_open s) _
      (λ e. (
        wait_fits ForCommit s tt h,
        (record { least = h.begun (open_passed (waiting s.wait) s.opened e); most = h.most; reads = h.reads; writes = h.writes }, tt),
      ))

  own_abort_fits : DidFits (own_abort s)
  unfolding own_abort
  own_abort_fits =
      unless_fits (check_open s) _
      (λ e. close_fits _ (undo_fits s h, by_b (locking s.kind) (λ k. rw k (tt, tt)) (λ k. rw k tt)))

  perform_fits : (op : Op) → FitOp op → DidFits (perform op s)
  unfolding perform own_read own_write write_set own_purge
  perform_fits Begin k = begin_fits
  perform_fits (Read a) k = unless_fits (check_read a s) _ (λ e. read_as_fits a (address_fits a e) (s.wr a) (s.rd a))
  perform_fits (WriteSet p f) k =
      unless_fits (check_write p (of_page p f) s) _
      (λ e.
      let b = set_fits p f k e in
      if_did DidFits (some_on p (named (of_page p f) s)) (λ q. write_ask_fits p (of_page p f) b) (λ q. (write_fits (of_page p f) s b h, tt)))
  perform_fits Commits k = commit_fits
  perform_fits Aborts k = own_abort_fits
  perform_fits (Purges p) k = unless_fits (check_purge p s) _ (λ e. (drop_fits _ s h, (tt, tt)))

-- the station's step

lock_fits : (l : Lock) (a : ℕ) (s : Station) → StationFits s → StationFits (take_lock l a s)
unfolding take_lock
lock_fits NoLock a s h = h
lock_fits ObjectLock a s h = h
lock_fits WholeLock a s h = h

arrive_fits : (p : ℕ) (v : ℕ → ℕ) (u : ℕ → Bool) (x : ℕ → ℕ) (s : Station) → ((b : ℕ) → x b < 2 ^ 64) → StationFits s → StationFits (arrive p v u x s)
unfolding arrive
arrive_fits p v u x s k h =
    record {
      begun = h.begun;
      most = h.most;
      copies = λ b. if_fits (eqb (page_of b) p) (val_or (s.wr b) (x b)) (s.copy b) (val_or_lem (s.wr b) (x b) (h.writes.values b) (k b)) (h.copies b);
      reads = h.reads;
      writes = h.writes;
      waits = h.waits;
    }

answer_fits : (w : Wait) (s : Station) → FitWait w → StationFits s → DidFits (answer_wait w s)
unfolding answer_wait
answer_fits Idle s k h = (h, tt)
answer_fits (ForRead a) s k h = (read_fits a s k h, tt)
answer_fits (ForWrite p f) s k h = (write_fits f s k h, tt)
answer_fits ForCommit s k h = (h, tt)

module _ (s : Station) (h : StationFits s) where
  down_fits : (m : Down) → FitDown m → DidFits (on_down m s)
  unfolding on_down on_page on_deescalate S.loosen on_callback on_committed on_aborted on_invalidate
  down_fits (Page l a t v u x) k =
      if_did DidFits (ended s t) (λ e. (h, tt))
      (λ e. answer_fits s.wait _ h.waits (wait_fits Idle (arrive (page_of a) v u x (take_lock l a s)) tt (arrive_fits (page_of a) v u x (take_lock l a s) k (lock_fits l a s h))))
  down_fits (Deescalate p t) k = by_b (S.gives_up p t s) (λ e. rw e (h, (tt, tt))) (λ e. rw e (h, (tt, tt)))
  down_fits (Callback r t set) k =
      if_did DidFits (any 256 (λ a. set a && used_at s a)) (λ e. (h, (tt, tt))) (λ e. callback_fits r t set _ (h, tt))
  down_fits (Committed t n) k = close_fits _ (h, tt)
  down_fits (Aborted t c) k = close_fits _ (undo_fits s h, tt)
  down_fits (Invalidate d) k =
      if_did DidFits (any 256 (λ a. d a && used_at s a) && not (for_commit s.wait))
      (λ e. close_fits _ (undo_fits (mark d s) (mark_fits d s h), tt))
      (λ e. (mark_fits d s h, tt))

  step_fits : (m : Down) → FitDown m → DidFits (station_step m s)
  unfolding station_step
  step_fits m k = unless_fits s h (turned (not (fits m s)) 6 0) _ (λ e. down_fits m k)

-- THE SERVER

-- one message more
sends_one : {kind val : ℕ → ℕ} {last : ℕ} {queue : ℕ → Waiter} {sent : List Sent} {recs : List Rec} (m : Sent) → FitSent m
    → FitServing kind val last queue sent recs → FitServing kind val last queue (sent ++ (m ∷ [])) recs
sends_one {sent = sent} m k h = record { server = h.server; sends = all_append FitSent sent (m ∷ []) h.sends (k, tt); records = h.records }

-- another entry in the waiting list
waits_as : {kind val : ℕ → ℕ} {last : ℕ} {queue : ℕ → Waiter} {sent : List Sent} {recs : List Rec} (i : ℕ) (w : Waiter) → FitWaiter w.want w.work
    → FitServing kind val last queue sent recs → FitServing kind val last (upd queue i w) sent recs
waits_as i w k h =
    record {
      server = record { kinds = h.server.kinds; values = h.server.values; most = h.server.most; waiters = λ j. by_eq j i (λ e. rw e k) (λ e. rw e (h.server.waiters j)) };
      sends = h.sends;
      records = h.records;
    }

leave_fits : (i : ℕ) (x : Serving) → ServingFits x → ServingFits (leave i x)
unfolding leave
leave_fits i x h = waits_as i no_waiter tt h

page_fits : (l : Lock) (i a : ℕ) (u : ℕ → Bool) (x : Serving) → ServingFits x → ServingFits (send_page l i a u x)
unfolding send_page
page_fits l i a u x h =
    sends_one {sent = x.sent} (To i (Page l a _ _ u _)) (λ b. if_fits (eqb (page_of b) (page_of a)) (x.server.val b) 0 (h.server.values b) (omega arith)) h

notice_fits : (i t : ℕ) (x : Serving) → ServingFits x → ServingFits (notice i t x)
unfolding notice
notice_fits i t x h = if_keeps ServingFits (eqb t (x.server.latest i)) (λ e. h) (λ e. h)

abort_fits : (i c : ℕ) (x : Serving) → ServingFits x → ServingFits (abort i c x)
unfolding abort finish leave
abort_fits i c x h = sends_one {sent = x.sent} (To i (Aborted _ c)) tt (waits_as i no_waiter tt h)

inform_fits : (i : ℕ) (w : Work) (j : ℕ) (x : Serving) → ServingFits x → ServingFits (inform i w j x)
unfolding inform
inform_fits i w j x h = if_keeps ServingFits (informed x.server i w j) (λ e. sends_one {sent = x.sent} (To j (Invalidate _)) tt h) (λ e. h)

informs_fits : (n j i : ℕ) (w : Work) (x : Serving) → ServingFits x → ServingFits (inform_from n j i w x)
unfolding inform_from
informs_fits zero j i w x h = h
informs_fits (suc n) j i w x h = informs_fits n (suc j) i w (inform i w j x) (inform_fits i w j x h)

-- the number given is the next, and there is one
install_fits : (i : ℕ) (w : Work) (x : Serving) → i < 8 → x.server.last < last_number → FitWork w → ServingFits x → ServingFits (install i w x)
unfolding install finish archive write leave
install_fits i w x b l k h =
    let g = waits_as i no_waiter tt h in
    informs_fits 8 0 i w _
    (sends_one {sent = x.sent} (To i (Committed _ _)) tt
    (record {
      server =
          record {
            kinds = h.server.kinds;
            values = λ a. val_or_lem (w.writes a) (x.server.val a) (k.writes.values a) (h.server.values a);
            most = omega arith;
            waiters = g.server.waiters;
          };
      sends = h.sends;
      records =
          all_append FitRec x.recs _ h.records (
            record {
              station = b;
              kind = h.server.kinds i;
              transaction_least = k.least;
              transaction_most = k.most;
              number_least = omega arith;
              number_most = omega arith;
              reads = k.reads;
              writes = k.writes;
            },
            tt,
          );
    }))

calls_fit : (n j : ℕ) (s : Server) (i : ℕ) → All FitSent (calls_from n j s i)
calls_fit zero j s i = tt
calls_fit (suc n) j s i =
    let rest : All FitSent (calls_from n (suc j) s i) = calls_fit n (suc j) s i in
    by_b (concerned s i j) (λ e. rw e (tt, rest)) (λ e. rw e rest)

-- cause 4 is no fault's number: a number is left
number_left : (b : Bool) (n : ℕ) → turned b 4 n ≡ 0 → b ≡ false
number_left true n e = absurd (omega arith)
number_left false n e = refl

atomic_fits : Atomic ServingFits
unfolding ask serve_read leave call grant_object grant_page install_waiter
atomic_fits =
    record {
      aborts = λ i c x b t h. abort_fits i c x h;
      asks = λ i g p x b t u h. sends_one {sent = x.sent} (To g (Deescalate p _)) tt h;
      reads = λ i x b w c h. page_fits NoLock i (x.server.queue i).req _ _ (waits_as i no_waiter tt h);
      calls = λ i x b t u w c h.
          let g = waits_as i _ (h.server.waiters i) h in
          record { server = g.server; sends = all_append FitSent x.sent (calls_from 8 0 x.server i) h.sends (calls_fit 8 0 x.server i); records = h.records };
      objects = λ i x b w r h. page_fits ObjectLock i (x.server.queue i).req _ _ (waits_as i no_waiter tt h);
      pages = λ i x b w r e h. page_fits WholeLock i (x.server.queue i).req _ _ (waits_as i no_waiter tt h);
      installs = λ i x b w f r h.
          let n = eqb_no x.server.last last_number (number_left (eqb x.server.last last_number) _ f) in
          install_fits i (x.server.queue i).work x b (omega (arith, h.server.most, n)) (rw w at (h.server.waiters i)) h;
    }

commit_now_fits : (i : ℕ) (w : Work) (x : Serving) → i < 8 → FitWork w → ServingFits x → ServingFits (commit_now i w x)
unfolding commit_now
commit_now_fits i w x b k h =
    if_keeps ServingFits (eqb x.server.last last_number) (λ e. abort_fits i 4 x h)
    (λ e. install_fits i w x b (omega (arith, h.server.most, eqb_no x.server.last last_number e)) k h)

accept_fits : (i : ℕ) (m : Up) (x : Serving) → i < 8 → FitUp m → ServingFits x → ServingFits (accept i m x)
unfolding accept join_read join_write join_commit join serve_now finish unlist mark_busy answered loosen heed
accept_fits i (ReadRequest a t) x b k h =
    let g : ServingFits (notice i t x) = notice_fits i t x h in
    if_keeps ServingFits (locking (x.server.kind i)) (λ e. waits_as i _ tt g) (λ e. page_fits NoLock i a nowhere (notice i t x) g)
accept_fits i (WriteRequest p t set) x b k h = waits_as i _ tt (notice_fits i t x h)
accept_fits i (Commit w) x b k h =
    let g : ServingFits (notice i w.transaction x) = notice_fits i w.transaction x h in
    if_keeps ServingFits (locking (x.server.kind i)) (λ e. commit_now_fits i w (notice i w.transaction x) b k g) (λ e. waits_as i _ k g)
accept_fits i (Abort t) x b k h = notice_fits i t x h
accept_fits i (Purge p) x b k h = h
accept_fits i (Busy r t) x b k h = if_keeps ServingFits (open_call x.server i r t) (λ e. waits_as r _ (h.server.waiters r) h) (λ e. h)
accept_fits i (Done r t d) x b k h = if_keeps ServingFits (open_call x.server i r t) (λ e. waits_as r _ (h.server.waiters r) h) (λ e. h)
accept_fits i (WrittenSet p t set) x b k h = if_keeps ServingFits (open_ask x.server i p t) (λ e. met_keeps ServingFits i t x (notice_fits i t x h) h) (λ e. h)

serves_fit : (i : ℕ) (m : Up) (s : Server) → i < 8 → FitUp m → FitServer s.kind s.val s.last s.queue → ServingFits (server_step i m s)
serves_fit i m s b k h = step_keeps ServingFits atomic_fits i m s (accept_fits i m (start s) b k (record { server = h; sends = tt; records = tt }))

-- THE LINE

sent_to_fits : (i : ℕ) (l : List Sent) → All FitSent l → All FitDown (sent_to i l)
sent_to_fits i [] h = tt
sent_to_fits i (To j m ∷ l) h =
    let rest : All FitDown (sent_to i l) = sent_to_fits i l h.1 in
    by_eq i j (λ e. rw e (h.0, rest)) (λ e. rw e rest)

tell_fits : (i : ℕ) (op : Op) (n : Answer) (w : World) → LineFits w → LineFits (tell i op n w)
unfolding tell
tell_fits i op Nothing w h = h
tell_fits i op (Begun t) w h = h
tell_fits i op (Value v) w h = h
tell_fits i op Waits w h = h
tell_fits i op Written w h = h
tell_fits i op (CommittedAs n) w h = h
tell_fits i op (AbortedFor c) w h = h
tell_fits i op Purged w h = h
tell_fits i op (Refused n) w h = h
tell_fits i op Empty w h = h

-- a station moves
carry_up_fits : (i : ℕ) (d : Did) (w : World) → DidFits d → LineFits w → LineFits (carry_up i d w)
unfolding carry_up
carry_up_fits i d w k h =
    record {
      server = h.server;
      stations = λ j. by_eq j i (λ e. rw e k.0) (λ e. rw e (h.stations j));
      ups = λ j. by_eq j i (λ e. rw e (all_append FitUp (w.up i) d.sent (h.ups i) k.1)) (λ e. rw e (h.ups j));
      downs = h.downs;
      records = h.records;
    }

owner_fits : (i : ℕ) (op : Op) (w : World) → FitOp op → LineFits w → LineFits (owner_acts i op w).world
unfolding owner_acts
owner_fits i op w k h =
    let d : Did = perform op (w.station i) in
    tell_fits i op d.answer (carry_up i d w) (carry_up_fits i d w (perform_fits (w.station i) (h.stations i) op k) h)

station_fits : (i : ℕ) (l : List Down) (w : World) → w.down i ≡ l → LineFits w → LineFits (station_takes i l w).world
unfolding station_takes
station_fits i [] w e h = h
station_fits i (m ∷ l) w e h =
    let line : FitDown m × All FitDown l = rw e at (h.downs i) in
    let d : Did = station_step m (w.station i) in
    let v : World = world_down w (upd w.down i l) in
    by_b (is_refused d.answer) (λ u. rw u h)
    (λ u.
    rw u
    (tell_fits i (w.asked i) d.answer (carry_up i d v)
    (carry_up_fits i d v (step_fits (w.station i) (h.stations i) m line.0)
    (record { server = h.server; stations = h.stations; ups = h.ups; downs = λ j. by_eq j i (λ q. rw q line.1) (λ q. rw q (h.downs j)); records = h.records }))))

server_fits : (i : ℕ) (l : List Up) (w : World) → i < 8 → w.up i ≡ l → LineFits w → LineFits (server_takes i l w).world
unfolding server_takes carry_down
server_fits i [] w b e h = h
server_fits i (m ∷ l) w b e h =
    let line : FitUp m × All FitUp l = rw e at (h.ups i) in
    let x : Serving = server_step i m w.server in
    let k : ServingFits x = serves_fit i m w.server b line.0 h.server in
    by_b (unexpected i m w.server) (λ u. rw u h)
    (λ u.
    rw u
    (record {
      server = k.server;
      stations = h.stations;
      ups = λ j. by_eq j i (λ q. rw q line.1) (λ q. rw q (h.ups j));
      downs = λ j. all_append FitDown (w.down j) (sent_to j x.sent) (h.downs j) (sent_to_fits j x.sent k.sends);
      records = all_append FitRec w.archive x.recs h.records k.records;
    }))

act_fits : (c : Call) (w : World) → FitCall c → LineFits w → LineFits (act c w).world
unfolding act
act_fits (Owner i op) w k h = by_b (ltb i 8) (λ e. rw e (owner_fits i op w k h)) (λ e. rw e h)
act_fits (ServerTakes i) w k h = by_b (ltb i 8) (λ e. rw e (server_fits i (w.up i) w (ltb_yes i 8 e) refl h)) (λ e. rw e h)
act_fits (StationTakes i) w k h = by_b (ltb i 8) (λ e. rw e (station_fits i (w.down i) w refl h)) (λ e. rw e h)
act_fits (Broken n) w k h = h

run_fits : (cs : List Call) (w : World) → FitCalls cs → LineFits w → LineFits (run cs w)
unfolding run
run_fits [] w k h = h
run_fits (c ∷ cs) w k h = run_fits cs (act c w).world k.1 (act_fits c w k.0 h)

fresh_fits : (kinds : ℕ → ℕ) → ((i : ℕ) → kinds i ≤ most_kind) → LineFits (fresh kinds)
fresh_fits kinds k =
    record {
      server = record { kinds = k; values = λ a. omega arith; most = omega arith; waiters = λ i. tt };
      stations = λ i. record { begun = λ e. absurd (false≢true e); most = omega arith; copies = λ a. omega arith; reads = map_none; writes = map_none; waits = tt };
      ups = λ i. tt;
      downs = λ i. tt;
      records = tt;
    }

-- every record of every run
pub fits_run : (kinds : ℕ → ℕ) → ((i : ℕ) → kinds i ≤ most_kind) → (cs : List Call) → FitCalls cs → All FitRec (run cs (fresh kinds)).archive
fits_run kinds k cs f = (run_fits cs (fresh kinds) f (fresh_fits kinds k)).records
