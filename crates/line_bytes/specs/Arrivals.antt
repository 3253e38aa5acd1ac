-- Arrivals never run out. A transaction of a locking station asks for each address at most once to read it, and each time that it asks to write it
-- asks for an address that it has not written, and one of a validating station waits with its commit alone: so a transaction joins the waiting list at most 512 times. Eight stations number their
-- transactions up to 4,294,967,295.
use Rattle.std.specs.Prelude.{ℕ, zero, suc, ◌+◌, ◌*◌, ◌%◌, ◌≤◌, ◌<◌, ◌≡◌, Bool, not, ◌||◌, cond, List, [], ◌∷◌, ◌++◌, eqb}
use Rattle.std.proofs.Math.Path.{refl, ap, subst}
use Rattle.std.proofs.Common.{sym, ◌∙◌}
use Rattle.std.proofs.Math.Bool.{true, false}
use Rattle.std.proofs.lemmas.Bool.{false≢true}
use native.Mathlib.Omega.{arith}
use Rattle.sets.specs.Base.{upd, snoc, Val, none, some, has, none_at}
use Rattle.sets.specs.Laws.{by_b, by_eq}
use Rattle.sets.proofs.Laws.{eqb_same, eqb_yes, and_l, and_r, not_yes, not_no, any_no}
use Rattle.line.specs.Messages.{page_of, address, last_number, locking, keeps, Work, Lock, NoLock, ObjectLock, WholeLock, Up, ReadRequest, WriteRequest, Commit, Abort, Purge, Busy, Done, WrittenSet, Down, Value}
use Rattle.line.specs.Station.{Station, Did, does, Wait, Idle, ForRead, ForWrite, ForCommit, waiting, for_write, for_commit, live, written_on, answers_for, gives_up, some_on, lowest_on, may_write, named, or_val, of_page, drop_pages, record_read, write_local, mark, do_callback, closed, close, read_local, read_ask, write_ask, arrive, take_lock, on_deescalate, on_committed, on_aborted, station_step}
use Rattle.line.specs.Station
use Rattle.line.specs.Server.{Server, Serving, notice, finish, join, leave, send_page, abort, write, archive, install, serve_now, join_read, join_write, join_commit, commit_now, unlist, mark_busy, answered, loosen, accept, ask, serve_read, call, grant_page, grant_object, install_waiter, start, server_step, unexpected}
use Rattle.line.specs.Asks.{Asks, lowest_in_range, lowest_in}
use Rattle.line.specs.Line.{World, Op, Call, fresh, perform, run}
use Rattle.line.specs.Truth.{count}
use Rattle.line.specs.Fuel.{sum_to, nb, sum_le, sum_at, sum_1, nb_1}
use Rattle.line.specs.Pass.{Atomic, step_keeps, if_keeps}
use Rattle.line.specs.Runs.{Moves, run_keeps}
use Rattle.line.specs.Counters.{numbers_run}
use Rattle.truth.specs.Frame.{Owns, is_lock, ForPage, arrived, Takes}
use Rattle.truth.proofs.Frame.{count_append, performs, closes, takes, installs, accepts}
use Rattle.truth.proofs.ValidatedMoves.{perform_kind, step_kind}
use Rattle.truth.proofs.GoalsOwner.{undo_num}
use Rattle.server_state.specs.Layout.{counter_limit}
use Rattle.line_bytes.specs.Kinds.{server_kind}

-- WHO JOINS: "Every other request, and a validating commit, joins one waiting list by arrival."

abbrev joins : ℕ → Up → Bool
joins k (ReadRequest a t) = locking k
joins k (WriteRequest p t set) = true
joins k (Commit w) = not (locking k)
joins k (Abort t) = false
joins k (Purge p) = false
joins k (Busy r t) = false
joins k (Done r t d) = false
joins k (WrittenSet p t set) = false

-- THE SERVER: an arrival for each of these, and no other

abbrev ArrivedBy : ℕ → Serving → Type 0
ArrivedBy n x = x.server.arrivals ≤ n

install_arrived : (n i : ℕ) (w : Work) (x : Serving) → ArrivedBy n x → ArrivedBy n (install i w x)
unfolding finish archive write leave
install_arrived n i w x h = installs (ArrivedBy n) i w (λ j y e g. g) x h

acts_arrived : (n : ℕ) → Atomic (ArrivedBy n)
unfolding abort finish ask serve_read send_page leave call grant_object grant_page install_waiter
acts_arrived n =
    record {
      aborts = λ i c x b e h. h;
      asks = λ i g p x b e f h. h;
      reads = λ i x b e f h. h;
      calls = λ i x b e f g k h. h;
      objects = λ i x b e f h. h;
      pages = λ i x b e f g h. h;
      installs = λ i x b e f g h. install_arrived n i (x.server.queue i).work x h;
    }

noticed_arrivals : (i t : ℕ) (x : Serving) → (notice i t x).server.arrivals ≡ x.server.arrivals
unfolding notice
noticed_arrivals i t x = by_eq t (x.server.latest i) (λ e. rw e) (λ e. rw e)

accept_arrived : (i : ℕ) (x : Serving) (m : Up) → unexpected i m x.server ≡ false → ArrivedBy (x.server.arrivals + nb (joins (x.server.kind i) m)) (accept i m x)
unfolding join_read join_write join_commit join serve_now send_page commit_now abort finish leave unlist mark_busy answered loosen
accept_arrived i x =
    accepts i x (λ m y. ArrivedBy (x.server.arrivals + nb (joins (x.server.kind i) m)) y)
    (record {
      read_waits = λ a t u e. rw e (omega (arith, noticed_arrivals i t x));
      read_now = λ a t u e. omega (arith, noticed_arrivals i t x);
      write_waits = λ p t set u e. omega (arith, noticed_arrivals i t x);
      commit_now_lem =
          λ w u e f.
          let y = notice i w.transaction x in
          let n : ℕ = x.server.arrivals + nb (joins (x.server.kind i) (Commit w)) in
          if_keeps (ArrivedBy n) (eqb y.server.last last_number)
          (λ q. omega (arith, noticed_arrivals i w.transaction x))
          (λ q. install_arrived n i w y (omega (arith, noticed_arrivals i w.transaction x)));
      commit_waits = λ w u e. rw e (omega (arith, noticed_arrivals i w.transaction x));
      aborts = λ t u e. omega (arith, noticed_arrivals i t x);
      purges = λ p e. omega arith;
      busy = λ r t e. omega arith;
      busy_late = λ r t e. omega arith;
      dones = λ r t d e. omega arith;
      done_late = λ r t d e. omega arith;
      loosens = λ p t set e l. omega arith;
      loosens_new = λ p t set e k r. omega (arith, noticed_arrivals i t x);
      loosens_late = λ p t set e. omega arith;
    })

step_arrived : (i : ℕ) (m : Up) (s : Server) → unexpected i m s ≡ false → (server_step i m s).server.arrivals ≤ s.arrivals + nb (joins (s.kind i) m)
step_arrived i m s u = step_keeps (ArrivedBy (s.arrivals + nb (joins (s.kind i) m))) (acts_arrived (s.arrivals + nb (joins (s.kind i) m))) i m s (accept_arrived i (start s) m u)

-- A STATION'S SHARE

-- how many addresses have a value
abbrev used : (ℕ → Val) → ℕ
used f = sum_to 256 (λ a. nb (has (f a)))

used_most : (f : ℕ → Val) → used f ≤ 256
used_most f = sum_1 256 (λ a. nb (has (f a))) (λ a. nb_1 (has (f a)))

used_more : (f : ℕ → Val) (a v : ℕ) → used f ≤ used (upd f a (some v))
used_more f a v = sum_le 256 (λ b. nb (has (f b))) (λ b. nb (has (upd f a (some v) b))) (λ b. by_eq b a (λ e. rw e (nb_1 (has (f b)))) (λ e. rw e (omega arith)))

-- .. and of a set, with what was written before
with_more : (x y : Val) → nb (has y) ≤ nb (has (or_val x y))
with_more none y = omega arith
with_more (some v) y = nb_1 (has y)

set_more : (f w : ℕ → Val) → used w ≤ used (λ a. or_val (f a) (w a))
set_more f w = sum_le 256 (λ a. nb (has (w a))) (λ a. nb (has (or_val (f a) (w a)))) (λ a. with_more (f a) (w a))

set_new : (f w : ℕ → Val) (a : ℕ) → a < 256 → has (f a) ≡ true → w a ≡ none → used w + 1 ≤ used (λ b. or_val (f b) (w b))
set_new f w a l t n =
    sum_at 256 (λ b. nb (has (w b))) (λ b. nb (has (or_val (f b) (w b)))) 1 a (λ b. with_more (f b) (w b)) l (one (f a) (w a) t n)
  where
    one : (x y : Val) → has x ≡ true → y ≡ none → nb (has y) + 1 ≤ nb (has (or_val x y))
    one none y t n = absurd (false≢true t)
    one (some v) y t n = rw n (omega arith)

-- what a set writes, or was written
or_has : (x y : Val) → has (or_val x y) ≡ true → has x ≡ false → has y ≡ true
or_has none y t e = t
or_has (some v) y t e = absurd (false≢true (sym e))

used_new : (f : ℕ → Val) (a v : ℕ) → a < 256 → f a ≡ none → used f + 1 ≤ used (upd f a (some v))
used_new f a v l n =
    sum_at 256 (λ b. nb (has (f b))) (λ b. nb (has (upd f a (some v) b))) 1 a (λ b. by_eq b a (λ e. rw e (nb_1 (has (f b)))) (λ e. rw e (omega arith))) l
    (rw (n, eqb_same a) (omega arith))

used_less : (f : ℕ → Val) (a : ℕ) → a < 256 → f a ≡ none → used f + 1 ≤ 256
used_less f a l n = omega (arith, used_new f a 0 l n, used_most (upd f a (some 0)))

-- a request is out
abbrev asking : Wait → Bool
asking Idle = false
asking (ForRead a) = true
asking (ForWrite p f) = true
asking ForCommit = false

-- how often an open transaction has joined the list, at most
abbrev asks : ℕ → (ℕ → Val) → (ℕ → Val) → Wait → ℕ
asks k rd wr w = cond (locking k) (used rd + used wr + nb (asking w)) (nb (for_commit w))

abbrev share : Station → ℕ
share s = 512 * s.num + cond s.opened (asks s.kind s.rd s.wr s.wait) 512

-- a write that is out is of objects of one page, of which one is not yet written
record Writing (kind : ℕ) (wr : ℕ → Val) (p : ℕ) (f : ℕ → Val) : Type 0 where
  page_only_lem : (b : ℕ) → has (f b) ≡ true → page_of b ≡ p
  one : ℕ
  in_range : one < 256
  asked : has (f one) ≡ true
  unwritten : locking kind ≡ true → wr one ≡ none

-- what is written is locked, and of an open transaction; what is waited for is not yet read, or not all of it written
record Steady (kind : ℕ) (opened : Bool) (rd wr : ℕ → Val) (w : Wait) (ol wl : ℕ → Bool) : Type 0 where
  over : opened ≡ false → (a : ℕ) → wr a ≡ none
  locked : locking kind ≡ true → (a : ℕ) → has (wr a) ≡ true → (ol a || wl (page_of a)) ≡ true
  reading : (a : ℕ) → w ≡ ForRead a → (a < 256) × (rd a ≡ none)
  writing : (p : ℕ) (f : ℕ → Val) → w ≡ ForWrite p f → Writing kind wr p f

abbrev SteadyAt : Station → Type 0
SteadyAt s = Steady s.kind s.opened s.rd s.wr s.wait s.ol s.wl

asks_most : {k : ℕ} {o : Bool} {rd wr : ℕ → Val} {ol wl : ℕ → Bool} (w : Wait) → Steady k o rd wr w ol wl → asks k rd wr w ≤ 512
asks_most {k} {o} {rd} {wr} w h =
    by_b (locking k) (λ e. rw e (go w h e)) (λ e. rw e (omega (arith, nb_1 (for_commit w))))
  where
    go : {ol wl : ℕ → Bool} (w : Wait) → Steady k o rd wr w ol wl → locking k ≡ true → used rd + used wr + nb (asking w) ≤ 512
    go Idle h e = omega (arith, used_most rd, used_most wr)
    go (ForRead a) h e = let q = h.reading a refl in omega (arith, used_less rd a q.0 q.1, used_most wr)
    go (ForWrite p f) h e = let q = h.writing p f refl in omega (arith, used_most rd, used_less wr q.one q.in_range (q.unwritten e))
    go ForCommit h e = omega (arith, used_most rd, used_most wr)

-- A STATION'S MOVES: what it sends to join the list is in its share

record Paid (s : Station) (d : Did) : Type 0 where
  steady : SteadyAt d.station
  pays : count (joins s.kind) d.sent + share s ≤ share d.station

-- of an open transaction, by kind
open_pays : (j n : ℕ) (o : Bool) (x y : ℕ) → o ≡ true → j + x ≤ y → j + (512 * n + cond o x 512) ≤ 512 * n + cond o y 512
open_pays j n o x y e h = rw e (omega arith)

idle_asking : (w : Wait) → waiting w ≡ false → asking w ≡ false
idle_asking Idle e = refl
idle_asking (ForRead a) e = e
idle_asking (ForWrite p f) e = e
idle_asking ForCommit e = refl

idle_commit : (w : Wait) → waiting w ≡ false → for_commit w ≡ false
idle_commit Idle e = refl
idle_commit (ForRead a) e = refl
idle_commit (ForWrite p f) e = refl
idle_commit ForCommit e = e

not_waiting : {G : Type 0} (w v : Wait) → waiting w ≡ false → waiting v ≡ true → w ≡ v → G
not_waiting w v e f q = absurd (false≢true (sym e ∙ ap waiting q ∙ f))

or_true : (x : Bool) → (x || true) ≡ true
or_true true = refl
or_true false = refl

abbrev is_read : Wait → Bool
is_read Idle = false
is_read (ForRead a) = true
is_read (ForWrite p f) = false
is_read ForCommit = false

abbrev address_in : Wait → ℕ
address_in Idle = 0
address_in (ForRead a) = a
address_in (ForWrite p f) = p
address_in ForCommit = 0

abbrev values_in : Wait → ℕ → Val
values_in Idle = none_at
values_in (ForRead a) = none_at
values_in (ForWrite p f) = f
values_in ForCommit = none_at

quiet_done : (k : ℕ) (l : List Up) (r t : ℕ) (d : ℕ → Bool) → count (joins k) l ≡ 0 → count (joins k) (snoc l (Done r t d)) ≡ 0
quiet_done k l r t d e = omega (arith, count_append (joins k) l (Done r t d ∷ []), e)

-- closed, and nothing sent that joins
record Shut (k n : ℕ) (d : Did) : Type 0 where
  shut : d.station.opened ≡ false
  number : d.station.num ≡ n
  idle : d.station.wait ≡ Idle
  unwritten : (a : ℕ) → d.station.wr a ≡ none
  quiet : count (joins k) d.sent ≡ 0

module _ (s : Station) (h : SteadyAt s) where
  -- "7. Waiting": while nothing is waited for
  idle_steady : {k : ℕ} {o : Bool} {rd wr : ℕ → Val} {ol wl : ℕ → Bool} (w : Wait) → waiting w ≡ false → (o ≡ false → (a : ℕ) → wr a ≡ none)
      → (locking k ≡ true → (a : ℕ) → has (wr a) ≡ true → (ol a || wl (page_of a)) ≡ true) → Steady k o rd wr w ol wl
  idle_steady w e c l = record { over = c; locked = l; reading = λ a q. not_waiting w (ForRead a) e refl q; writing = λ p f q. not_waiting w (ForWrite p f) e refl q }

  unwritten : (a : ℕ) → locking s.kind ≡ true → (s.ol a || s.wl (page_of a)) ≡ false → s.wr a ≡ none
  unwritten a e f = go (s.wr a) refl
    where
      go : (x : Val) → s.wr a ≡ x → x ≡ none
      go none q = refl
      go (some v) q = absurd (false≢true (sym f ∙ h.locked e a (ap has q)))

  -- a transaction that is over leaves its whole share
  close_paid : (d : Did) → d.station.num ≡ s.num → count (joins s.kind) d.sent ≡ 0 → Paid s (close d)
  unfolding closed do_callback drop_pages mark
  close_paid d n e =
      let z =
      closes (Shut s.kind s.num)
      (λ r t set c q g. record { shut = g.shut; number = g.number; idle = g.idle; unwritten = g.unwritten; quiet = quiet_done s.kind c.sent r t _ g.quiet }) d
      (record { shut = refl; number = n; idle = refl; unwritten = λ a. refl; quiet = e }) in
      let most = asks_most s.wait h in
      record {
        steady =
            record {
              over = λ o. z.unwritten;
              locked = λ k a u. absurd (false≢true (sym (ap has (z.unwritten a)) ∙ u));
              reading = λ a q. absurd (false≢true (ap asking (sym z.idle ∙ q)));
              writing = λ p f q. absurd (false≢true (ap asking (sym z.idle ∙ q)));
            };
        pays = rw (z.shut, z.number) (by_b s.opened (λ o. rw o (omega (arith, z.quiet, most))) (λ o. rw o (omega (arith, z.quiet))));
      }

  -- a set of which nothing is named is locked, as what was written before
  at_hand : (p : ℕ) (f : ℕ → Val) → Asks p f → some_on p (named f s) ≡ false → locking s.kind ≡ true → (b : ℕ) → has (or_val (f b) (s.wr b)) ≡ true
      → (s.ol b || s.wl (page_of b)) ≡ true
  at_hand p f r q e b t =
      by_b (has (f b))
      (λ g.
      let on : p * 8 + b % 8 ≡ b = omega (arith, r.page_only_lem b g) in
      let none : named f s b ≡ false = rw on at (any_no 8 (λ o. named f s (address p o)) q (b % 8) (omega arith)) in
      not_no _ (rw (g, e) at none))
      (λ g. h.locked e b (or_has (f b) (s.wr b) t g))

  -- what a request names is not locked, so not written
  named_new : (f : ℕ → Val) (a : ℕ) → named f s a ≡ true → locking s.kind ≡ true → s.wr a ≡ none
  named_new f a n e = unwritten a e (not_yes _ (rw e at (and_r (has (f a)) (not (may_write a s)) n)))

  asked_for : (p : ℕ) (f : ℕ → Val) → Asks p f → some_on p (named f s) ≡ true → Writing s.kind s.wr p f
  asked_for p f r q =
      let a = lowest_on p (named f s) in
      let n = lowest_in p (named f s) q in
      record {
        page_only_lem = r.page_only_lem;
        one = a;
        in_range = lowest_in_range p (named f s) r.in_range;
        asked = and_l (has (f a)) _ n;
        unwritten = named_new f a n;
      }

  owner_paid : Owns s (λ op d. Paid s d)
  unfolding record_read read_local read_ask write_local write_ask drop_pages
  owner_paid =
      record {
        refused = λ op n. record { steady = h; pays = omega arith };
        begins =
            λ w c.
            record {
              steady = record { over = λ o. absurd (false≢true (sym o)); locked = h.locked; reading = h.reading; writing = h.writing };
              pays = rw c (omega arith);
            };
        reads_own = λ a v r k q. record { steady = h; pays = omega arith };
        reads_again = λ a v r k q f. record { steady = h; pays = omega arith };
        reads_here =
            λ a r k q f u.
            record {
              steady = idle_steady s.wait k.idle h.over h.locked;
              pays =
                  open_pays 0 s.num s.opened _ _ k.opened
                  (by_b (locking s.kind) (λ e. rw e (omega (arith, used_more s.rd a (s.copy a)))) (λ e. rw e (omega arith)));
            };
        reads_ask =
            λ a r k q f u.
            record {
              steady =
                  record {
                    over = h.over;
                    locked = h.locked;
                    reading = λ b e. let same : a ≡ b = ap (λ (w : Wait). address_in w) e in rw (← same) (r, f);
                    writing = λ p y e. absurd (false≢true (sym (ap is_read e)));
                  };
              pays =
                  open_pays _ s.num s.opened _ _ k.opened
                  (by_b (locking s.kind) (λ e. rw (e, idle_asking s.wait k.idle) (omega arith)) (λ e. rw (e, idle_commit s.wait k.idle) (omega arith)));
            };
        writes_here =
            λ p f r k q.
            record {
              steady = idle_steady s.wait k.idle (λ o. absurd (false≢true (sym o ∙ k.opened))) (λ e b t. at_hand p (of_page p f) r q e b t);
              pays =
                  open_pays 0 s.num s.opened _ _ k.opened
                  (by_b (locking s.kind) (λ e. rw e (omega (arith, set_more (of_page p f) s.wr))) (λ e. rw e (omega arith)));
            };
        writes_ask =
            λ p f r k q.
            record {
              steady =
                  record {
                    over = h.over;
                    locked = h.locked;
                    reading = λ b e. absurd (false≢true (ap is_read e));
                    writing = λ c y e. subst (λ (w : Wait). Writing s.kind s.wr (address_in w) (values_in w)) e (asked_for p (of_page p f) r q);
                  };
              pays =
                  open_pays _ s.num s.opened _ _ k.opened
                  (by_b (locking s.kind) (λ e. rw (e, idle_asking s.wait k.idle) (omega arith)) (λ e. rw (e, idle_commit s.wait k.idle) (rw e (omega arith))));
            };
        commits =
            λ k.
            record {
              steady = record { over = h.over; locked = h.locked; reading = λ a e. absurd (false≢true (ap asking e)); writing = λ p f e. absurd (false≢true (ap asking e)) };
              pays =
                  open_pays _ s.num s.opened _ _ k.opened
                  (by_b (locking s.kind) (λ e. rw (e, idle_asking s.wait k.idle) (omega arith)) (λ e. rw (e, idle_commit s.wait k.idle) (omega arith)));
            };
        aborts = λ k. close_paid _ (undo_num s) (by_b (locking s.kind) (λ e. rw e refl) (λ e. rw e refl));
        purges = λ p r q f u w. record { steady = h; pays = omega arith };
      }

  lock_keeps : (l : Lock) (a b : ℕ) → (s.ol b || s.wl (page_of b)) ≡ true → ((take_lock l a s).ol b || (take_lock l a s).wl (page_of b)) ≡ true
  unfolding take_lock
  lock_keeps NoLock a b e = e
  lock_keeps ObjectLock a b e = or_more (s.ol b) (for_write s.wait b) (s.wl (page_of b)) e
    where
      or_more : (x y z : Bool) → (x || z) ≡ true → ((x || y) || z) ≡ true
      or_more true y z k = refl
      or_more false true z k = refl
      or_more false false z k = k
  lock_keeps WholeLock a b e = by_eq (page_of b) (page_of a) (λ c. rw c (or_true (s.ol b))) (λ c. rw c e)

  -- a lock that arrives is on all that is to be written
  lock_gives : (l : Lock) (a p : ℕ) (f : ℕ → Val) → is_lock l ≡ true → s.wait ≡ ForWrite p f → ForPage l a p f → Writing s.kind s.wr p f → (b : ℕ) → has (f b) ≡ true
      → ((take_lock l a s).ol b || (take_lock l a s).wl (page_of b)) ≡ true
  unfolding take_lock
  lock_gives NoLock a p f e w c q b t = absurd (false≢true e)
  lock_gives ObjectLock a p f e w c q b t = rw (w, t) (both_ways (s.ol b) (s.wl (page_of b)))
    where
      both_ways : (x y : Bool) → ((x || true) || y) ≡ true
      both_ways true y = refl
      both_ways false y = refl
  lock_gives WholeLock a p f e w c q b t = rw (c, q.page_only_lem b t, eqb_same p) (or_true (s.ol b))

  lock_same : (l : Lock) (a : ℕ) → ((take_lock l a s).num ≡ s.num) × ((take_lock l a s).opened ≡ s.opened) × ((take_lock l a s).kind ≡ s.kind) × ((take_lock l a s).rd ≡ s.rd) × ((take_lock l a s).wr ≡ s.wr)
  unfolding take_lock
  lock_same NoLock a = (refl, refl, refl, refl, refl)
  lock_same ObjectLock a = (refl, refl, refl, refl, refl)
  lock_same WholeLock a = (refl, refl, refl, refl, refl)

  -- "8 with the objects written on that page": what was written under the whole lock is locked
  loosened : (p t : ℕ) → live s t ≡ true → (b : ℕ) → has (s.wr b) ≡ true → (s.ol b || s.wl (page_of b)) ≡ true → ((s.ol b || written_on p t s b) || upd s.wl p false (page_of b)) ≡ true
  loosened p t e b w q =
      by_eq (page_of b) p
      (λ c. rw (c, e, w) (either_way (s.ol b)))
      (λ c. rw (c, e) (kept (s.ol b) (s.wl (page_of b)) q))
    where
      either_way : (x : Bool) → ((x || true) || false) ≡ true
      either_way true = refl
      either_way false = refl

      kept : (x y : Bool) → (x || y) ≡ true → ((x || false) || y) ≡ true
      kept true y k = refl
      kept false y k = k

  -- what is written is an open transaction's, and a station that gives up a page of it answers for that one
  writes_opened : (b : ℕ) → has (s.wr b) ≡ true → s.opened ≡ true
  writes_opened b w = by_b s.opened (λ o. o) (λ o. absurd (false≢true (sym (ap has (h.over o b)) ∙ w)))

  answers_live : (p t : ℕ) → gives_up p t s ≡ true → s.opened ≡ true → live s (answers_for t s) ≡ true
  answers_live p t c o =
      by_b (keeps s.kind) (λ k. rw (k, o, eqb_same s.num))
      (λ k. rw k (rw k at (and_l (keeps s.kind || live s t) (s.wl p) c)))

  page_paid : (a t : ℕ) (v : ℕ → ℕ) (u : ℕ → Bool) (x : ℕ → ℕ) → live s t ≡ true → s.wait ≡ ForRead a
      → Paid s (does (Value ((arrived NoLock a v u x s).copy a)) (record_read a (arrived NoLock a v u x s)) [])
  unfolding take_lock record_read arrive
  page_paid a t v u x f p =
      let q = h.reading a p in
      record {
        steady = idle_steady Idle refl h.over h.locked;
        pays =
            open_pays 0 s.num s.opened _ _ (and_l s.opened _ f)
            (by_b (locking s.kind)
            (λ e. rw e (omega (arith, used_new s.rd a ((arrived NoLock a v u x s).copy a) q.0 q.1, ap (λ (w : Wait). nb (asking w)) p)))
            (λ e. rw e (omega (arith, ap (λ (w : Wait). nb (for_commit w)) p))));
      }

  station_paid : Takes s (λ m d. Paid s d)
  unfolding record_read write_local arrive on_deescalate Station.loosen do_callback drop_pages mark on_committed on_aborted
  station_paid =
      record {
        refused = λ m f. record { steady = h; pays = omega arith };
        old_page = λ a t v u x f. record { steady = h; pays = omega arith };
        page_read = λ a t v u x f p. page_paid a t v u x f p;
        page_write =
            λ l a t v u x p y f w o c.
            let z = lock_same l a in
            let q = h.writing p y w in
            record {
              steady =
                  rw (z.1, z.2, z.4)
                  (idle_steady Idle refl (λ o. absurd (false≢true (sym o ∙ and_l s.opened _ f)))
                  (λ e b t.
                  by_b (has (y b)) (λ g. lock_gives l a p y (sym o ∙ e) w c q b g)
                  (λ g. lock_keeps l a b (h.locked e b (or_has (y b) (s.wr b) t g)))));
              pays =
                  rw (z.0, z.1, z.2, z.3, z.4, w)
                  (open_pays 0 s.num s.opened _ _ (and_l s.opened _ f)
                  (by_b (locking s.kind) (λ e. rw e (omega (arith, set_new y s.wr q.one q.in_range q.asked (q.unwritten e)))) (λ e. rw e (omega arith))));
            };
        deescalates =
            λ p t f.
            by_b (gives_up p t s)
            (λ c.
            rw c
            (record {
              steady =
                  record {
                    over = h.over;
                    locked = λ e b w. loosened p (answers_for t s) (answers_live p t c (writes_opened b w)) b w (h.locked e b w);
                    reading = h.reading;
                    writing = h.writing;
                  };
              pays = omega arith;
            }))
            (λ c. rw c (record { steady = h; pays = omega arith }));
        keeps = λ r t set f u. record { steady = h; pays = omega arith };
        dones = λ r t set f u. record { steady = h; pays = omega arith };
        commits = λ t n f p. close_paid _ refl refl;
        aborts = λ t c f p. close_paid _ (undo_num s) refl;
        invalid_ends = λ d f u c. close_paid _ (undo_num (mark d s)) refl;
        invalid = λ d f u. record { steady = h; pays = omega arith };
      }

perform_paid : (op : Op) (s : Station) → SteadyAt s → Paid s (perform op s)
perform_paid op s h = performs s (λ o d. Paid s d) (owner_paid s h) op

step_paid : (m : Down) (s : Station) → SteadyAt s → Paid s (station_step m s)
step_paid m s h = takes s (λ n d. Paid s d) (station_paid s h) m

-- THE LINE: arrivals given, and messages under way that will be given one, are within the stations' shares

abbrev joining : (ℕ → Station) → (ℕ → List Up) → ℕ → ℕ
joining t u i = count (joins (t i).kind) (u i)

record Joined (s : Server) (t : ℕ → Station) (u : ℕ → List Up) : Type 0 where
  kinds : (i : ℕ) → s.kind i ≡ (t i).kind
  steady : (i : ℕ) → SteadyAt (t i)
  within : s.arrivals + sum_to 8 (joining t u) + 4096 ≤ 1 + sum_to 8 (λ i. share (t i))

sum_moves : (n : ℕ) (f f' g g' : ℕ → ℕ) → ((i : ℕ) → f' i + g i ≤ f i + g' i) → sum_to n f' + sum_to n g ≤ sum_to n f + sum_to n g'
unfolding sum_to
sum_moves zero f f' g g' h = omega arith
sum_moves (suc n) f f' g g' h = omega (arith, h n, sum_moves n f f' g g' h)

-- a station moves
station_joined : {s : Server} {t : ℕ → Station} {u : ℕ → List Up} (i : ℕ) (d : Did) → d.station.kind ≡ (t i).kind → Paid (t i) d → Joined s t u
    → Joined s (upd t i d.station) (upd u i (u i ++ d.sent))
station_joined {s} {t} {u} i d k p h =
    let t' = upd t i d.station in
    let u' = upd u i (u i ++ d.sent) in
    let kind : count (joins d.station.kind) (u i ++ d.sent) ≡ count (joins (t i).kind) (u i ++ d.sent) = ap (λ (c : ℕ). count (joins c) (u i ++ d.sent)) k in
    let own : count (joins d.station.kind) (u i ++ d.sent) + share (t i) ≤ count (joins (t i).kind) (u i) + share d.station =
    omega (arith, kind, count_append (joins (t i).kind) (u i) d.sent, p.pays) in
    let each : (j : ℕ) → joining t' u' j + share (t j) ≤ joining t u j + share (t' j) = λ j. by_eq j i (λ e. rw (e, eqb_yes j i e) own) (λ e. rw e (omega arith)) in
    record {
      kinds = λ j. by_eq j i (λ e. rw (e, eqb_yes j i e) (h.kinds i ∙ sym k)) (λ e. rw e (h.kinds j));
      steady = λ j. by_eq j i (λ e. rw e p.steady) (λ e. rw e (h.steady j));
      within = omega (arith, h.within, sum_moves 8 (joining t u) (joining t' u') (λ j. share (t j)) (λ j. share (t' j)) each);
    }

-- the server takes a message
server_joined : (i : ℕ) (m : Up) (l : List Up) (s : Server) (t : ℕ → Station) (u : ℕ → List Up) → i < 8 → u i ≡ m ∷ l → unexpected i m s ≡ false → Joined s t u
    → Joined (server_step i m s).server t (upd u i l)
server_joined i m l s t u b e v h =
    let u' = upd u i l in
    let one = step_arrived i m s v in
    let j : ℕ = nb (joins (s.kind i) m) in
    let less : (k : ℕ) → joining t u' k ≤ joining t u k = λ k. by_eq k i (λ c. rw (c, eqb_yes k i c, e) (omega arith)) (λ c. rw c (omega arith)) in
    let here : joining t u' i + j ≤ joining t u i = rw (eqb_same i, e, h.kinds i) (one_less (joins (t i).kind m) (count (joins (t i).kind) l)) in
    record {
      kinds = λ k. ap (λ (f : ℕ → ℕ). f k) (server_kind i m s) ∙ h.kinds k;
      steady = h.steady;
      within = omega (arith, h.within, one, sum_at 8 (joining t u') (joining t u) j i less b here);
    }
  where
    one_less : (x : Bool) (n : ℕ) → n + nb x ≤ cond {A = ℕ} x 1 0 + n
    one_less true n = omega arith
    one_less false n = omega arith

joined_moves : Moves (λ s t u d. Joined s t u) (λ s t u d. Joined s t u)
joined_moves =
    record {
      rests = λ s t u d h. h;
      owner = λ i op s t u d h. station_joined i (perform op (t i)) (perform_kind op (t i)) (perform_paid op (t i) (h.steady i)) h;
      server = λ i m l s t u d b e v h. server_joined i m l s t u b e v h;
      station = λ i m l s t u d e h. station_joined i (station_step m (t i)) (step_kind m (t i)) (step_paid m (t i) (h.steady i)) h;
    }

-- 512 for each of 4,294,967,295 transactions, and for one more
abbrev most : ℕ
most = 2199023255552

sum_most : (n : ℕ) (f : ℕ → ℕ) → ((i : ℕ) → f i ≤ most) → sum_to n f ≤ n * most
unfolding sum_to
sum_most zero f h = omega arith
sum_most (suc n) f h = omega (arith, h n, sum_most n f h)

share_most : (s : Station) → SteadyAt s → s.num ≤ last_number → share s ≤ most
share_most s h n = by_b s.opened (λ o. rw o (omega (arith, n, asks_most s.wait h))) (λ o. rw o (omega (arith, n)))

joined_run : (kinds : ℕ → ℕ) (cs : List Call) → let w = run cs (fresh kinds) in Joined w.server w.station w.up
unfolding sum_to
joined_run kinds cs =
    run_keeps (λ s t u d. Joined s t u) joined_moves cs (fresh kinds)
    (record {
      kinds = λ i. refl;
      steady = λ i. record { over = λ o a. refl; locked = λ k a e. absurd (false≢true e); reading = λ a e. absurd (false≢true (ap asking e)); writing = λ p f e. absurd (false≢true (ap asking e)) };
      within = omega arith;
    })

pub arrivals_most : (kinds : ℕ → ℕ) (cs : List Call) → (run cs (fresh kinds)).server.arrivals ≤ 1 + 8 * (512 * 4294967295)
arrivals_most kinds cs =
    let w : World = run cs (fresh kinds) in
    let h = joined_run kinds cs in
    let n = numbers_run kinds cs in
    omega (arith, h.within, sum_most 8 (λ i. share (w.station i)) (λ i. share_most (w.station i) (h.steady i) (n.begun i)))

-- "2^63 being out of range"
pub arrivals_below : (kinds : ℕ → ℕ) (cs : List Call) → (run cs (fresh kinds)).server.arrivals < counter_limit
arrivals_below kinds cs = omega (arith, arrivals_most kinds cs)
