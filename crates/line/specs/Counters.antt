-- The two counters of the server. "Each transaction gets a new age, 2^63 being out of range": an age is given only with a new, higher number of
-- one of eight stations (none where the station keeps its age), and a station's numbers end at 4,294,967,295. An arrival is given at most once in a call.
use Rattle.std.specs.Prelude.{◌≡◌, refl, Bool, true, false, ◌&&◌, cond, List, [], ◌∷◌, ◌++◌, eqb, ltb, length}
use Rattle.std.proofs.Math.Bool.{not}
use Rattle.std.proofs.lemmas.Bool.{false≢true}
use Prim.Native.Nat.{ℕ, zero, suc, ◌+◌, ◌*◌, ◌^◌, ◌≤◌, ◌<◌}
use native.Mathlib.Omega.{arith}
use borrow.Author.Tests.{ltb-true}
use Rattle.sets.specs.Base.{upd, Val, none, some, turned, any}
use Rattle.sets.specs.Laws.{by_b, by_eq}
use Rattle.sets.proofs.Laws.{eqb_same, eqb_yes, eqb_no}
use Rattle.line.specs.Messages.{last_number, locking, keeps, Work, Lock, NoLock, ObjectLock, WholeLock, Up, ReadRequest, WriteRequest, Commit, Abort, Purge, Busy, Done, WrittenSet, Down, Page, Deescalate, Callback, Committed, Aborted, Invalidate, Sent, To}
use Rattle.line.specs.Server.{Server, Serving, aged, bad_number, unexpected, notice, finish, join, leave, send_page, abort, informed, write, archive, inform, inform_from, install, serve_now, join_read, join_write, join_commit, commit_now, unlist, open_call, mark_busy, answered, open_ask, loosen, accept, ask, serve_read, call, grant_page, grant_object, install_waiter, start, server_step, meet, heed, concerned, calls_from}
use Rattle.line.specs.Station as S
use Rattle.line.specs.Station.{Station, Did, unless, Wait, Idle, ForRead, ForWrite, ForCommit, waiting, Kept, NotKept, KeptCall, shown, used_at, used_page, for_commit, live, ended, fits, check_begin, check_open, check_read, some_on, check_write, check_purge, drop_pages, record_read, write_local, mark, do_callback, do_kept, do_all_kept, closed, close, undo, own_begin, read_local, read_ask, read_as, own_read, write_ask, write_set, of_page, own_write, own_commit, own_abort, own_purge, arrive, take_lock, answer_wait, on_page, on_deescalate, on_callback, on_committed, on_aborted, on_invalidate, on_down, station_step}
use Rattle.line.specs.Line.{World, Op, Begin, Read, WriteSet, Commits, Aborts, Purges, Call, fresh, perform, act, run, sent_to}
use Rattle.line.specs.Pass.{Atomic, if_keeps, step_keeps, met_keeps}
use Rattle.line.specs.Fuel.{sum_to, sum_at}
use Rattle.line.specs.Apart.{Apart, ApartIn, or_l, good_renews, atomic_apart, accept_apart, apart_fresh}
use Rattle.line.specs.All.{All, all_append, all_map}
use Rattle.line.specs.Runs.{Moves, act_moves, run_keeps}

-- the transaction that 1 to 4 name, or an 8
abbrev pub named : Up → ℕ
named (ReadRequest a t) = t
named (WriteRequest p t set) = t
named (Commit w) = w.transaction
named (Abort t) = t
named (Purge p) = 0
named (Busy r t) = 0
named (Done r t d) = 0
named (WrittenSet p t set) = t

-- .. or a 19
abbrev pub ask_for : Down → ℕ
ask_for (Page l a t v u x) = 0
ask_for (Deescalate p t) = t
ask_for (Callback r t set) = 0
ask_for (Committed t n) = 0
ask_for (Aborted t c) = 0
ask_for (Invalidate set) = 0

-- kept or new: the counter moves by one at the most
aged_few : (b : Bool) (a m : ℕ) → (n : ℕ) × (n ≤ 1) × ((aged b a m).ages ≡ m + n)
aged_few true a m = (0, omega arith, omega arith)
aged_few false a m = (1, omega arith, refl)

-- the server's step: the pass leaves latest numbers, ages and arrivals

abbrev pub Has : ((ℕ → ℕ) → ℕ → ℕ → Type 0) → Serving → Type 0
Has P x = P x.server.latest x.server.ages x.server.arrivals

module _ (P : (ℕ → ℕ) → ℕ → ℕ → Type 0) where
  inform_has : (i : ℕ) (w : Work) (j : ℕ) (x : Serving) → Has P x → Has P (inform i w j x)
  unfolding inform
  inform_has i w j x h = if_keeps (Has P) (informed x.server i w j) (λ e. h) (λ e. h)

  informs_has : (n j i : ℕ) (w : Work) (x : Serving) → Has P x → Has P (inform_from n j i w x)
  unfolding inform_from
  informs_has zero j i w x h = h
  informs_has (suc n) j i w x h = informs_has n (suc j) i w (inform i w j x) (inform_has i w j x h)

  install_has : (i : ℕ) (w : Work) (x : Serving) → Has P x → Has P (install i w x)
  unfolding install finish archive write leave
  install_has i w x h = informs_has 8 0 i w _ h

  commit_now_has : (i : ℕ) (w : Work) (x : Serving) → Has P x → Has P (commit_now i w x)
  unfolding commit_now abort finish leave
  commit_now_has i w x h = if_keeps (Has P) (eqb x.server.last last_number) (λ e. h) (λ e. install_has i w x h)

  atomic_has : Atomic (Has P)
  unfolding abort finish ask serve_read send_page leave call grant_object grant_page install_waiter
  atomic_has =
      record {
        aborts = λ i c x b t k. k;
        asks = λ i h p x b t u k. k;
        reads = λ i x b w c k. k;
        calls = λ i x b t u w c k. k;
        objects = λ i x b w r k. k;
        pages = λ i x b w r e k. k;
        installs = λ i x b w f r k. install_has i (x.server.queue i).work x k;
      }

  -- a number that is noticed anew is above the latest
  notice_has : (i t : ℕ) (x : Serving) → (eqb t (x.server.latest i) ≡ false → x.server.latest i < t) → Has P x → ((n : ℕ) → n ≤ 1 → x.server.latest i < t → P (upd x.server.latest i t) (x.server.ages + n) x.server.arrivals) → Has P (notice i t x)
  unfolding notice
  notice_has i t x u h k =
      let s : Server = x.server in
      if_keeps (Has P) (eqb t (s.latest i)) (λ e. h)
      (λ e.
      let g = aged_few (s.age_kept i) (s.age i) s.ages in
      rw g.2 (k g.0 g.1 (u e)))

  good_above : (i t : ℕ) (s : Server) → bad_number s i t ≡ false → eqb t (s.latest i) ≡ false → s.latest i < t
  good_above i t s u e = (good_renews s i t u e).above

-- what a step may do to them: nothing, or note a higher number with at most one age more; and with either, one arrival more
pub record Counts (P : (ℕ → ℕ) → ℕ → ℕ → Type 0) (i t : ℕ) (L : ℕ → ℕ) (A N : ℕ) : Type 0 where
  pub stays : P L A N
  pub joins : P L A (N + 1)
  pub begins : (n : ℕ) → n ≤ 1 → L i < t → P (upd L i t) (A + n) N
  pub begins_joins : (n : ℕ) → n ≤ 1 → L i < t → P (upd L i t) (A + n) (N + 1)

module _ (P : (ℕ → ℕ) → ℕ → ℕ → Type 0) where
  accept_has : (i : ℕ) (m : Up) (x : Serving) → unexpected i m x.server ≡ false → Counts P i (named m) x.server.latest x.server.ages x.server.arrivals → Has P (accept i m x)
  unfolding accept join_read join_write join_commit join serve_now send_page finish unlist mark_busy answered loosen heed meet
  accept_has i (ReadRequest a t) x u k =
      if_keeps (Has P) (locking (x.server.kind i))
      (λ e. notice_has (λ L A N. P L A (N + 1)) i t x (good_above P i t x.server u) k.joins k.begins_joins)
      (λ e. notice_has P i t x (good_above P i t x.server u) k.stays k.begins)
  accept_has i (WriteRequest p t set) x u k = notice_has (λ L A N. P L A (N + 1)) i t x (good_above P i t x.server (or_l (bad_number x.server i t) _ u)) k.joins k.begins_joins
  accept_has i (Commit w) x u k =
      let t : ℕ = w.transaction in
      let v = good_above P i t x.server (or_l (bad_number x.server i t) _ u) in
      if_keeps (Has P) (locking (x.server.kind i))
      (λ e. commit_now_has P i w (notice i t x) (notice_has P i t x v k.stays k.begins))
      (λ e. notice_has (λ L A N. P L A (N + 1)) i t x v k.joins k.begins_joins)
  accept_has i (Abort t) x u k = notice_has P i t x (good_above P i t x.server (or_l (bad_number x.server i t) _ u)) k.stays k.begins
  accept_has i (Purge p) x u k = k.stays
  accept_has i (Busy r t) x u k = if_keeps (Has P) (open_call x.server i r t) (λ e. k.stays) (λ e. k.stays)
  accept_has i (Done r t d) x u k = if_keeps (Has P) (open_call x.server i r t) (λ e. k.stays) (λ e. k.stays)
  accept_has i (WrittenSet p t set) x u k =
      if_keeps (Has P) (open_ask x.server i p t)
      (λ e. if_keeps (Has P) (ltb (x.server.latest i) t) (λ q. notice_has P i t x (λ _. ltb-true (x.server.latest i) t q) k.stays k.begins) (λ q. k.stays))
      (λ e. k.stays)

  pub step_counts : (i : ℕ) (m : Up) (s : Server) → unexpected i m s ≡ false → Counts P i (named m) s.latest s.ages s.arrivals → P (server_step i m s).server.latest (server_step i m s).server.ages (server_step i m s).server.arrivals
  step_counts i m s u k = step_keeps (Has P) (atomic_has P) i m s (accept_has i m (start s) u k)

-- arrivals: at most one in a call

arrival_moves : (n : ℕ) → Moves (λ s t u d. s.arrivals ≤ n) (λ s t u d. s.arrivals ≤ suc n)
arrival_moves n =
    record {
      rests = λ s t u d h. omega arith;
      owner = λ i op s t u d h. omega arith;
      server = λ i m l s t u d b e v h.
          step_counts (λ L A N. N ≤ suc n) i m s v (record { stays = omega arith; joins = omega arith; begins = λ n a k. omega arith; begins_joins = λ n a k. omega arith });
      station = λ i m l s t u d e h. omega arith;
    }

run_arrivals : (cs : List Call) (w : World) (n : ℕ) → w.server.arrivals ≤ n → (run cs w).server.arrivals ≤ n + length cs
unfolding run
run_arrivals [] w n h = omega arith
run_arrivals (c ∷ cs) w n h =
    let a : (act c w).world.server.arrivals ≤ suc n = act_moves (λ s t u d. s.arrivals ≤ n) (λ s t u d. s.arrivals ≤ suc n) (arrival_moves n) c w h in
    omega (arith, run_arrivals cs (act c w).world (suc n) a)

pub arrivals_bound : (kinds : ℕ → ℕ) (cs : List Call) → (run cs (fresh kinds)).server.arrivals ≤ 1 + length cs
arrivals_bound kinds cs = run_arrivals cs (fresh kinds) 1 (omega arith)

-- 19s: each names a transaction that the server has seen of the station

abbrev Asks : (ℕ → ℕ) → Sent → Type 0
Asks L (To j m) = ask_for m ≤ L j

abbrev Silent : Sent → Type 0
Silent (To j m) = ask_for m ≡ 0

silent_asks : (L : ℕ → ℕ) (l : List Sent) → All Silent l → All (Asks L) l
silent_asks L [] h = tt
silent_asks L (To j m ∷ l) h = (omega (arith, h.0), silent_asks L l h.1)

abbrev SilentIn : Serving → Type 0
SilentIn x = All Silent x.sent

-- all that is sent but by `ask`
abort_silent : (i c : ℕ) (x : Serving) → SilentIn x → SilentIn (abort i c x)
unfolding abort finish leave
abort_silent i c x h = all_append Silent x.sent _ h (refl, tt)

informs_silent : (n j i : ℕ) (w : Work) (x : Serving) → SilentIn x → SilentIn (inform_from n j i w x)
unfolding inform_from inform
informs_silent zero j i w x h = h
informs_silent (suc n) j i w x h =
    informs_silent n (suc j) i w (inform i w j x) (if_keeps SilentIn (informed x.server i w j) (λ e. all_append Silent x.sent _ h (refl, tt)) (λ e. h))

install_silent : (i : ℕ) (w : Work) (x : Serving) → SilentIn x → SilentIn (install i w x)
unfolding install finish archive write leave
install_silent i w x h = informs_silent 8 0 i w _ (all_append Silent x.sent _ h (refl, tt))

notice_silent : (i t : ℕ) (x : Serving) → SilentIn x → SilentIn (notice i t x)
unfolding notice
notice_silent i t x h = if_keeps SilentIn (eqb t (x.server.latest i)) (λ e. h) (λ e. h)

commit_now_silent : (i : ℕ) (w : Work) (x : Serving) → SilentIn x → SilentIn (commit_now i w x)
unfolding commit_now
commit_now_silent i w x h = if_keeps SilentIn (eqb x.server.last last_number) (λ e. abort_silent i 4 x h) (λ e. install_silent i w x h)

accept_silent : (i : ℕ) (m : Up) (x : Serving) → SilentIn x → SilentIn (accept i m x)
unfolding accept join_read join_write join_commit join serve_now send_page finish unlist mark_busy answered loosen heed
accept_silent i (ReadRequest a t) x h =
    let g = notice_silent i t x h in
    if_keeps SilentIn (locking (x.server.kind i)) (λ e. g) (λ e. all_append Silent (notice i t x).sent _ g (refl, tt))
accept_silent i (WriteRequest p t set) x h = notice_silent i t x h
accept_silent i (Commit w) x h =
    let g = notice_silent i w.transaction x h in
    if_keeps SilentIn (locking (x.server.kind i)) (λ e. commit_now_silent i w (notice i w.transaction x) g) (λ e. g)
accept_silent i (Abort t) x h = notice_silent i t x h
accept_silent i (Purge p) x h = h
accept_silent i (Busy r t) x h = if_keeps SilentIn (open_call x.server i r t) (λ e. h) (λ e. h)
accept_silent i (Done r t d) x h = if_keeps SilentIn (open_call x.server i r t) (λ e. h) (λ e. h)
accept_silent i (WrittenSet p t set) x h = if_keeps SilentIn (open_ask x.server i p t) (λ e. met_keeps SilentIn i t x (notice_silent i t x h) h) (λ e. h)

calls_silent : (n j : ℕ) (s : Server) (i : ℕ) → All Silent (calls_from n j s i)
calls_silent zero j s i = tt
calls_silent (suc n) j s i =
    let rest : All Silent (calls_from n (suc j) s i) = calls_silent n (suc j) s i in by_b (concerned s i j) (λ e. rw e (refl, rest)) (λ e. rw e rest)

abbrev AsksIn : Serving → Type 0
AsksIn x = ApartIn x × All (Asks x.server.latest) x.sent

informs_asks : (n j i : ℕ) (w : Work) (x : Serving) → All (Asks x.server.latest) x.sent → All (Asks (inform_from n j i w x).server.latest) (inform_from n j i w x).sent
unfolding inform_from inform
informs_asks zero j i w x h = h
informs_asks (suc n) j i w x h =
    informs_asks n (suc j) i w (inform i w j x)
    (if_keeps (λ y. All (Asks y.server.latest) y.sent) (informed x.server i w j) (λ e. all_append (Asks x.server.latest) x.sent _ h (omega arith, tt)) (λ e. h))

atomic_asks : Atomic AsksIn
unfolding abort finish ask serve_read send_page leave call grant_object grant_page install_waiter install archive write
atomic_asks =
    let a = atomic_apart in
    record {
      aborts = λ i c x b t k. (a.aborts i c x b t k.0, all_append (Asks x.server.latest) x.sent _ k.1 (omega arith, tt));
      asks = λ i h p x b t u k.
          (a.asks i h p x b t u k.0, all_append (Asks x.server.latest) x.sent _ k.1 ((k.0.locks.given h p t.held).seen, tt));
      reads = λ i x b w c k. (a.reads i x b w c k.0, all_append (Asks x.server.latest) x.sent _ k.1 (omega arith, tt));
      calls = λ i x b t u w c k.
          (a.calls i x b t u w c k.0, all_append (Asks x.server.latest) x.sent _ k.1 (silent_asks x.server.latest (calls_from 8 0 x.server i) (calls_silent 8 0 x.server i)));
      objects = λ i x b w r k. (a.objects i x b w r k.0, all_append (Asks x.server.latest) x.sent _ k.1 (omega arith, tt));
      pages = λ i x b w r e k. (a.pages i x b w r e k.0, all_append (Asks x.server.latest) x.sent _ k.1 (omega arith, tt));
      installs = λ i x b w f r k.
          (a.installs i x b w f r k.0, informs_asks 8 0 i (x.server.queue i).work _ (all_append (Asks x.server.latest) x.sent _ k.1 (omega arith, tt)));
    }

step_asks : (i : ℕ) (m : Up) (s : Server) → i < 8 → unexpected i m s ≡ false → Apart s → AsksIn (server_step i m s)
step_asks i m s b u h =
    step_keeps AsksIn atomic_asks i m s
    (accept_apart i m (start s) b u h, silent_asks (accept i m (start s)).server.latest (accept i m (start s)).sent (accept_silent i m (start s) tt))

-- what comes to one station
asks_to : (L : ℕ → ℕ) (i : ℕ) (l : List Sent) → All (Asks L) l → All (λ m. ask_for m ≤ L i) (sent_to i l)
asks_to L i [] h = tt
asks_to L i (To j m ∷ l) h =
    let rest : All (λ m. ask_for m ≤ L i) (sent_to i l) = asks_to L i l h.1 in
    by_eq i j (λ e. rw e (rw (eqb_yes i j e) h.0, rest)) (λ e. rw e rest)

-- stations: numbers rise to 4,294,967,295 at most, and what goes up names none above the latest begun

pub record Numbered (n m : ℕ) (l : List Up) : Type 0 where
  pub rises : n ≤ m
  pub within : m ≤ last_number
  pub names : All (λ x. named x ≤ m) l

abbrev pub NumberedBy : Station → Did → Type 0
NumberedBy s d = Numbered s.num d.station.num d.sent

module _ (n : ℕ) (b : n ≤ last_number) where
  silent : Numbered n n []
  silent = record { rises = omega arith; within = b; names = tt }

  says : (m : Up) → named m ≤ n → Numbered n n (m ∷ [])
  says m h = record { rises = omega arith; within = b; names = (h, tt) }

  -- kept callbacks send 7
  kept_numbered : (r : ℕ) (k : Kept) (d : Did) → Numbered n d.station.num d.sent → Numbered n (do_kept r k d).station.num (do_kept r k d).sent
  unfolding do_kept do_callback drop_pages mark
  kept_numbered r NotKept d h = h
  kept_numbered r (KeptCall t set) d h =
      record { rises = h.rises; within = h.within; names = all_append (λ x. named x ≤ d.station.num) d.sent _ h.names (omega arith, tt) }

  all_kept_numbered : (k r : ℕ) (d : Did) → Numbered n d.station.num d.sent → Numbered n (do_all_kept k r d).station.num (do_all_kept k r d).sent
  unfolding do_all_kept
  all_kept_numbered zero r d h = h
  all_kept_numbered (suc k) r d h = all_kept_numbered k (suc r) (do_kept r (d.station.kept r) d) (kept_numbered r (d.station.kept r) d h)

  close_numbered : (d : Did) → Numbered n d.station.num d.sent → Numbered n (close d).station.num (close d).sent
  unfolding close closed
  close_numbered d h = all_kept_numbered 8 0 _ h

if_did : (P : Did → Type 0) (b : Bool) {d e : Did} → (b ≡ true → P d) → (b ≡ false → P e) → P (cond b d e)
if_did P true t f = t refl
if_did P false t f = f refl

undo_num : (s : Station) → (undo s).num ≡ s.num
unfolding undo mark drop_pages
undo_num s = by_b (locking s.kind) (λ e. rw e refl) (λ e. rw e refl)

lock_num : (l : Lock) (a : ℕ) (s : Station) → (take_lock l a s).num ≡ s.num
unfolding take_lock
lock_num NoLock a s = refl
lock_num ObjectLock a s = refl
lock_num WholeLock a s = refl

answer_numbered : (n : ℕ) (w : Wait) (s : Station) → s.num ≡ n → n ≤ last_number → Numbered n (answer_wait w s).station.num (answer_wait w s).sent
unfolding answer_wait record_read write_local
answer_numbered n Idle s e b = rw e (silent n b)
answer_numbered n (ForRead a) s e b = rw e (silent n b)
answer_numbered n (ForWrite p f) s e b = rw e (silent n b)
answer_numbered n ForCommit s e b = rw e (silent n b)

-- "11. Spent: begin after number 4,294,967,295"
unspent : (a b c : Bool) → eqb (turned a 7 (turned b 9 (turned c 11 0))) 0 ≡ true → c ≡ false
unspent true b c e = absurd (false≢true e)
unspent false true c e = absurd (false≢true e)
unspent false false true e = absurd (false≢true e)
unspent false false false e = refl

module _ (s : Station) (b : s.num ≤ last_number) where
  unless_numbered : (n : ℕ) (d : Did) → (eqb n 0 ≡ true → NumberedBy s d) → NumberedBy s (unless n d s)
  unless_numbered n d h = if_did (NumberedBy s) (eqb n 0) h (λ e. silent s.num b)

  begin_numbered : NumberedBy s (own_begin s)
  unfolding own_begin
  begin_numbered =
      unless_numbered (check_begin s) _
      (λ e. record { rises = omega arith; within = omega (arith, eqb_no s.num last_number (unspent (waiting s.wait) s.opened (eqb s.num last_number) e)); names = tt })

  read_as_numbered : (a : ℕ) (w r : Val) → NumberedBy s (read_as a w r s)
  unfolding read_as read_local record_read read_ask
  read_as_numbered a none none = if_did (NumberedBy s) (shown s a) (λ e. silent s.num b) (λ e. says s.num b (ReadRequest a s.num) (omega arith))
  read_as_numbered a none (some v) = silent s.num b
  read_as_numbered a (some v) r = silent s.num b

  write_ask_numbered : (p : ℕ) (f : ℕ → Val) → NumberedBy s (write_ask p f s)
  unfolding write_ask
  write_ask_numbered p f =
      by_b (locking s.kind) (λ e. rw e (says s.num b (WriteRequest p s.num _) (omega arith))) (λ e. rw e (says s.num b (ReadRequest _ s.num) (omega arith)))

  abort_numbered : NumberedBy s (own_abort s)
  unfolding own_abort
  abort_numbered =
      unless_numbered (check_open s) _
      (λ e.
      close_numbered s.num b _
      (rw (undo_num s)
      (by_b (locking s.kind) (λ k. rw k (says s.num b (Abort s.num) (omega arith))) (λ k. rw k (silent s.num b)))))

  perform_numbered : (op : Op) → NumberedBy s (perform op s)
  unfolding perform own_read own_write write_set write_local own_commit own_purge drop_pages
  perform_numbered Begin = begin_numbered
  perform_numbered (Read a) = unless_numbered (check_read a s) _ (λ e. read_as_numbered a (s.wr a) (s.rd a))
  perform_numbered (WriteSet p f) =
      unless_numbered (check_write p (of_page p f) s) _ (λ e. if_did (NumberedBy s) (some_on p (S.named (of_page p f) s)) (λ k. write_ask_numbered p (of_page p f)) (λ k. silent s.num b))
  perform_numbered Commits = unless_numbered (check_open s) _ (λ e. says s.num b _ (omega arith))
  perform_numbered Aborts = abort_numbered
  perform_numbered (Purges p) = unless_numbered (check_purge p s) _ (λ e. says s.num b (Purge p) (omega arith))

  -- an 8 names the open transaction, or what the 19 names
  answers_few : (t : ℕ) → t ≤ s.num → S.answers_for t s ≤ s.num
  answers_few t c = by_b (keeps s.kind && s.opened) (λ e. rw e (omega arith)) (λ e. rw e c)

  down_numbered : (m : Down) → ask_for m ≤ s.num → NumberedBy s (on_down m s)
  unfolding on_down on_page arrive on_deescalate S.loosen on_callback do_callback on_committed on_aborted on_invalidate drop_pages mark
  down_numbered (Page l a t v u x) c =
      if_did (NumberedBy s) (ended s t) (λ e. silent s.num b)
      (λ e. answer_numbered s.num s.wait _ (lock_num l a s) b)
  down_numbered (Deescalate p t) c =
      by_b (S.gives_up p t s) (λ e. rw e (says s.num b _ (answers_few t c))) (λ e. rw e (says s.num b _ (answers_few t c)))
  down_numbered (Callback r t set) c =
      if_did (NumberedBy s) (any 256 (λ a. set a && used_at s a)) (λ e. says s.num b (Busy r t) (omega arith)) (λ e. says s.num b _ (omega arith))
  down_numbered (Committed t n) c = close_numbered s.num b _ (silent s.num b)
  down_numbered (Aborted t f) c = close_numbered s.num b _ (rw (undo_num s) (silent s.num b))
  down_numbered (Invalidate d) c =
      if_did (NumberedBy s) (any 256 (λ a. d a && used_at s a) && not (for_commit s.wait))
      (λ e. close_numbered s.num b _ (rw (undo_num (mark d s)) (silent s.num b)))
      (λ e. silent s.num b)

  step_numbered : (m : Down) → ask_for m ≤ s.num → NumberedBy s (station_step m s)
  unfolding station_step
  step_numbered m c = unless_numbered (turned (not (fits m s)) 6 0) _ (λ e. down_numbered m c)

-- the line: numbers under way and noticed are at most those begun; ages given are at most the numbers noticed

pub record Numbers (latest : ℕ → ℕ) (ages : ℕ) (t : ℕ → Station) (u : ℕ → List Up) (d : ℕ → List Down) : Type 0 where
  pub begun : (i : ℕ) → (t i).num ≤ last_number
  pub under_way : (i : ℕ) → All (λ m. named m ≤ (t i).num) (u i)
  pub asked : (i : ℕ) → All (λ m. ask_for m ≤ (t i).num) (d i)
  pub noticed : (i : ℕ) → latest i ≤ (t i).num
  pub aged : ages ≤ 1 + sum_to 8 latest

-- a station moves
station_numbers : {latest : ℕ → ℕ} {ages : ℕ} {t : ℕ → Station} {u : ℕ → List Up} {d : ℕ → List Down} (i : ℕ) (x : Did) → NumberedBy (t i) x → Numbers latest ages t u d → Numbers latest ages (upd t i x.station) (upd u i (u i ++ x.sent)) d
station_numbers {t = t} {u = u} {d = d} i x g h =
    record {
      begun = λ j. by_eq j i (λ e. rw e g.within) (λ e. rw e (h.begun j));
      under_way = λ j.
          by_eq j i
          (λ e.
          rw e
          (all_append (λ m. named m ≤ x.station.num) (u i) x.sent
          (all_map (λ m. named m ≤ (t i).num) (λ m. named m ≤ x.station.num) (λ m k. omega (arith, g.rises)) (u i) (h.under_way i)) g.names))
          (λ e. rw e (h.under_way j));
      asked = λ j.
          by_eq j i
          (λ e.
          rw (e, eqb_yes j i e)
          (all_map (λ m. ask_for m ≤ (t i).num) (λ m. ask_for m ≤ x.station.num) (λ m k. omega (arith, g.rises)) (d i) (h.asked i)))
          (λ e. rw e (h.asked j));
      noticed = λ j. by_eq j i (λ e. rw (e, eqb_yes j i e) (omega (arith, g.rises, h.noticed i))) (λ e. rw e (h.noticed j));
      aged = h.aged;
    }

-- it takes a message
heard_numbers : {latest : ℕ → ℕ} {ages : ℕ} {t : ℕ → Station} {u : ℕ → List Up} {d : ℕ → List Down} (i : ℕ) (m : Down) (l : List Down) → d i ≡ m ∷ l → Numbers latest ages t u d → Numbers latest ages t u (upd d i l)
heard_numbers {t = t} {d = d} i m l e h =
    let rest = rw e at (h.asked i) in
    record {
      begun = h.begun;
      under_way = h.under_way;
      asked = λ j. by_eq j i (λ k. rw (k, eqb_yes j i k) rest.1) (λ k. rw k (h.asked j));
      noticed = h.noticed;
      aged = h.aged;
    }

-- the server takes a message
taken_numbers : {latest : ℕ → ℕ} {ages : ℕ} {t : ℕ → Station} {u : ℕ → List Up} {d : ℕ → List Down} (i : ℕ) (m : Up) (l : List Up) → u i ≡ m ∷ l → Numbers latest ages t u d → Numbers latest ages t (upd u i l) d
taken_numbers {t = t} {u = u} i m l e h =
    let rest = rw e at (h.under_way i) in
    record {
      begun = h.begun;
      under_way = λ j. by_eq j i (λ k. rw (k, eqb_yes j i k) rest.1) (λ k. rw k (h.under_way j));
      asked = h.asked;
      noticed = h.noticed;
      aged = h.aged;
    }

-- .. and notices its number
noticed_numbers : {latest : ℕ → ℕ} {ages : ℕ} {t : ℕ → Station} {u : ℕ → List Up} {d : ℕ → List Down} (i n : ℕ) → i < 8 → n ≤ (t i).num → (a : ℕ) → a ≤ 1 → latest i < n → Numbers latest ages t u d → Numbers (upd latest i n) (ages + a) t u d
noticed_numbers {latest} {t = t} i n b c a q k h =
    let up : (j : ℕ) → latest j ≤ upd latest i n j = λ j. by_eq j i (λ e. rw (e, eqb_yes j i e) (omega arith)) (λ e. rw e (omega arith)) in
    let more : latest i + 1 ≤ upd latest i n i = rw (eqb_same i) (omega arith) in
    record {
      begun = h.begun;
      under_way = h.under_way;
      asked = h.asked;
      noticed = λ j. by_eq j i (λ e. rw (e, eqb_yes j i e) c) (λ e. rw e (h.noticed j));
      aged = omega (arith, h.aged, sum_at 8 latest (upd latest i n) 1 i up b more);
    }

-- .. and sends
sent_numbers : {latest : ℕ → ℕ} {ages : ℕ} {t : ℕ → Station} {u : ℕ → List Up} {d : ℕ → List Down} (l : List Sent) → All (Asks latest) l → Numbers latest ages t u d → Numbers latest ages t u (λ j. d j ++ sent_to j l)
sent_numbers {latest} {t = t} {d = d} l a h =
    record {
      begun = h.begun;
      under_way = h.under_way;
      asked = λ j.
          all_append (λ m. ask_for m ≤ (t j).num) (d j) (sent_to j l) (h.asked j)
          (all_map (λ m. ask_for m ≤ latest j) (λ m. ask_for m ≤ (t j).num) (λ m k. omega (arith, h.noticed j)) (sent_to j l) (asks_to latest j l a));
      noticed = h.noticed;
      aged = h.aged;
    }

abbrev NumbersOf : Server → (ℕ → Station) → (ℕ → List Up) → (ℕ → List Down) → Type 0
NumbersOf s t u d = Apart s × Numbers s.latest s.ages t u d

numbers_moves : Moves NumbersOf NumbersOf
numbers_moves =
    record {
      rests = λ s t u d h. h;
      owner = λ i op s t u d h. (h.0, station_numbers i (perform op (t i)) (perform_numbered (t i) (h.1.begun i) op) h.1);
      server = λ i m l s t u d b e v h.
          let c : named m ≤ (t i).num = (rw e at (h.1.under_way i)).0 in
          let g = taken_numbers i m l e h.1 in
          let a = step_asks i m s b v h.0 in (
            a.0,
            sent_numbers (server_step i m s).sent a.1
                (step_counts (λ L A N. Numbers L A t (upd u i l) d) i m s v
                (record { stays = g; joins = g; begins = λ a q k. noticed_numbers i (named m) b c a q k g; begins_joins = λ a q k. noticed_numbers i (named m) b c a q k g })),
          );
      station = λ i m l s t u d e h.
          let c : ask_for m ≤ (t i).num = (rw e at (h.1.asked i)).0 in
          (h.0, station_numbers i (station_step m (t i)) (step_numbered (t i) (h.1.begun i) m c) (heard_numbers i m l e h.1));
    }

pub numbers_run : (kinds : ℕ → ℕ) (cs : List Call) → let w = run cs (fresh kinds) in Numbers w.server.latest w.server.ages w.station w.up w.down
numbers_run kinds cs =
    (run_keeps NumbersOf numbers_moves cs (fresh kinds)
    (apart_fresh kinds, record { begun = λ i. omega arith; under_way = λ i. tt; asked = λ i. tt; noticed = λ i. omega arith; aged = omega arith })).1

sum_most : (n : ℕ) (f : ℕ → ℕ) → ((i : ℕ) → f i ≤ last_number) → sum_to n f ≤ n * last_number
unfolding sum_to
sum_most zero f h = omega arith
sum_most (suc n) f h = omega (arith, h n, sum_most n f h)

-- readings 41
pub ages_bound : (kinds : ℕ → ℕ) (cs : List Call) → (run cs (fresh kinds)).server.ages ≤ 1 + 8 * 4294967295
ages_bound kinds cs =
    let w : World = run cs (fresh kinds) in
    let h = numbers_run kinds cs in
    let most = sum_most 8 w.server.latest (λ i. omega (arith, h.noticed i, h.begun i)) in
    omega (arith, h.aged, most)

pub ages_below : (kinds : ℕ → ℕ) (cs : List Call) → (run cs (fresh kinds)).server.ages < 2 ^ 63
ages_below kinds cs = omega (arith, ages_bound kinds cs)
