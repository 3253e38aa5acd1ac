-- How much one step sends: a server step at most 104 messages and 8 records, a station's call at most 8 messages.
-- And a refused call changes and sends nothing.
use Rattle.std.specs.Prelude.{◌≡◌, refl, Bool, true, false, not, ◌&&◌, ◌||◌, cond, List, [], ◌∷◌, ◌++◌, ◌≢◌, ℕ, zero, suc, ◌+◌, ◌*◌, ◌≤◌, ◌<◌, eqb, ltb, length}
use Rattle.std.proofs.Common.{sym, ap, ◌∙◌, append-nil, arith, ltb→lt, length-append}
use Rattle.std.proofs.Math.Path.{fun_ext}
use Rattle.std.proofs.lemmas.Bool.{false≢true}
use Rattle.sets.specs.Base.{upd, snoc, any, Val, none, some, turned}
use Rattle.sets.specs.Laws.{by_b, by_eq}
use Rattle.sets.proofs.Laws.{eqb_same, eqb_yes, eqb_no, and_l, and_r}
use Rattle.line.specs.Messages.{page_of, last_number, locking, Work, Up, ReadRequest, WriteRequest, Commit, Abort, Purge, Busy, Done, WrittenSet, Down, Page, Deescalate, Callback, Committed, Aborted, Invalidate, To, Answer, Nothing, Begun, Value, Waits, Written, CommittedAs, AbortedFor, Purged, Refused, Empty}
use Rattle.line.specs.Station.{Station, Did, did_station, does, unless, Wait, Idle, ForRead, ForWrite, ForCommit, for_commit, Kept, NotKept, KeptCall, used_at, used_page, shown, drop_pages, mark, do_callback, do_kept, do_all_kept, closed, close, undo, check_begin, check_open, check_read, some_on, check_write, check_purge, own_begin, read_local, read_ask, read_as, own_read, named, write_ask, write_local, write_set, of_page, own_write, own_commit, own_abort, own_purge, ended, fits, answer_wait, on_page, on_deescalate, on_callback, on_committed, on_aborted, on_invalidate, on_down, station_step}
use Rattle.line.specs.Line.{Op, Begin, Read, WriteSet, Commits, Aborts, Purges, Call, Owner, ServerTakes, StationTakes, Broken, World, Reply, Acted, acted, replies, up_reply, perform, tell, carry_up, owner_acts, is_refused, station_takes, server_takes, act}
use Rattle.line.specs.Server.{Server, Serving, ByCommit, ByMessage, send, Waiter, concerned, calls_from, no_waiter, is_want, waits, shut, unexpected, bad_number, notice, finish, join, leave, send_page, abort, write, archive, informed, inform, inform_from, install, serve_now, join_read, join_write, join_commit, commit_now, unlist, open_call, mark_busy, answered, open_ask, loosen, accept, ask, serve_read, call, grant_object, grant_page, install_waiter, start, server_step, meet, heed}
use Rattle.line.specs.Pass.{Atomic, step_keeps, met_keeps}
use Rattle.line.specs.Fuel.{sum_to, nb, pages_cost, sum_le, sum_at, sum_1, nb_1, frees, lock_up, ask_less, marked}

one_more : {A : Type 0} (l : List A) (m : A) → length (snoc l m) ≡ length l + 1
one_more l m = length-append l (m ∷ [])

-- stations: of the n from j on, how many are f and not i

unfoldable pub others : ℕ → ℕ → ℕ → (ℕ → Bool) → ℕ
others zero j i f = 0
others (suc n) j i f = nb (not (eqb j i) && f j) + others n (suc j) i f

abbrev pub locks : (ℕ → ℕ) → ℕ → Bool
locks k j = locking (k j)

abbrev pub validates : (ℕ → ℕ) → ℕ → Bool
validates k j = not (locking (k j))

-- a station is of one kind
one_kind : (e b : Bool) → nb (not e && b) + nb (not e && not b) ≡ nb (not e)
one_kind true true = refl
one_kind true false = refl
one_kind false true = refl
one_kind false false = refl

pub both_n : (n j i : ℕ) (k : ℕ → ℕ) → others n j i (locks k) + others n j i (validates k) ≤ n
unfolding others
both_n zero j i k = omega arith
both_n (suc n) j i k = omega (arith, one_kind (eqb j i) (locks k j), nb_1 (not (eqb j i)), both_n n (suc j) i k)

-- with i among them, it is not counted
both_less : (n j i : ℕ) (k : ℕ → ℕ) → j ≤ i → i < j + n → others n j i (locks k) + others n j i (validates k) + 1 ≤ n
unfolding others
both_less zero j i k a b = absurd (omega arith)
both_less (suc n) j i k a b =
    let rest : suc j ≤ i → others n (suc j) i (locks k) + others n (suc j) i (validates k) + 1 ≤ n = λ c. both_less n (suc j) i k c (omega arith) in
    by_eq j i
    (λ e. omega (arith, one_kind (eqb j i) (locks k j), ap (λ t. nb (not t)) e, both_n n (suc j) i k))
    (λ e. omega (arith, one_kind (eqb j i) (locks k j), nb_1 (not (eqb j i)), rest (omega (arith, eqb_no j i e))))

pub seven : (i : ℕ) (k : ℕ → ℕ) → i < 8 → others 8 0 i (locks k) + others 8 0 i (validates k) ≤ 7
seven i k b = omega (arith, both_less 8 0 i k (omega arith) (omega arith))

-- what a waiter can still send: its 20s go to other locking stations, its 23s to other validating ones, its answer is one, and an
-- 18 makes one whole lock that can be asked for
abbrev pub left : (ℕ → ℕ) → ℕ → Waiter → ℕ
left k i w = cond (is_want w.want) (cond w.called (2 + others 8 0 i (validates k)) (2 + others 8 0 i (validates k) + others 8 0 i (locks k))) 0

abbrev pub waiters_left : Server → ℕ
waiters_left s = sum_to 8 (λ i. left s.kind i (s.queue i))

-- .. and each whole lock not yet asked for can be, once
abbrev pub room : Server → ℕ
room s = waiters_left s + pages_cost s

abbrev pub total : Serving → ℕ
total x = length x.sent + room x.server

pub left_9 : (k : ℕ → ℕ) (i : ℕ) (w : Waiter) → i < 8 → left k i w ≤ 9
left_9 k i w b =
    let t = seven i k b in
    by_b (is_want w.want) (λ e. by_b w.called (λ f. rw (e, f) (omega arith)) (λ f. rw (e, f) (omega arith))) (λ e. rw e (omega arith))

sum_9 : (n : ℕ) (f : ℕ → ℕ) → n ≤ 8 → ((i : ℕ) → i < 8 → f i ≤ 9) → sum_to n f ≤ 9 * n
unfolding sum_to
sum_9 zero f a h = omega arith
sum_9 (suc n) f a h = omega (arith, h n (omega arith), sum_9 n f (omega arith) h)

pub pages_32 : (s : Server) → pages_cost s ≤ 32
pages_32 s = sum_1 32 _ (λ p. nb_1 (not (eqb (s.wl p) 0) && not (s.asked p)))

pub room_104 : (s : Server) → room s ≤ 104
room_104 s = omega (arith, pages_32 s, sum_9 8 (λ i. left s.kind i (s.queue i)) (omega arith) (λ i b. left_9 s.kind i (s.queue i) b))

-- a waiter that leaves takes its weight along, whatever the weight
leaves_by : (h : ℕ → Waiter → ℕ) → ((j : ℕ) → h j no_waiter ≡ 0) → (q : ℕ → Waiter) (i : ℕ) → i < 8 → sum_to 8 (λ j. h j (upd q i no_waiter j)) + h i (q i) ≤ sum_to 8 (λ j. h j (q j))
leaves_by h z q i b =
    let at_i : h i (upd q i no_waiter i) + h i (q i) ≤ h i (q i) = rw (eqb_same i, z i) (omega arith) in
    sum_at 8 (λ j. h j (upd q i no_waiter j)) (λ j. h j (q j)) (h i (q i)) i (λ j. by_eq j i (λ e. rw (e, z j) (omega arith)) (λ e. rw e (omega arith))) b at_i

waiter_goes : (k : ℕ → ℕ) (q : ℕ → Waiter) (i : ℕ) → i < 8 → sum_to 8 (λ j. left k j (upd q i no_waiter j)) + left k i (q i) ≤ sum_to 8 (λ j. left k j (q j))
waiter_goes k q i b = leaves_by (left k) (λ j. refl) q i b

left_2 : (k : ℕ → ℕ) (i : ℕ) (w : Waiter) → is_want w.want ≡ true → 2 + others 8 0 i (validates k) ≤ left k i w
left_2 k i w e = by_b w.called (λ f. rw (e, f) (omega arith)) (λ f. rw (e, f) (omega arith))

-- no action of the pass raises what is sent and what can still be sent, taken together

pub abort_sent : (i c : ℕ) (x : Serving) → length (abort i c x).sent ≡ length x.sent + 1
unfolding abort finish leave
abort_sent i c x = one_more x.sent _

pub abort_room : (i c : ℕ) (x : Serving) → i < 8 → room (abort i c x).server + left x.server.kind i (x.server.queue i) ≤ room x.server
unfolding abort finish leave
abort_room i c x b = omega (arith, waiter_goes x.server.kind x.server.queue i b, frees (x.server.kind i) x.server.wl x.server.asked i)

abort_total : (i c : ℕ) (x : Serving) → i < 8 → waits x.server i ≡ true → total (abort i c x) ≤ total x
abort_total i c x b t = omega (arith, abort_sent i c x, abort_room i c x b, left_2 x.server.kind i (x.server.queue i) t)

ask_total : (i h p : ℕ) (x : Serving) → p < 32 → shut x.server i p ≡ true → x.server.asked p ≡ false → total (ask h p x) ≤ total x
unfolding ask
ask_total i h p x b t u = rw one_more (omega (arith, ask_less i h p x b t u))

read_total : (i : ℕ) (x : Serving) → i < 8 → waits x.server i ≡ true → total (serve_read i x) ≤ total x
unfolding serve_read send_page leave
read_total i x b t = rw one_more (omega (arith, waiter_goes x.server.kind x.server.queue i b, left_2 x.server.kind i (x.server.queue i) t))

object_total : (i : ℕ) (x : Serving) → i < 8 → waits x.server i ≡ true → total (grant_object i x) ≤ total x
unfolding grant_object send_page leave
object_total i x b t = rw one_more (omega (arith, waiter_goes x.server.kind x.server.queue i b, left_2 x.server.kind i (x.server.queue i) t))

page_total : (i : ℕ) (x : Serving) → i < 8 → waits x.server i ≡ true → total (grant_page i x) ≤ total x
unfolding grant_page send_page leave
page_total i x b t =
    rw one_more (omega (arith, waiter_goes x.server.kind x.server.queue i b, left_2 x.server.kind i (x.server.queue i) t, lock_up x.server.wl x.server.asked (page_of (x.server.queue i).req) (suc i)))

-- 20s: to other locking stations only
calls_few : (n j : ℕ) (s : Server) (i : ℕ) → length (calls_from n j s i) ≤ others n j i (locks s.kind)
unfolding others
calls_few zero j s i = omega arith
calls_few (suc n) j s i =
    let rest = calls_few n (suc j) s i in
    by_b (concerned s i j)
    (λ e. rw e (omega (arith, ap nb (named e))))
    (λ e. rw e (omega arith))
  where
    named : concerned s i j ≡ true → (not (eqb j i) && locks s.kind j) ≡ true
    named e =
        let three = and_l (not (eqb j i) && ltb j 8 && locking (s.kind j)) _ e in
        let away = and_l (not (eqb j i)) _ (and_l (not (eqb j i) && ltb j 8) _ three) in
        rw (away, and_r (not (eqb j i) && ltb j 8) _ three) refl

called_goes : (k : ℕ → ℕ) (q : ℕ → Waiter) (d : ℕ → Bool) (i : ℕ) → i < 8 → is_want (q i).want ≡ true → (q i).called ≡ false
    → sum_to 8 (λ j. left k j (upd q i (marked (q i) d) j)) + others 8 0 i (locks k) ≤ sum_to 8 (λ j. left k j (q j))
called_goes k q d i b t c =
    let z : left k i (upd q i (marked (q i) d) i) + others 8 0 i (locks k) ≤ left k i (q i) = rw (eqb_same i, t, c) (omega arith) in
    sum_at 8 (λ j. left k j (upd q i (marked (q i) d) j)) (λ j. left k j (q j)) (others 8 0 i (locks k)) i
    (λ j. by_eq j i (λ e. rw (e, eqb_yes j i e, t, c) (omega arith)) (λ e. rw e (omega arith))) b z

call_total : (i : ℕ) (x : Serving) → i < 8 → waits x.server i ≡ true → (x.server.queue i).called ≡ false → total (call i x) ≤ total x
unfolding call
call_total i x b t c =
    omega (arith, length-append x.sent (calls_from 8 0 x.server i), calls_few 8 0 x.server i, called_goes x.server.kind x.server.queue (concerned x.server i) i b t c)

-- 23s: to other validating stations only
inform_kind : (i : ℕ) (w : Work) (j : ℕ) (x : Serving) → (inform i w j x).server.kind ≡ x.server.kind
unfolding inform
inform_kind i w j x = by_b (informed x.server i w j) (λ e. rw e refl) (λ e. rw e refl)

inform_room : (i : ℕ) (w : Work) (j : ℕ) (x : Serving) → room (inform i w j x).server ≡ room x.server
unfolding inform
inform_room i w j x = by_b (informed x.server i w j) (λ e. rw e refl) (λ e. rw e refl)

informs_room : (n j i : ℕ) (w : Work) (x : Serving) → room (inform_from n j i w x).server ≡ room x.server
unfolding inform_from
informs_room zero j i w x = refl
informs_room (suc n) j i w x = informs_room n (suc j) i w (inform i w j x) ∙ inform_room i w j x

inform_one : (i : ℕ) (w : Work) (j : ℕ) (x : Serving) → length (inform i w j x).sent ≤ length x.sent + nb (not (eqb j i) && validates x.server.kind j)
unfolding inform
inform_one i w j x =
    by_b (informed x.server i w j)
    (λ e. rw e (rw one_more (omega (arith, ap nb (and_l (not (eqb j i) && validates x.server.kind j) _ e)))))
    (λ e. rw e (omega arith))

informs_few : (n j i : ℕ) (w : Work) (x : Serving) (k : ℕ → ℕ) → x.server.kind ≡ k → length (inform_from n j i w x).sent ≤ length x.sent + others n j i (validates k)
unfolding inform_from others
informs_few zero j i w x k e = omega arith
informs_few (suc n) j i w x k e =
    let rest : length (inform_from n (suc j) i w (inform i w j x)).sent ≤ length (inform i w j x).sent + others n (suc j) i (validates k) = informs_few n (suc j) i w (inform i w j x) k (inform_kind i w j x ∙ e) in
    let one : length (inform i w j x).sent ≤ length x.sent + nb (not (eqb j i) && validates k j) = rw (← e) (inform_one i w j x) in
    omega arith

-- an install sends 21 and 23s; its waiter, if it was one, is gone
pub install_sent : (i : ℕ) (w : Work) (x : Serving) → length (install i w x).sent ≤ length x.sent + 1 + others 8 0 i (validates x.server.kind)
unfolding install finish archive write leave
install_sent i w x =
    let y : Serving = finish i ByCommit (archive i w (write w (leave i x))) in
    let z : Serving = send y i (Committed w.transaction y.server.last) in
    omega (arith, informs_few 8 0 i w z x.server.kind refl, one_more x.sent (To i (Committed w.transaction y.server.last)))

pub install_room : (i : ℕ) (w : Work) (x : Serving) → i < 8 → room (install i w x).server + left x.server.kind i (x.server.queue i) ≤ room x.server
unfolding install finish archive write leave
install_room i w x b = rw (informs_room 8 0 i w) (omega (arith, waiter_goes x.server.kind x.server.queue i b, frees (x.server.kind i) x.server.wl x.server.asked i))

install_total : (i : ℕ) (x : Serving) → i < 8 → waits x.server i ≡ true → total (install_waiter i x) ≤ total x
unfolding install_waiter
install_total i x b t = omega (arith, install_sent i (x.server.queue i).work x, install_room i (x.server.queue i).work x b, left_2 x.server.kind i (x.server.queue i) t)

pub atomic_total : (k : ℕ) → Atomic (λ x. total x ≤ k)
atomic_total k =
    record {
      aborts = λ i c x b t h. let l = abort_total i c x b t in omega arith;
      asks = λ i g p x b t u h. let l = ask_total i g p x b t.page u in omega arith;
      reads = λ i x b w c h. let l = read_total i x b (ap is_want w) in omega arith;
      calls = λ i x b t u w c h. let l = call_total i x b t u in omega arith;
      objects = λ i x b w r h. let l = object_total i x b (ap is_want w) in omega arith;
      pages = λ i x b w r e h. let l = page_total i x b (ap is_want w) in omega arith;
      installs = λ i x b w f r h. let l = install_total i x b (ap is_want w) in omega arith;
    }

-- every step, of any state, on any message: at most 9 messages before the pass, and 104 that the pass can send

pub notice_sent : (i t : ℕ) (x : Serving) → (notice i t x).sent ≡ x.sent
unfolding notice
notice_sent i t x = by_b (eqb t (x.server.latest i)) (λ e. rw e refl) (λ e. rw e refl)

commit_few : (i : ℕ) (w : Work) (x : Serving) → length (commit_now i w x).sent ≤ length x.sent + 9
unfolding commit_now abort finish leave
commit_few i w x =
    by_b (eqb x.server.last last_number) (λ e. rw (e, one_more) (omega arith))
    (λ e. rw e (omega (arith, install_sent i w x, both_n 8 0 i x.server.kind)))

accept_few : (i : ℕ) (m : Up) (x : Serving) → length (accept i m x).sent ≤ length x.sent + 9
unfolding accept join_read join_write join_commit join serve_now send_page finish unlist mark_busy answered loosen heed
accept_few i (ReadRequest a t) x =
    let n = ap length (notice_sent i t x) in
    by_b (locking (x.server.kind i)) (λ e. rw e (omega arith)) (λ e. rw (e, one_more) (omega arith))
accept_few i (WriteRequest p t set) x = omega (arith, ap length (notice_sent i t x))
accept_few i (Commit w) x =
    let n = ap length (notice_sent i w.transaction x) in
    by_b (locking (x.server.kind i)) (λ e. rw e (omega (arith, commit_few i w (notice i w.transaction x)))) (λ e. rw e (omega arith))
accept_few i (Abort t) x = omega (arith, ap length (notice_sent i t x))
accept_few i (Purge p) x = omega arith
accept_few i (Busy r t) x = by_b (open_call x.server i r t) (λ e. rw e (omega arith)) (λ e. rw e (omega arith))
accept_few i (Done r t d) x = by_b (open_call x.server i r t) (λ e. rw e (omega arith)) (λ e. rw e (omega arith))
accept_few i (WrittenSet p t set) x =
    by_b (open_ask x.server i p t)
    (λ e. rw e (met_keeps (λ y. length y.sent ≤ length x.sent + 9) i t x (omega (arith, ap length (notice_sent i t x))) (omega arith)))
    (λ e. rw e (omega arith))

-- no premise: any number i, accepted or not, also a state that no run reaches
pub step_128 : (i : ℕ) (m : Up) (s : Server) → length (server_step i m s).sent ≤ 128
step_128 i m s =
    let first = accept_few i m (start s) in
    let rest = room_104 (accept i m (start s)).server in
    let all : total (server_step i m s) ≤ 113 = step_keeps (λ x. total x ≤ 113) (atomic_total 113) i m s (omega arith) in
    omega arith

-- an accepted message: 104 with what is sent before the pass. A station that does not wait leaves its share free

sum_but : (n : ℕ) (f : ℕ → ℕ) (j : ℕ) → n ≤ 8 → ((i : ℕ) → i < 8 → f i ≤ 9) → j < n → f j ≡ 0 → sum_to n f + 9 ≤ 9 * n
unfolding sum_to
sum_but zero f j a h b z = absurd (omega arith)
sum_but (suc n) f j a h b z =
    let rest : j < n → sum_to n f + 9 ≤ 9 * n = λ c. sum_but n f j (omega arith) h c z in
    by_eq j n
    (λ e. let y : f n ≡ 0 = rw (eqb_yes j n e) at z in omega (arith, sum_9 n f (omega arith) h))
    (λ e. omega (arith, h n (omega arith), rest (omega (arith, eqb_no j n e))))

room_95 : (s : Server) (i : ℕ) → i < 8 → waits s i ≡ false → room s ≤ 95
room_95 s i b e =
    let z : left s.kind i (s.queue i) ≡ 0 = rw e refl in
    omega (arith, pages_32 s, sum_but 8 (λ j. left s.kind j (s.queue j)) i (omega arith) (λ j c. left_9 s.kind j (s.queue j) c) b z)

notice_queue : (i t : ℕ) (x : Serving) → (notice i t x).server.queue ≡ x.server.queue
unfolding notice
notice_queue i t x = by_b (eqb t (x.server.latest i)) (λ e. rw e refl) (λ e. rw e refl)

-- a locking commit, whether or not its station waits
module _ (i : ℕ) (x : Serving) (b : i < 8) (quiet : length x.sent ≡ 0) where
  share : 1 + others 8 0 i (validates x.server.kind) + room x.server ≤ 104 + left x.server.kind i (x.server.queue i)
  share =
      by_b (waits x.server i)
      (λ e. omega (arith, room_104 x.server, left_2 x.server.kind i (x.server.queue i) e))
      (λ e. omega (arith, room_95 x.server i b e, seven i x.server.kind b))

  commit_total : (w : Work) → total (commit_now i w x) ≤ 104
  unfolding commit_now
  commit_total w =
      by_b (eqb x.server.last last_number)
      (λ e. rw e (omega (arith, abort_sent i 4 x, abort_room i 4 x b, share)))
      (λ e. rw e (omega (arith, install_sent i w x, install_room i w x b, share)))

quiet_total : (x : Serving) → length x.sent ≡ 0 → total x ≤ 104
quiet_total x e = omega (arith, room_104 x.server)

now_total : (i a : ℕ) (x : Serving) → i < 8 → length x.sent ≡ 0 → waits x.server i ≡ false → total (serve_now i a x) ≤ 104
unfolding serve_now send_page
now_total i a x b n e = rw one_more (omega (arith, room_95 x.server i b e))

or_r : (a b : Bool) → (a || b) ≡ false → b ≡ false
or_r true b e = absurd (false≢true (sym e))
or_r false b e = e

-- number 6: "while it waits"
free : (s : Server) (i t : ℕ) → bad_number s i t ≡ false → waits s i ≡ false
free s i t e = or_r (ltb t (s.latest i) || (eqb t (s.latest i) && s.fin i) || (ltb (s.latest i) t && not (s.fin i) && locking (s.kind i))) (waits s i) e

accept_total : (i : ℕ) (m : Up) (s : Server) → i < 8 → unexpected i m s ≡ false → total (accept i m (start s)) ≤ 104
unfolding accept join_read join_write join_commit join finish unlist mark_busy answered loosen heed
accept_total i (ReadRequest a t) s b u =
    let n : length (notice i t (start s)).sent ≡ 0 = ap length (notice_sent i t (start s)) in
    let w : waits (notice i t (start s)).server i ≡ false = rw (notice_queue i t (start s)) (free s i t u) in
    by_b (locking (s.kind i))
    (λ e. rw e (quiet_total (join_read i a (notice i t (start s))) n))
    (λ e. rw e (now_total i a (notice i t (start s)) b n w))
accept_total i (WriteRequest p t set) s b u = quiet_total (join_write i p set (notice i t (start s))) (ap length (notice_sent i t (start s)))
accept_total i (Commit w) s b u =
    let n : length (notice i w.transaction (start s)).sent ≡ 0 = ap length (notice_sent i w.transaction (start s)) in
    by_b (locking (s.kind i))
    (λ e. rw e (commit_total i (notice i w.transaction (start s)) b n w))
    (λ e. rw e (quiet_total (join_commit i w (notice i w.transaction (start s))) n))
accept_total i (Abort t) s b u = quiet_total (finish i ByMessage (notice i t (start s))) (ap length (notice_sent i t (start s)))
accept_total i (Purge p) s b u = quiet_total (unlist i (λ q. eqb q p) (start s)) refl
accept_total i (Busy r t) s b u =
    by_b (open_call s i r t) (λ e. rw e (quiet_total (mark_busy i r (start s)) refl)) (λ e. rw e (quiet_total (start s) refl))
accept_total i (Done r t d) s b u =
    by_b (open_call s i r t) (λ e. rw e (quiet_total (answered i r (unlist i d (start s))) refl)) (λ e. rw e (quiet_total (unlist i d (start s)) refl))
accept_total i (WrittenSet p t set) s b u =
    by_b (open_ask s i p t)
    (λ e. rw e (quiet_total (heed i p t set (start s)) (met_keeps (λ y. length y.sent ≡ 0) i t (start s) (ap length (notice_sent i t (start s))) refl)))
    (λ e. rw e (quiet_total (start s) refl))

-- records: each install uses up a waiter, or is the accepted locking commit, whose station then waits for nothing

abbrev pub waiters_now : Server → ℕ
waiters_now s = sum_to 8 (λ i. nb (waits s i))

abbrev pub records : Serving → ℕ
records x = length x.recs + waiters_now x.server

one_goes : (q : ℕ → Waiter) (i : ℕ) → i < 8 → sum_to 8 (λ j. nb (is_want (upd q i no_waiter j).want)) + nb (is_want (q i).want) ≤ sum_to 8 (λ j. nb (is_want (q j).want))
one_goes q i b = leaves_by (λ j w. nb (is_want w.want)) (λ j. refl) q i b

inform_same : (i : ℕ) (w : Work) (j : ℕ) (x : Serving) → records (inform i w j x) ≡ records x
unfolding inform
inform_same i w j x = by_b (informed x.server i w j) (λ e. rw e refl) (λ e. rw e refl)

informs_same : (n j i : ℕ) (w : Work) (x : Serving) → records (inform_from n j i w x) ≡ records x
unfolding inform_from
informs_same zero j i w x = refl
informs_same (suc n) j i w x = informs_same n (suc j) i w (inform i w j x) ∙ inform_same i w j x

install_records : (i : ℕ) (w : Work) (x : Serving) → i < 8 → records (install i w x) + nb (waits x.server i) ≤ records x + 1
unfolding install finish archive write leave
install_records i w x b = rw (informs_same 8 0 i w, one_more) (omega (arith, one_goes x.server.queue i b))

-- no other action makes a record, and none makes a waiter
module _ (i : ℕ) (x : Serving) (b : i < 8) where
  abort_records : (c : ℕ) → records (abort i c x) ≤ records x
  unfolding abort finish leave
  abort_records c = omega (arith, one_goes x.server.queue i b)

  read_records : records (serve_read i x) ≤ records x
  unfolding serve_read send_page leave
  read_records = omega (arith, one_goes x.server.queue i b)

  object_records : records (grant_object i x) ≤ records x
  unfolding grant_object send_page leave
  object_records = omega (arith, one_goes x.server.queue i b)

  page_records : records (grant_page i x) ≤ records x
  unfolding grant_page send_page leave
  page_records = omega (arith, one_goes x.server.queue i b)

call_records : (i : ℕ) (x : Serving) → records (call i x) ≤ records x
unfolding call
call_records i x =
    omega (arith, sum_le 8 (λ j. nb (waits (call i x).server j)) (λ j. nb (waits x.server j)) (λ j. by_eq j i (λ e. rw (e, ← eqb_yes j i e) (omega arith)) (λ e. rw e (omega arith))))

atomic_records : (k : ℕ) → Atomic (λ x. records x ≤ k)
unfolding ask install_waiter
atomic_records k =
    record {
      aborts = λ i c x b t h. let l = abort_records i x b c in omega arith;
      asks = λ i g p x b t u h. h;
      reads = λ i x b w c h. let l = read_records i x b in omega arith;
      calls = λ i x b t u w c h. let l = call_records i x in omega arith;
      objects = λ i x b w r h. let l = object_records i x b in omega arith;
      pages = λ i x b w r e h. let l = page_records i x b in omega arith;
      installs = λ i x b w f r h. let l = install_records i (x.server.queue i).work x b in omega (arith, ap (λ v. nb (is_want v)) w);
    }

waiters_8 : (s : Server) → waiters_now s ≤ 8
waiters_8 s = sum_1 8 (λ i. nb (waits s i)) (λ i. nb_1 (waits s i))

ones : sum_to 8 (λ j. 1) ≡ 8
unfolding sum_to
ones = refl

waiters_7 : (s : Server) (i : ℕ) → i < 8 → waiters_now s ≤ 7 + nb (waits s i)
waiters_7 s i b =
    by_b (waits s i) (λ e. rw e (waiters_8 s))
    (λ e.
    let z : nb (waits s i) + 1 ≤ 1 = rw e (omega arith) in
    rw e (omega (arith, sum_at 8 (λ j. nb (waits s j)) (λ j. 1) 1 i (λ j. nb_1 (waits s j)) b z, ones)))

quiet_records : (x : Serving) → length x.recs ≡ 0 → records x ≤ 8
quiet_records x e = omega (arith, waiters_8 x.server)

notice_recs : (i t : ℕ) (x : Serving) → (notice i t x).recs ≡ x.recs
unfolding notice
notice_recs i t x = by_b (eqb t (x.server.latest i)) (λ e. rw e refl) (λ e. rw e refl)

commit_records : (i : ℕ) (w : Work) (x : Serving) → i < 8 → length x.recs ≡ 0 → records (commit_now i w x) ≤ 8
unfolding commit_now
commit_records i w x b n =
    by_b (eqb x.server.last last_number)
    (λ e. rw e (omega (arith, abort_records i x b 4, quiet_records x n)))
    (λ e. rw e (omega (arith, install_records i w x b, waiters_7 x.server i b)))

accept_records : (i : ℕ) (m : Up) (s : Server) → i < 8 → records (accept i m (start s)) ≤ 8
unfolding accept join_read join_write join_commit join serve_now send_page finish unlist mark_busy answered loosen heed
accept_records i (ReadRequest a t) s b =
    let n : length (notice i t (start s)).recs ≡ 0 = ap length (notice_recs i t (start s)) in
    by_b (locking (s.kind i))
    (λ e. rw e (quiet_records (join_read i a (notice i t (start s))) n))
    (λ e. rw e (quiet_records (serve_now i a (notice i t (start s))) n))
accept_records i (WriteRequest p t set) s b = quiet_records (join_write i p set (notice i t (start s))) (ap length (notice_recs i t (start s)))
accept_records i (Commit w) s b =
    let n : length (notice i w.transaction (start s)).recs ≡ 0 = ap length (notice_recs i w.transaction (start s)) in
    by_b (locking (s.kind i))
    (λ e. rw e (commit_records i w (notice i w.transaction (start s)) b n))
    (λ e. rw e (quiet_records (join_commit i w (notice i w.transaction (start s))) n))
accept_records i (Abort t) s b = quiet_records (finish i ByMessage (notice i t (start s))) (ap length (notice_recs i t (start s)))
accept_records i (Purge p) s b = quiet_records (unlist i (λ q. eqb q p) (start s)) refl
accept_records i (Busy r t) s b =
    by_b (open_call s i r t) (λ e. rw e (quiet_records (mark_busy i r (start s)) refl)) (λ e. rw e (quiet_records (start s) refl))
accept_records i (Done r t d) s b =
    by_b (open_call s i r t) (λ e. rw e (quiet_records (answered i r (unlist i d (start s))) refl)) (λ e. rw e (quiet_records (unlist i d (start s)) refl))
accept_records i (WrittenSet p t set) s b =
    by_b (open_ask s i p t)
    (λ e. rw e (quiet_records (heed i p t set (start s)) (met_keeps (λ y. length y.recs ≡ 0) i t (start s) (ap length (notice_recs i t (start s))) refl)))
    (λ e. rw e (quiet_records (start s) refl))

-- a station's message, accepted or not, in any state: at most 8 records (an install takes the station off the list, so number 6 is
-- not needed; a locking commit of a number from 8 on would be a ninth)
pub step_8 : (i : ℕ) (m : Up) (s : Server) → i < 8 → length (server_step i m s).recs ≤ 8
step_8 i m s b =
    let all : records (server_step i m s) ≤ 8 = step_keeps (λ x. records x ≤ 8) (atomic_records 8) i m s (accept_records i m s b) in
    omega arith

pub record StepBound (x : Serving) : Type 0 where
  pub messages : length x.sent ≤ 104
  pub records : length x.recs ≤ 8

-- every state, also one that no run reaches: an accepted message of a station. (A validating read of a station that waits, which is
-- number 6, would add its 16 to the 104.)
pub step_bound : (i : ℕ) (m : Up) (s : Server) → i < 8 → unexpected i m s ≡ false → StepBound (server_step i m s)
step_bound i m s b u =
    let all : total (server_step i m s) ≤ 104 = step_keeps (λ x. total x ≤ 104) (atomic_total 104) i m s (accept_total i m s b u) in
    record { messages = omega arith; records = step_8 i m s b }

-- a station's call: kept callbacks are one each, and none is the station's own ("a kept callback from the station itself" is number 1)

pub kept_one : (r : ℕ) (k : Kept) (d : Did) → length (do_kept r k d).sent ≤ length d.sent + 1
unfolding do_kept do_callback
kept_one r NotKept d = omega arith
kept_one r (KeptCall t set) d = rw one_more (omega arith)

kept_most : (n r : ℕ) (d : Did) → length (do_all_kept n r d).sent ≤ length d.sent + n
unfolding do_all_kept
kept_most zero r d = omega arith
kept_most (suc n) r d = omega (arith, kept_one r (d.station.kept r) d, kept_most n (suc r) (do_kept r (d.station.kept r) d))

pub kept_stays : (own r : ℕ) (k : Kept) (d : Did) → d.station.kept own ≡ NotKept → (do_kept r k d).station.kept own ≡ NotKept
unfolding do_kept do_callback drop_pages mark
kept_stays own r NotKept d e = e
kept_stays own r (KeptCall t set) d e = by_eq own r (λ q. rw q refl) (λ q. rw q e)

kept_none : (r : ℕ) (k : Kept) (d : Did) → k ≡ NotKept → do_kept r k d ≡ d
unfolding do_kept
kept_none r k d e = rw e refl

kept_less : (own n r : ℕ) (d : Did) → r ≤ own → own < r + n → d.station.kept own ≡ NotKept → length (do_all_kept n r d).sent + 1 ≤ length d.sent + n
unfolding do_all_kept
kept_less own zero r d a b e = absurd (omega arith)
kept_less own (suc n) r d a b e =
    let y : Did = do_kept r (d.station.kept r) d in
    let rest : suc r ≤ own → length (do_all_kept n (suc r) y).sent + 1 ≤ length y.sent + n = λ c. kept_less own n (suc r) y c (omega arith) (kept_stays own r (d.station.kept r) d e) in
    by_eq r own
    (λ q. omega (arith, kept_most n (suc r) y, ap (λ (z : Did). length z.sent) (kept_none r (d.station.kept r) d (rw (eqb_yes r own q) e))))
    (λ q. omega (arith, kept_one r (d.station.kept r) d, rest (omega (arith, eqb_no r own q))))

close_8 : (d : Did) → d.sent ≡ [] → length (close d).sent ≤ 8
unfolding close
close_8 d e = omega (arith, ap length e, kept_most 8 0 (did_station d (closed d.station)))

close_7 : (own : ℕ) (d : Did) → own < 8 → d.station.kept own ≡ NotKept → length (close d).sent ≤ length d.sent + 7
unfolding close closed
close_7 own d b e = omega (arith, kept_less own 8 0 (did_station d (closed d.station)) (omega arith) (omega arith) e)

pub undo_kept : (s : Station) → (undo s).kept ≡ s.kept
unfolding undo mark drop_pages
undo_kept s = by_b (locking s.kind) (λ e. rw e refl) (λ e. rw e refl)

unless_8 : (n : ℕ) (d : Did) (s : Station) → length d.sent ≤ 8 → length (unless n d s).sent ≤ 8
unless_8 n d s h = by_b (eqb n 0) (λ e. rw e h) (λ e. rw e (omega arith))

read_8 : (a : ℕ) (v r : Val) (s : Station) → length (read_as a v r s).sent ≤ 8
unfolding read_as read_local read_ask
read_8 a none none s = by_b (shown s a) (λ e. rw e (omega arith)) (λ e. rw e (omega arith))
read_8 a none (some v) s = omega arith
read_8 a (some v) r s = omega arith

write_8 : (p : ℕ) (f : ℕ → Val) (s : Station) → length (cond (some_on p (named f s)) (write_ask p f s) (does Written (write_local f s) [])).sent ≤ 8
unfolding write_ask
write_8 p f s = by_b (some_on p (named f s)) (λ e. rw e (omega arith)) (λ e. rw e (omega arith))

abort_8 : (own : ℕ) (s : Station) → own < 8 → s.kept own ≡ NotKept → length (close (does (AbortedFor 0) (undo s) (cond (locking s.kind) (Abort s.num ∷ []) []))).sent ≤ 8
abort_8 own s b e =
    let l : List Up = cond (locking s.kind) (Abort s.num ∷ []) [] in
    let one : length l ≤ 1 = by_b (locking s.kind) (λ q. rw q (omega arith)) (λ q. rw q (omega arith)) in
    omega (arith, close_7 own (does (AbortedFor 0) (undo s) l) b (rw (undo_kept s) e))

-- an owner's operation, at the station own
pub owner_bound : (own : ℕ) (op : Op) (s : Station) → own < 8 → s.kept own ≡ NotKept → length (perform op s).sent ≤ 8
unfolding perform own_begin own_read own_write write_set own_commit own_abort own_purge
owner_bound own Begin s b e = unless_8 (check_begin s) _ s (omega arith)
owner_bound own (Read a) s b e = unless_8 (check_read a s) _ s (read_8 a (s.wr a) (s.rd a) s)
owner_bound own (WriteSet p f) s b e = unless_8 (check_write p (of_page p f) s) _ s (write_8 p (of_page p f) s)
owner_bound own Commits s b e = unless_8 (check_open s) _ s (omega arith)
owner_bound own Aborts s b e = unless_8 (check_open s) _ s (abort_8 own s b e)
owner_bound own (Purges p) s b e = unless_8 (check_purge p s) _ s (omega arith)

wait_8 : (v : Wait) (s : Station) → length (answer_wait v s).sent ≤ 8
unfolding answer_wait
wait_8 Idle s = omega arith
wait_8 (ForRead a) s = omega arith
wait_8 (ForWrite p f) s = omega arith
wait_8 ForCommit s = omega arith

down_8 : (m : Down) (s : Station) → length (on_down m s).sent ≤ 8
unfolding on_down on_page on_deescalate on_callback on_committed on_aborted on_invalidate do_callback
down_8 (Page l a t v u x) s = by_b (ended s t) (λ e. rw e (omega arith)) (λ e. rw e (wait_8 s.wait _))
down_8 (Deescalate p t) s = omega arith
down_8 (Callback r t set) s = by_b (any 256 (λ a. set a && used_at s a)) (λ e. rw e (omega arith)) (λ e. rw e (omega arith))
down_8 (Committed t n) s = close_8 _ refl
down_8 (Aborted t c) s = close_8 _ refl
down_8 (Invalidate d) s =
    by_b (any 256 (λ a. d a && used_at s a) && not (for_commit s.wait))
    (λ e. rw e (close_8 _ refl))
    (λ e. rw e (omega arith))

-- a station's step, in any state
pub station_bound : (m : Down) (s : Station) → length (station_step m s).sent ≤ 8
unfolding station_step
station_bound m s = unless_8 (turned (not (fits m s)) 6 0) (on_down m s) s (down_8 m s)

-- "Refused calls answer the number, send nothing and change no state"

-- the station as it was, nothing sent
pub record Untouched (s : Station) (d : Did) : Type 0 where
  pub station : d.station ≡ s
  pub sent : d.sent ≡ []

unless_untouched : (n : ℕ) (d : Did) (s : Station) → is_refused d.answer ≡ false → is_refused (unless n d s).answer ≡ true → Untouched s (unless n d s)
unless_untouched n d s f h =
    by_b (eqb n 0) (λ e. absurd (false≢true (sym f ∙ (rw e at h)))) (λ e. rw e (record { station = refl; sent = refl }))

-- what is answered where nothing is refused

kept_answer : (r : ℕ) (k : Kept) (d : Did) → (do_kept r k d).answer ≡ d.answer
unfolding do_kept do_callback
kept_answer r NotKept d = refl
kept_answer r (KeptCall t set) d = refl

kepts_answer : (n r : ℕ) (d : Did) → (do_all_kept n r d).answer ≡ d.answer
unfolding do_all_kept
kepts_answer zero r d = refl
kepts_answer (suc n) r d = kepts_answer n (suc r) (do_kept r (d.station.kept r) d) ∙ kept_answer r (d.station.kept r) d

close_answer : (d : Did) → (close d).answer ≡ d.answer
unfolding close
close_answer d = kepts_answer 8 0 (did_station d (closed d.station))

read_answer : (a : ℕ) (v r : Val) (s : Station) → is_refused (read_as a v r s).answer ≡ false
unfolding read_as read_local read_ask
read_answer a none none s = by_b (shown s a) (λ e. rw e refl) (λ e. rw e refl)
read_answer a none (some v) s = refl
read_answer a (some v) r s = refl

write_answer : (p : ℕ) (f : ℕ → Val) (s : Station) → is_refused (cond (some_on p (named f s)) (write_ask p f s) (does Written (write_local f s) [])).answer ≡ false
unfolding write_ask
write_answer p f s = by_b (some_on p (named f s)) (λ e. rw e refl) (λ e. rw e refl)

wait_answer : (v : Wait) (s : Station) → is_refused (answer_wait v s).answer ≡ false
unfolding answer_wait
wait_answer Idle s = refl
wait_answer (ForRead a) s = refl
wait_answer (ForWrite p f) s = refl
wait_answer ForCommit s = refl

down_answer : (m : Down) (s : Station) → is_refused (on_down m s).answer ≡ false
unfolding on_down on_page on_deescalate on_callback on_committed on_aborted on_invalidate do_callback
down_answer (Page l a t v u x) s = by_b (ended s t) (λ e. rw e refl) (λ e. rw e (wait_answer s.wait _))
down_answer (Deescalate p t) s = refl
down_answer (Callback r t set) s = by_b (any 256 (λ a. set a && used_at s a)) (λ e. rw e refl) (λ e. rw e refl)
down_answer (Committed t n) s = ap is_refused (close_answer _)
down_answer (Aborted t c) s = ap is_refused (close_answer _)
down_answer (Invalidate d) s =
    by_b (any 256 (λ a. d a && used_at s a) && not (for_commit s.wait))
    (λ e. rw e (ap is_refused (close_answer _)))
    (λ e. rw e refl)

-- a refused operation, a refused step

pub perform_untouched : (op : Op) (s : Station) → is_refused (perform op s).answer ≡ true → Untouched s (perform op s)
unfolding perform own_begin own_read own_write write_set own_commit own_abort own_purge
perform_untouched Begin s h = unless_untouched (check_begin s) _ s refl h
perform_untouched (Read a) s h = unless_untouched (check_read a s) _ s (read_answer a (s.wr a) (s.rd a) s) h
perform_untouched (WriteSet p f) s h = unless_untouched (check_write p (of_page p f) s) _ s (write_answer p (of_page p f) s) h
perform_untouched Commits s h = unless_untouched (check_open s) _ s refl h
perform_untouched Aborts s h = unless_untouched (check_open s) _ s (ap is_refused (close_answer _)) h
perform_untouched (Purges p) s h = unless_untouched (check_purge p s) _ s refl h

pub step_untouched : (m : Down) (s : Station) → is_refused (station_step m s).answer ≡ true → Untouched s (station_step m s)
unfolding station_step
step_untouched m s h = unless_untouched (turned (not (fits m s)) 6 0) (on_down m s) s (down_answer m s) h

-- the world: an update by what was there is no update

upd_own : {A : Type 0} (f : ℕ → A) (i : ℕ) (v : A) → v ≡ f i → (j : ℕ) → upd f i v j ≡ f j
upd_own f i v h j = by_eq j i (λ e. rw (e, eqb_yes j i e) h) (λ e. rw e refl)

carry_none : (i : ℕ) (d : Did) (w : World) → Untouched (w.station i) d → carry_up i d w ≡ w
unfolding carry_up
carry_none i d w h =
    λ t.
    record {
      server = w.server;
      station = fun_ext (upd_own w.station i d.station h.station) t;
      up = fun_ext (upd_own w.up i (w.up i ++ d.sent) (rw h.sent (append-nil (w.up i)))) t;
      down = w.down;
      archive = w.archive;
      told = w.told;
      sent_down = w.sent_down;
      number = w.number;
      asked = w.asked;
    }

tell_refused : (i : ℕ) (op : Op) (a : Answer) (w : World) → is_refused a ≡ true → tell i op a w ≡ w
unfolding tell
tell_refused i op Nothing w h = refl
tell_refused i op (Begun t) w h = absurd (false≢true h)
tell_refused i op (Value v) w h = absurd (false≢true h)
tell_refused i op Waits w h = absurd (false≢true h)
tell_refused i op Written w h = absurd (false≢true h)
tell_refused i op (CommittedAs n) w h = absurd (false≢true h)
tell_refused i op (AbortedFor c) w h = absurd (false≢true h)
tell_refused i op Purged w h = refl
tell_refused i op (Refused n) w h = refl
tell_refused i op Empty w h = refl

-- what a call left of the world w: all of it, and a reply with nothing but the answer
pub record Unchanged (w : World) (a : Acted) : Type 0 where
  pub world : a.world ≡ w
  pub ups : a.reply.ups ≡ []
  pub downs : a.reply.downs ≡ []
  pub recs : a.reply.recs ≡ []

-- a refused call's claim
abbrev pub IfRefused : World → Acted → Type 0
IfRefused w a = is_refused a.reply.answer ≡ true → Unchanged w a

either : (w : World) (b : Bool) (x y : Acted) → IfRefused w x → IfRefused w y → IfRefused w (cond b x y)
either w true x y t f = t
either w false x y t f = f

turned_back : (w : World) (a : Answer) → IfRefused w (acted w (replies a))
turned_back w a h = record { world = refl; ups = refl; downs = refl; recs = refl }

owner_refused : (i : ℕ) (op : Op) (w : World) → IfRefused w (owner_acts i op w)
unfolding owner_acts
owner_refused i op w h =
    let d : Did = perform op (w.station i) in
    let u : Untouched (w.station i) d = perform_untouched op (w.station i) h in
    record { world = tell_refused i op d.answer (carry_up i d w) h ∙ carry_none i d w u; ups = u.sent; downs = refl; recs = refl }

server_refused : (i : ℕ) (l : List Up) (w : World) → IfRefused w (server_takes i l w)
unfolding server_takes
server_refused i [] w = turned_back w Empty
server_refused i (m ∷ l) w = either w (unexpected i m w.server) _ _ (turned_back w (Refused 6)) (λ h. absurd (false≢true h))

station_refused : (i : ℕ) (l : List Down) (w : World) → IfRefused w (station_takes i l w)
unfolding station_takes
station_refused i [] w h = turned_back w Empty h
station_refused i (m ∷ l) w h =
    let d : Did = station_step m (w.station i) in
    by_b (is_refused d.answer)
    (λ e. let u = step_untouched m (w.station i) e in rw e (record { world = refl; ups = u.sent; downs = refl; recs = refl }))
    (λ e. absurd (false≢true (sym e ∙ (rw e at h))))

-- every call of every kind, in every world
pub refused_nothing : (c : Call) (w : World) → is_refused (act c w).reply.answer ≡ true → Unchanged w (act c w)
unfolding act
refused_nothing (Owner i op) w = either w (ltb i 8) _ _ (owner_refused i op w) (turned_back w (Refused 4))
refused_nothing (ServerTakes i) w = either w (ltb i 8) _ _ (server_refused i (w.up i) w) (turned_back w Empty)
refused_nothing (StationTakes i) w = either w (ltb i 8) _ _ (station_refused i (w.down i) w) (turned_back w Empty)
refused_nothing (Broken n) w = turned_back w (Refused n)

-- what a call sends and archives. The server's calls need no premise: a step runs only for a station, and only if nothing is
-- unexpected. The premise is number 1's, for the owners' calls: no station keeps a callback of its own (in a run none does: `kept_run`)

pub record ReplyBound (r : Reply) : Type 0 where
  pub ups : length r.ups ≤ 8
  pub downs : length r.downs ≤ 104
  pub recs : length r.recs ≤ 8

both_bound : (b : Bool) (x y : Acted) → (b ≡ true → ReplyBound x.reply) → (b ≡ false → ReplyBound y.reply) → ReplyBound (cond b x y).reply
both_bound true x y t f = t refl
both_bound false x y t f = f refl

only_answer : (a : Answer) → ReplyBound (replies a)
only_answer a = record { ups = omega arith; downs = omega arith; recs = omega arith }

up_bound : (d : Did) → length d.sent ≤ 8 → ReplyBound (up_reply d)
up_bound d h = record { ups = h; downs = omega arith; recs = omega arith }

owner_reply : (i : ℕ) (op : Op) (w : World) → i < 8 → (w.station i).kept i ≡ NotKept → ReplyBound (owner_acts i op w).reply
unfolding owner_acts
owner_reply i op w b e = up_bound (perform op (w.station i)) (owner_bound i op (w.station i) b e)

server_reply : (i : ℕ) (l : List Up) (w : World) → i < 8 → ReplyBound (server_takes i l w).reply
unfolding server_takes
server_reply i [] w b = only_answer Empty
server_reply i (m ∷ l) w b =
    both_bound (unexpected i m w.server) _ _ (λ e. only_answer (Refused 6))
    (λ e. let s = step_bound i m w.server b e in record { ups = omega arith; downs = s.messages; recs = s.records })

station_reply : (i : ℕ) (l : List Down) (w : World) → ReplyBound (station_takes i l w).reply
unfolding station_takes
station_reply i [] w = only_answer Empty
station_reply i (m ∷ l) w =
    let d : Did = station_step m (w.station i) in
    let r : ReplyBound (up_reply d) = up_bound d (station_bound m (w.station i)) in
    both_bound (is_refused d.answer) _ _ (λ e. r) (λ e. r)

below : (i n : ℕ) → ltb i n ≡ true → i < n
below i n e = ltb→lt i n (rw e tt)

pub call_bound : (c : Call) (w : World) → ((i : ℕ) → i < 8 → (w.station i).kept i ≡ NotKept) → ReplyBound (act c w).reply
unfolding act
call_bound (Owner i op) w k = both_bound (ltb i 8) _ _ (λ e. let b = below i 8 e in owner_reply i op w b (k i b)) (λ e. only_answer (Refused 4))
call_bound (ServerTakes i) w k = both_bound (ltb i 8) _ _ (λ e. server_reply i (w.up i) w (below i 8 e)) (λ e. only_answer Empty)
call_bound (StationTakes i) w k = both_bound (ltb i 8) _ _ (λ e. station_reply i (w.down i) w) (λ e. only_answer Empty)
call_bound (Broken n) w k = only_answer (Refused n)
