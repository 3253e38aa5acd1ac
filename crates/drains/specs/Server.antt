-- A server step on an accepted message lowers the weight: what it sends and what it may still send was in the message's weight.
use Rattle.std.specs.Prelude.{◌≡◌, refl, Bool, true, false, List, ◌∷◌, ℕ, ◌+◌, ◌*◌, ◌≤◌, ◌<◌, eqb, length}
use Rattle.std.proofs.Common.{ap, arith, length-append}
use Rattle.sets.specs.Base.{upd}
use Rattle.sets.specs.Laws.{by_b, by_eq}
use Rattle.sets.proofs.Laws.{eqb_same, eqb_yes}
use Rattle.line.specs.Messages.{last_number, locking, Work, Up, ReadRequest, WriteRequest, Commit, Abort, Purge, Busy, Done, WrittenSet}
use Rattle.line.specs.Server.{End, ByMessage, Server, Serving, Waiter, waiter_busy, waiter_pend, read_waiter, write_waiter, commit_waiter, notice, finish, join, send_page, serve_now, join_read, join_write, join_commit, commit_now, unlist, open_call, mark_busy, answered, open_ask, loosen, accept, start, server_step, heeded, heed}
use Rattle.line.specs.Pass.{step_keeps, met_keeps}
use Rattle.line.specs.Fuel.{sum_to, sum_le, sum_at, frees, loose_at}
use Rattle.line.specs.Bounds.{left, room, total, both_n, left_9, abort_sent, abort_room, install_sent, install_room, atomic_total, notice_sent}
use Rattle.line.specs.Line.{World, carry_down, sent_to}
use Rattle.truth.specs.Inv.{taken}
use Rattle.drains.specs.Weights.{weigh_up, weigh_line, weight, sum_more, sum_add, sum_three, sent_once}

-- what may come of the message itself, in messages down
abbrev pub share : Up → ℕ
share (ReadRequest a t) = 9
share (WriteRequest p t set) = 9
share (Commit w) = 9
share (Abort t) = 0
share (Purge p) = 0
share (Busy r t) = 0
share (Done r t d) = 0
share (WrittenSet p t set) = 0

share_weighs : (m : Up) → 3 * share m + 1 ≤ weigh_up m
share_weighs (ReadRequest a t) = omega arith
share_weighs (WriteRequest p t set) = omega arith
share_weighs (Commit w) = omega arith
share_weighs (Abort t) = omega arith
share_weighs (Purge p) = omega arith
share_weighs (Busy r t) = omega arith
share_weighs (Done r t d) = omega arith
share_weighs (WrittenSet p t set) = omega arith

notice_room : (i t : ℕ) (x : Serving) → room (notice i t x).server ≡ room x.server
unfolding notice
notice_room i t x = by_b (eqb t (x.server.latest i)) (λ e. rw e refl) (λ e. rw e refl)

join_room : (i : ℕ) (w : Waiter) (x : Serving) → i < 8 → room (join i w x).server ≤ room x.server + 9
unfolding join
join_room i w x b =
    let k : ℕ → ℕ = x.server.kind in
    let q : ℕ → Waiter = x.server.queue in
    let one : sum_to 8 (λ j. left k j (upd q i w j)) ≤ sum_to 8 (λ j. left k j (q j)) + 9 =
    sum_more 8 (λ j. left k j (upd q i w j)) (λ j. left k j (q j)) i 9
    (λ j n. by_eq j i (λ e. absurd (n (eqb_yes j i e))) (λ e. rw e (omega arith)))
    (rw (eqb_same i) (omega (arith, left_9 k i w b))) in
    omega arith

now_total : (i a : ℕ) (x : Serving) → total (serve_now i a x) ≡ total x + 1
unfolding serve_now send_page
now_total i a x = rw length-append (omega arith)

commit_total : (i : ℕ) (w : Work) (x : Serving) → i < 8 → total (commit_now i w x) ≤ total x + 9
unfolding commit_now
commit_total i w x b =
    by_b (eqb x.server.last last_number)
    (λ e. rw e (omega (arith, abort_sent i 4 x, abort_room i 4 x b)))
    (λ e. rw e (omega (arith, install_sent i w x, install_room i w x b, both_n 8 0 i x.server.kind)))

-- a 6 or 7 changes who owes and who is busy, and these weigh nothing
same_left : (k : ℕ → ℕ) (q : ℕ → Waiter) (w : Waiter) (r : ℕ) → w.want ≡ (q r).want → w.called ≡ (q r).called → sum_to 8 (λ j. left k j (upd q r w j)) ≤ sum_to 8 (λ j. left k j (q j))
same_left k q w r e f =
    sum_le 8 (λ j. left k j (upd q r w j)) (λ j. left k j (q j))
    (λ j. by_eq j r (λ g. rw (g, eqb_yes j r g, e, f) (omega arith)) (λ g. rw g (omega arith)))

busy_room : (i r : ℕ) (x : Serving) → room (mark_busy i r x).server ≤ room x.server
unfolding mark_busy
busy_room i r x =
    let q : ℕ → Waiter = x.server.queue in
    omega (arith, same_left x.server.kind q (waiter_busy (q r) (upd (q r).busy i true)) r refl refl)

answered_room : (i r : ℕ) (x : Serving) → room (answered i r x).server ≤ room x.server
unfolding answered
answered_room i r x =
    let q : ℕ → Waiter = x.server.queue in
    omega (arith, same_left x.server.kind q (waiter_pend (waiter_busy (q r) (upd (q r).busy i false)) (upd (q r).pend i false)) r refl refl)

finish_room : (i : ℕ) (e : End) (x : Serving) → room (finish i e x).server ≤ room x.server
unfolding finish
finish_room i e x = omega (arith, frees (x.server.kind i) x.server.wl x.server.asked i)

loosen_room : (i p : ℕ) (set : ℕ → Bool) (x : Serving) → room (loosen i p set x).server ≤ room x.server
unfolding loosen
loosen_room i p set x =
    omega (
      arith,
      sum_le 32 (λ q. loose_at (upd x.server.wl p 0 q) (upd x.server.asked p false q)) (λ q. loose_at (x.server.wl q) (x.server.asked q))
          (λ q. by_eq q p (λ e. rw e (omega arith)) (λ e. rw e (omega arith))),
    )

accept_share : (i : ℕ) (m : Up) (s : Server) → i < 8 → total (accept i m (start s)) ≤ room s + share m
unfolding accept join_read join_write join_commit join unlist finish mark_busy answered loosen heed
accept_share i (ReadRequest a t) s b =
    let x : Serving = notice i t (start s) in
    let n = ap length (notice_sent i t (start s)) in
    let o = notice_room i t (start s) in
    by_b (locking (s.kind i))
    (λ e. rw e (omega (arith, join_room i (read_waiter x.server a) x b)))
    (λ e. rw e (omega (arith, now_total i a x)))
accept_share i (WriteRequest p t set) s b =
    let x : Serving = notice i t (start s) in
    omega (arith, ap length (notice_sent i t (start s)), notice_room i t (start s), join_room i (write_waiter x.server p set) x b)
accept_share i (Commit w) s b =
    let x : Serving = notice i w.transaction (start s) in
    let n = ap length (notice_sent i w.transaction (start s)) in
    let o = notice_room i w.transaction (start s) in
    by_b (locking (s.kind i))
    (λ e. rw e (omega (arith, commit_total i w x b)))
    (λ e. rw e (omega (arith, join_room i (commit_waiter x.server w) x b)))
accept_share i (Abort t) s b =
    omega (arith, ap length (notice_sent i t (start s)), notice_room i t (start s), finish_room i ByMessage (notice i t (start s)))
accept_share i (Purge p) s b = omega arith
accept_share i (Busy r t) s b = by_b (open_call s i r t) (λ e. rw e (omega (arith, busy_room i r (start s)))) (λ e. rw e (omega arith))
accept_share i (Done r t d) s b =
    by_b (open_call s i r t) (λ e. rw e (omega (arith, answered_room i r (unlist i d (start s))))) (λ e. rw e (omega arith))
accept_share i (WrittenSet p t set) s b =
    by_b (open_ask s i p t)
    (λ e. rw e (met_keeps (λ y. total (loosen i p (heeded y.server i t set) y) ≤ room s + 0) i t (start s)
    (loosened (notice i t (start s)) (omega (arith, ap length (notice_sent i t (start s)), notice_room i t (start s))))
    (loosened (start s) (omega arith))))
    (λ e. rw e (omega arith))
  where
    loosened : (y : Serving) → total y ≤ room s → total (loosen i p (heeded y.server i t set) y) ≤ room s + 0
    loosened y h = omega (arith, h, loosen_room i p (heeded y.server i t set) y)

step_share : (i : ℕ) (m : Up) (s : Server) → i < 8 → total (server_step i m s) ≤ room s + share m
step_share i m s b = step_keeps (λ x. total x ≤ room s + share m) (atomic_total (room s + share m)) i m s (accept_share i m s b)

-- the lines: each loses and gains
lines_after : (x : Serving) (i : ℕ) (m : Up) (l : List Up) (w : World) → i < 8 → w.up i ≡ m ∷ l
    → sum_to 8 (weigh_line (carry_down x (taken i l w))) + weigh_up m ≤ sum_to 8 (weigh_line w) + 3 * length x.sent
unfolding carry_down
lines_after x i m l w b e =
    let grown : ℕ → ℕ = λ j. weigh_line w j + 3 * length (sent_to j x.sent) in
    let less : sum_to 8 (weigh_line (carry_down x (taken i l w))) + weigh_up m ≤ sum_to 8 grown =
    sum_at 8 (weigh_line (carry_down x (taken i l w))) grown (weigh_up m) i
    (λ j. by_eq j i (λ q. rw (q, eqb_yes j i q, e, length-append) (omega arith)) (λ q. rw (q, length-append) (omega arith))) b
    (rw (eqb_same i, e, length-append) (omega arith)) in
    omega (arith, sum_add 8 (weigh_line w) (λ j. 3 * length (sent_to j x.sent)), sum_three 8 (λ j. length (sent_to j x.sent)), sent_once x.sent)

pub server_lowers : (i : ℕ) (m : Up) (l : List Up) (w : World) → i < 8 → w.up i ≡ m ∷ l → weight (carry_down (server_step i m w.server) (taken i l w)) + 1 ≤ weight w
unfolding carry_down
server_lowers i m l w b e =
    let x : Serving = server_step i m w.server in
    omega (arith, lines_after x i m l w b e, step_share i m w.server b, share_weighs m)
