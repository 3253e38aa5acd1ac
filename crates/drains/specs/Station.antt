-- A station's step sends and keeps at most what the message down weighed, less one.
use Rattle.std.specs.Prelude.{◌≡◌, refl, Bool, not, ◌&&◌, cond, [], ℕ, zero, suc, ◌+◌, ◌≤◌, ◌<◌}
use Rattle.std.proofs.Common.{ap, arith}
use Rattle.sets.specs.Base.{upd, has}
use Rattle.sets.specs.Laws.{by_b, by_eq}
use Rattle.sets.proofs.Laws.{eqb_same, eqb_yes}
use Rattle.line.specs.Messages.{Lock, NoLock, ObjectLock, WholeLock, Down, Page, Deescalate, Callback, Committed, Aborted, Invalidate, Nothing, CommittedAs, AbortedFor, page_of}
use Rattle.line.specs.Station.{Station, Did, did_station, does, set_kept, set_cver, Wait, Idle, ForRead, ForWrite, ForCommit, for_commit, Kept, NotKept, KeptCall, drop_pages, mark, do_callback, do_kept, do_all_kept, closed, close, undo, ended, fits, record_read, write_local, arrive, take_lock, answer_wait, on_page, loosen, on_deescalate, in_use, on_callback, on_committed, on_aborted, on_invalidate, on_down, station_step, gives_up}
use Rattle.line.specs.Fuel.{sum_at, nb}
use Rattle.line.specs.Bounds.{undo_kept}
use Rattle.progress.specs.Clauses.{is_kept}
use Rattle.drains.specs.Weights.{weigh_ups, weigh_kept, ups_append, sum_more}

-- what a call of a station left: messages sent and callbacks kept
abbrev pub weigh_did : Did → ℕ
weigh_did d = weigh_ups d.sent + weigh_kept d.station.kept

-- kept callbacks done at the end: each becomes its 7
done_weighs : (r t : ℕ) (set : ℕ → Bool) (d : Did) → weigh_did (do_callback r t set d) ≡ weigh_did d + 1
unfolding do_callback drop_pages mark
done_weighs r t set d = rw ups_append (omega arith)

forgotten : (k : ℕ → Kept) (r t : ℕ) (set : ℕ → Bool) → r < 8 → k r ≡ KeptCall t set → weigh_kept (upd k r NotKept) + 1 ≤ weigh_kept k
forgotten k r t set b e =
    sum_at 8 (λ j. nb (is_kept (upd k r NotKept j))) (λ j. nb (is_kept (k j))) 1 r
    (λ j. by_eq j r (λ q. rw q (omega arith)) (λ q. rw q (omega arith))) b
    (rw (eqb_same r, e) (omega arith))

kept_weighs : (r : ℕ) (k : Kept) (d : Did) → r < 8 → d.station.kept r ≡ k → weigh_did (do_kept r k d) ≤ weigh_did d
unfolding do_kept
kept_weighs r NotKept d b e = omega arith
kept_weighs r (KeptCall t set) d b e =
    omega (arith, done_weighs r t set (did_station d (set_kept d.station (upd d.station.kept r NotKept))), forgotten d.station.kept r t set b e)

kepts_weigh : (n r : ℕ) (d : Did) → r + n ≤ 8 → weigh_did (do_all_kept n r d) ≤ weigh_did d
unfolding do_all_kept
kepts_weigh zero r d b = omega arith
kepts_weigh (suc n) r d b =
    omega (arith, kepts_weigh n (suc r) (do_kept r (d.station.kept r) d) (omega arith), kept_weighs r (d.station.kept r) d (omega arith) refl)

close_weighs : (d : Did) → weigh_did (close d) ≤ weigh_did d
unfolding close closed
close_weighs d = kepts_weigh 8 0 (did_station d (closed d.station)) (omega arith)

-- the moves
wait_weighs : (v : Wait) (s : Station) → weigh_did (answer_wait v s) ≡ weigh_kept s.kept
unfolding answer_wait record_read write_local
wait_weighs Idle s = omega arith
wait_weighs (ForRead a) s = omega arith
wait_weighs (ForWrite p f) s = omega arith
wait_weighs ForCommit s = omega arith

arrive_kept : (l : Lock) (a p : ℕ) (v : ℕ → ℕ) (u : ℕ → Bool) (x : ℕ → ℕ) (s : Station) → (arrive p v u x (take_lock l a s)).kept ≡ s.kept
unfolding arrive take_lock
arrive_kept NoLock a p v u x s = refl
arrive_kept ObjectLock a p v u x s = refl
arrive_kept WholeLock a p v u x s = refl

deescalate_weighs : (p t : ℕ) (s : Station) → weigh_did (on_deescalate p t s) ≡ weigh_kept s.kept + 1
unfolding on_deescalate loosen
deescalate_weighs p t s = by_b (gives_up p t s) (λ e. rw e (omega arith)) (λ e. rw e (omega arith))

down_weighs : (m : Down) (s : Station) → weigh_did (on_down m s) ≤ weigh_kept s.kept + 2
unfolding on_down on_page on_callback on_committed on_aborted on_invalidate mark
down_weighs (Page l a t v u x) s =
    by_b (ended s t) (λ e. rw e (omega arith))
    (λ e. rw (e, wait_weighs, arrive_kept) (omega arith))
down_weighs (Deescalate p t) s = omega (arith, deescalate_weighs p t s)
down_weighs (Callback r t set) s =
    by_b (in_use set s)
    (λ e.
    rw e (omega (
      arith,
      sum_more 8 (λ j. nb (is_kept (upd s.kept r (KeptCall t set) j))) (λ j. nb (is_kept (s.kept j))) r 1
          (λ j n. by_eq j r (λ q. absurd (n (eqb_yes j r q))) (λ q. rw q (omega arith)))
          (rw (eqb_same r) (omega arith)),
    )))
    (λ e. rw e (omega (arith, done_weighs r t set (does Nothing s []))))
down_weighs (Committed t n) s =
    omega (arith, close_weighs (does (CommittedAs n) (set_cver s (λ a. cond (s.cached (page_of a) && has (s.wr a)) n (s.cver a))) []))
down_weighs (Aborted t c) s = omega (arith, close_weighs (does (AbortedFor c) (undo s) []), ap weigh_kept (undo_kept s))
down_weighs (Invalidate d) s =
    by_b (in_use d s && not (for_commit s.wait))
    (λ e. rw e (omega (arith, close_weighs (does (AbortedFor 2) (undo (mark d s)) []), ap weigh_kept (undo_kept (mark d s)))))
    (λ e. rw e (omega arith))

pub step_weighs : (m : Down) (s : Station) → weigh_did (station_step m s) ≤ weigh_kept s.kept + 2
unfolding station_step
step_weighs m s = by_b (fits m s) (λ e. rw e (down_weighs m s)) (λ e. rw e (omega arith))
