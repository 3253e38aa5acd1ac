-- Layer 1: a station has at most one token under way (1, 2, 3 going up, a waiter, 16, 17, 18, 21, 22 coming down), and it fits what the
-- station waits for. After every list of calls; it needs no other layer.
use Rattle.std.specs.Prelude.{◌≡◌, Bool, not, ◌&&◌, List, [], ◌∷◌, ◌++◌, eqb}
use Rattle.std.proofs.Math.Path.{refl, sym}
use Rattle.std.proofs.Common.{ap, ◌∙◌, arith}
use Rattle.std.proofs.Math.Bool.{true, false, cond}
use Rattle.std.proofs.lemmas.Bool.{false≢true}
use Prim.Native.Nat.{ℕ, suc, ◌+◌, ◌≤◌, ◌<◌}
use Rattle.sets.specs.Base.{upd, upd2, snoc, nowhere, Val, none, some, has, none_at}
use Rattle.sets.specs.Laws.{by_b, by_eq, or_yes}
use Rattle.sets.proofs.Laws.{eqb_same, eqb_yes, and_l, and_r, not_no, any_some, any_yes, and_both}
use Rattle.line.specs.All.{All, all_map}
use Rattle.line.specs.Messages.{page_of, address, locking, last_number, Work, Up, ReadRequest, WriteRequest, Commit, Abort, Purge, Busy, Done, WrittenSet, Lock, NoLock, ObjectLock, WholeLock, Down, Page, Deescalate, Callback, Committed, Aborted, Invalidate, AbortedFor, Written}
use Rattle.line.specs.Station.{Station, Did, does, Wait, Idle, ForRead, ForWrite, ForCommit, waiting, for_read, for_write, writes_to, for_commit, some_on, lowest_on, live, drop_pages, mark, record_read, or_val, write_local, do_callback, closed, close, undo, read_local, read_ask, named, write_ask, of_page, arrive, take_lock, on_deescalate, on_committed, on_aborted, station_step, work_of, gives_up}
use Rattle.line.specs.Station as S
use Rattle.line.specs.Server.{End, ByCommit, ByCause, ByMessage, Server, Serving, send, on_server, set_listed, set_asked, set_ol, set_wl, values_on, unavailable, Waiter, no_waiter, waiter_pend, waiter_called, waiter_busy, Want, NoWant, WantRead, WantWrite, WantCommit, is_want, waits, bad_number, unexpected, notice, finish, join, leave, send_page, abort, write, archive, install, read_waiter, write_waiter, commit_waiter, serve_now, join_read, join_write, join_commit, commit_now, unlist, open_call, mark_busy, answered, loosen, accept, ask, serve_read, concerned, call, grant_page, grant_object, install_waiter, start, set_whole_for}
use Rattle.line.specs.Line.{Op, Call, fresh, run, perform, sent_to}
use Rattle.line.specs.Pass.{Atomic, if_keeps, step_keeps}
use Rattle.line.specs.Apart.{good_number, renews_good, keeps_locks}
use Rattle.line.specs.Runs.{Moves, run_keeps}
use Rattle.line.specs.Truth.{In, count}
use Rattle.truth.specs.Clauses.{stale, token_up, token_down, Fit, page_wait, lock_wait, abort_wait, FitUp, FitDown, FitWaiter, SameWork, WaitingWork, Shape, Tokens, TokensAt}
use Rattle.truth.specs.Frame.{Active, Owns, arrived, Takes, Accepts}
use Rattle.truth.proofs.Frame.{all_in, for_commit_lem, one_most, count_snoc, all_snoc, count_none, none_count, all_both, send_own, send_far, call_own, call_far, append_nil, append_assoc, noticed_latest, noticed_own, noticed_fin, noticed_kind, noticed_queue, noticed_sent, performs, closes, takes, accepts, installs}
use Rattle.line.specs.Asks.{lowest_in, Asks}
use Rattle.truth.specs.Tokens.{After, AllTokens, Before, Deaf, Frozen, Own, Quiet, Range, both, ends, not_idle, not_token}

-- a token of an old transaction fits whatever the wait
old_fit : {old : Bool} {t num : ℕ} {opened fit : Bool} → old ≡ true → t ≤ num → Fit old t num opened fit
old_fit {old} e b = record { below = b; same = λ f. both old e f; alive = λ f. both old e f; waits = λ f. both old e f }

module _ (kind num : ℕ) (opened : Bool) (w : Wait) where
  -- what is old stays old
  calm_up : (old new : ℕ → Bool) → ((t : ℕ) → t ≤ num → old t ≡ true → new t ≡ true) → (m : Up) → FitUp kind num opened w m → token_up old m ≡ false → token_up new m ≡ false
  calm_up old new c (ReadRequest a t) f e = rw (c t f.below (not_no (old t) e)) refl
  calm_up old new c (WriteRequest p t set) f e = e
  calm_up old new c (Commit k) f e = e
  calm_up old new c (Abort t) f e = e
  calm_up old new c (Purge p) f e = e
  calm_up old new c (Busy r t) f e = e
  calm_up old new c (Done r t d) f e = e
  calm_up old new c (WrittenSet p t set) f e = e

  calm_down : (old new : ℕ → Bool) → ((t : ℕ) → t ≤ num → old t ≡ true → new t ≡ true) → (m : Down) → FitDown kind num opened w m → token_down old m ≡ false → token_down new m ≡ false
  calm_down old new c (Page NoLock a t v u x) f e = rw (c t f.below (not_no (old t) e)) refl
  calm_down old new c (Page ObjectLock a t v u x) f e = e
  calm_down old new c (Page WholeLock a t v u x) f e = e
  calm_down old new c (Deescalate p t) f e = e
  calm_down old new c (Callback r t set) f e = e
  calm_down old new c (Committed t n) f e = e
  calm_down old new c (Aborted t n) f e = e
  calm_down old new c (Invalidate d) f e = e

  -- a message that is no token then fits then
  refit_up : (num' : ℕ) (opened' : Bool) (w' : Wait) → num ≤ num' → (m : Up) → FitUp kind num opened w m → token_up (stale kind num' opened') m ≡ false → FitUp kind num' opened' w' m
  refit_up num' opened' w' b (ReadRequest a t) f e = old_fit (not_no (stale kind num' opened' t) e) (omega (arith, f.below))
  refit_up num' opened' w' b (WriteRequest p t set) f e = not_token e
  refit_up num' opened' w' b (Commit k) f e = not_token e
  refit_up num' opened' w' b (Abort t) f e = tt
  refit_up num' opened' w' b (Purge p) f e = tt
  refit_up num' opened' w' b (Busy r t) f e = tt
  refit_up num' opened' w' b (Done r t d) f e = tt
  refit_up num' opened' w' b (WrittenSet p t set) f e = tt

  refit_down : (num' : ℕ) (opened' : Bool) (w' : Wait) → num ≤ num' → (m : Down) → FitDown kind num opened w m → token_down (stale kind num' opened') m ≡ false → FitDown kind num' opened' w' m
  refit_down num' opened' w' b (Page NoLock a t v u x) f e = old_fit (not_no (stale kind num' opened' t) e) (omega (arith, f.below))
  refit_down num' opened' w' b (Page ObjectLock a t v u x) f e = not_token e
  refit_down num' opened' w' b (Page WholeLock a t v u x) f e = not_token e
  refit_down num' opened' w' b (Deescalate p t) f e = tt
  refit_down num' opened' w' b (Callback r t set) f e = tt
  refit_down num' opened' w' b (Committed t n) f e = not_token e
  refit_down num' opened' w' b (Aborted t n) f e = not_token e
  refit_down num' opened' w' b (Invalidate d) f e = tt

-- no token, so no commit
no_work_lem : (old : ℕ → Bool) (rd wr : ℕ → Val) (m : Up) → token_up old m ≡ false → SameWork rd wr m
no_work_lem old rd wr (ReadRequest a t) e = tt
no_work_lem old rd wr (WriteRequest p t set) e = tt
no_work_lem old rd wr (Commit k) e = not_token e
no_work_lem old rd wr (Abort t) e = tt
no_work_lem old rd wr (Purge p) e = tt
no_work_lem old rd wr (Busy r t) e = tt
no_work_lem old rd wr (Done r t d) e = tt
no_work_lem old rd wr (WrittenSet p t set) e = tt

pub idle_read : (w : Wait) (a : ℕ) → waiting w ≡ false → for_read w a ≡ false
idle_read Idle a e = refl
idle_read (ForRead b) a e = not_token e
idle_read (ForWrite p f) a e = not_token e
idle_read ForCommit a e = not_token e

pub idle_write : (w : Wait) (a : ℕ) → waiting w ≡ false → for_write w a ≡ false
idle_write Idle a e = refl
idle_write (ForRead b) a e = not_token e
idle_write (ForWrite p f) a e = not_token e
idle_write ForCommit a e = not_token e

pub idle_page_write : (w : Wait) (p : ℕ) → waiting w ≡ false → writes_to w p ≡ false
idle_page_write Idle p e = refl
idle_page_write (ForRead b) p e = refl
idle_page_write (ForWrite q f) p e = not_token e
idle_page_write ForCommit p e = refl

pub idle_commit : (w : Wait) → waiting w ≡ false → for_commit w ≡ false
idle_commit Idle e = refl
idle_commit (ForRead b) e = not_token e
idle_commit (ForWrite p f) e = not_token e
idle_commit ForCommit e = not_token e

pub and_no : (a b : Bool) → b ≡ false → (a && b) ≡ false
and_no true b e = e
and_no false b e = refl

idle_deaf : (kind : ℕ) (w : Wait) → waiting w ≡ false → Deaf kind w
idle_deaf kind w e =
    record {
      lock = λ p. and_no (locking kind) _ (idle_page_write w p e);
      read = λ a. and_no (locking kind) _ (idle_read w a e);
      commit = idle_commit w e;
      abort = rw e refl;
    }

idle_page : (kind : ℕ) (w : Wait) (a : ℕ) → waiting w ≡ false → page_wait kind w a ≡ false
idle_page kind w a e = rw (idle_read w a e) (and_no (not (locking kind)) _ (idle_write w a e))

-- a validating station with no commit out
paging_deaf : (kind : ℕ) (w : Wait) → locking kind ≡ false → for_commit w ≡ false → Deaf kind w
paging_deaf kind w k e =
    record {
      lock = λ a. rw k refl;
      read = λ a. rw k refl;
      commit = e;
      abort = rw (k, e) (and_no (waiting w) false refl);
    }

module _ {kind num : ℕ} {opened : Bool} {w : Wait} (k : Deaf kind w) (old : ℕ → Bool) (p : (a t : ℕ) → Fit (stale kind num opened t) t num opened (page_wait kind w a) → old t ≡ true) where
  deaf_up : (m : Up) → FitUp kind num opened w m → token_up old m ≡ false
  deaf_up (ReadRequest a t) f = rw (p a t f) refl
  deaf_up (WriteRequest q t set) f = both (lock_wait kind w q) (and_l (lock_wait kind w q) _ (f.waits refl)) (k.lock q)
  deaf_up (Commit c) f = both (for_commit w) (f.waits refl) k.commit
  deaf_up (Abort t) f = refl
  deaf_up (Purge q) f = refl
  deaf_up (Busy r t) f = refl
  deaf_up (Done r t d) f = refl
  deaf_up (WrittenSet q t set) f = refl

  deaf_down : (m : Down) → FitDown kind num opened w m → token_down old m ≡ false
  deaf_down (Page NoLock a t v u x) f = rw (p a t f) refl
  deaf_down (Page ObjectLock a t v u x) f = both (lock_wait kind w (page_of a)) (f.waits refl) (k.lock (page_of a))
  deaf_down (Page WholeLock a t v u x) f = both (lock_wait kind w (page_of a)) (f.waits refl) (k.lock (page_of a))
  deaf_down (Deescalate q t) f = refl
  deaf_down (Callback r t set) f = refl
  deaf_down (Committed t n) f = both (for_commit w) (f.waits refl) k.commit
  deaf_down (Aborted t n) f = both (abort_wait kind w) (f.waits refl) k.abort
  deaf_down (Invalidate d) f = refl

deaf_waiter : (kind num : ℕ) (opened : Bool) (w : Wait) (latest : ℕ) → Deaf kind w → (v : Want) (a : ℕ) → FitWaiter kind num opened w latest v a → is_want v ≡ false
deaf_waiter kind num opened w latest k NoWant a f = refl
deaf_waiter kind num opened w latest k WantRead a f = both (locking kind && for_read w a) (f.waits refl) (k.read a)
deaf_waiter kind num opened w latest k WantWrite a f = both (lock_wait kind w (page_of a)) (f.waits refl) (k.lock (page_of a))
deaf_waiter kind num opened w latest k WantCommit a f = both (not (locking kind) && for_commit w) (f.waits refl) (and_no (not (locking kind)) _ k.commit)

-- who does not wait has the empty entry
pub no_entry : (v : Want) (q : Waiter) → is_want v ≡ false → Shape v q → q ≡ no_waiter
no_entry NoWant q e s = s
no_entry WantRead q e s = not_token e
no_entry WantWrite q e s = not_token e
no_entry WantCommit q e s = not_token e

module _ {skind kind num : ℕ} {opened : Bool} {q : Waiter} {U : List Up} {D : List Down} where
  quiet_works : (rd wr : ℕ → Val) → Quiet skind kind num opened q U D → All (SameWork rd wr) U
  quiet_works rd wr k = all_map (λ m. token_up (stale kind num opened) m ≡ false) (SameWork rd wr) (no_work_lem (stale kind num opened) rd wr) U (count_none (token_up (stale kind num opened)) U k.no_up)

module _ {skind kind num : ℕ} {opened : Bool} {rd wr : ℕ → Val} {w : Wait} {q : Waiter} {latest : ℕ} {fin : Bool} {U : List Up} {D : List Down} where
  pub own : Tokens skind kind num opened rd wr w q latest fin U D → Own opened rd wr w
  own h = record { S5 = h.S5; S6 = h.S6; range_wait = h.range_wait; range_page = h.range_page; range_used = h.range_used }

  pub quiet_tokens : Quiet skind kind num opened q U D → Own opened rd wr w → Tokens skind kind num opened rd wr w q latest fin U D
  quiet_tokens k o =
      record {
        kinds = k.kinds;
        S1a = rw k.empty (omega (arith, k.no_up, k.no_down));
        S1b_up = k.fits_up w;
        S1b_waiter = rw k.empty tt;
        S1b_down = k.fits_down w;
        S3_up = quiet_works rd wr k;
        S3_waiter = rw k.empty tt;
        S4 = λ e. absurd (false≢true (rw k.empty at e));
        S5 = o.S5;
        S6 = o.S6;
        S7 = rw k.empty refl;
        range_wait = o.range_wait;
        range_page = o.range_page;
        range_used = o.range_used;
      }

  -- lines without a token for (num', opened')
  hushed : (num' : ℕ) (opened' : Bool) → num ≤ num' → is_want q.want ≡ false
      → All (λ m. token_up (stale kind num' opened') m ≡ false) U → All (λ m. token_down (stale kind num' opened') m ≡ false) D
      → Tokens skind kind num opened rd wr w q latest fin U D → Quiet skind kind num' opened' q U D
  hushed num' opened' b n a c h =
      record {
        kinds = h.kinds;
        empty = no_entry q.want q n h.S7;
        no_up = none_count (token_up (stale kind num' opened')) U a;
        no_down = none_count (token_down (stale kind num' opened')) D c;
        fits_up = λ w'. all_both (FitUp kind num opened w) (λ m. token_up (stale kind num' opened') m ≡ false) (FitUp kind num' opened' w') (refit_up kind num opened w num' opened' w' b) U h.S1b_up a;
        fits_down = λ w'. all_both (FitDown kind num opened w) (λ m. token_down (stale kind num' opened') m ≡ false) (FitDown kind num' opened' w') (refit_down kind num opened w num' opened' w' b) D h.S1b_down c;
      }

  -- an idle station is quiet
  pub idle_quiet : waiting w ≡ false → Tokens skind kind num opened rd wr w q latest fin U D → Quiet skind kind num opened q U D
  idle_quiet e h =
      let k : Deaf kind w = idle_deaf kind w e in
      let p : (a t : ℕ) → Fit (stale kind num opened t) t num opened (page_wait kind w a) → stale kind num opened t ≡ true =
      λ a t f. by_b (stale kind num opened t) (λ y. y) (λ y. both (page_wait kind w a) (f.waits y) (idle_page kind w a e)) in
      hushed num opened (omega arith) (deaf_waiter kind num opened w latest k q.want q.req h.S1b_waiter)
      (all_map (FitUp kind num opened w) (λ m. token_up (stale kind num opened) m ≡ false) (deaf_up k (stale kind num opened) p) U h.S1b_up)
      (all_map (FitDown kind num opened w) (λ m. token_down (stale kind num opened) m ≡ false) (deaf_down k (stale kind num opened) p) D h.S1b_down) h

  -- a validating station with no commit out is quiet once it is closed: a 1 or 16 is stale then
  pub paging_quiet : locking kind ≡ false → for_commit w ≡ false → Tokens skind kind num opened rd wr w q latest fin U D → Quiet skind kind num false q U D
  paging_quiet v e h =
      let k : Deaf kind w = paging_deaf kind w v e in
      let p : (a t : ℕ) → Fit (stale kind num opened t) t num opened (page_wait kind w a) → stale kind num false t ≡ true = λ a t f. rw v refl in
      hushed num false (omega arith) (deaf_waiter kind num opened w latest k q.want q.req h.S1b_waiter)
      (all_map (FitUp kind num opened w) (λ m. token_up (stale kind num false) m ≡ false) (deaf_up k (stale kind num false) p) U h.S1b_up)
      (all_map (FitDown kind num opened w) (λ m. token_down (stale kind num false) m ≡ false) (deaf_down k (stale kind num false) p) D h.S1b_down) h

  -- the token is taken by the station
  pub took_down : (m : Down) → token_down (stale kind num opened) m ≡ true → Tokens skind kind num opened rd wr w q latest fin U (m ∷ D) → Quiet skind kind num opened q U D
  took_down m e h =
      let n : count (token_up (stale kind num opened)) U + cond (is_want q.want) 1 0 + count (token_down (stale kind num opened)) D ≡ 0 = omega (arith, rw e at h.S1a) in
      let g : Tokens skind kind num opened rd wr w q latest fin U D =
      record { kinds = h.kinds; S1a = omega arith; S1b_up = h.S1b_up; S1b_waiter = h.S1b_waiter; S1b_down = h.S1b_down.1; S3_up = h.S3_up; S3_waiter = h.S3_waiter; S4 = h.S4; S5 = h.S5; S6 = h.S6; S7 = h.S7; range_wait = h.range_wait; range_page = h.range_page; range_used = h.range_used } in
      hushed num opened (omega arith) (by_b (is_want q.want) (λ y. absurd (omega (arith, rw y at n))) (λ y. y))
      (count_none (token_up (stale kind num opened)) U (omega arith))
      (count_none (token_down (stale kind num opened)) D (omega arith)) g

  -- .. or by the server
  pub took_up : (m : Up) → token_up (stale kind num opened) m ≡ true → Tokens skind kind num opened rd wr w q latest fin (m ∷ U) D → Quiet skind kind num opened q U D
  took_up m e h =
      let n : count (token_up (stale kind num opened)) U + cond (is_want q.want) 1 0 + count (token_down (stale kind num opened)) D ≡ 0 = omega (arith, rw e at h.S1a) in
      let g : Tokens skind kind num opened rd wr w q latest fin U D =
      record { kinds = h.kinds; S1a = omega arith; S1b_up = h.S1b_up.1; S1b_waiter = h.S1b_waiter; S1b_down = h.S1b_down; S3_up = h.S3_up.1; S3_waiter = h.S3_waiter; S4 = h.S4; S5 = h.S5; S6 = h.S6; S7 = h.S7; range_wait = h.range_wait; range_page = h.range_page; range_used = h.range_used } in
      hushed num opened (omega arith) (by_b (is_want q.want) (λ y. absurd (omega (arith, rw y at n))) (λ y. y))
      (count_none (token_up (stale kind num opened)) U (omega arith))
      (count_none (token_down (stale kind num opened)) D (omega arith)) g

  -- .. or is the waiter that leaves
  pub left_quiet : is_want q.want ≡ true → Tokens skind kind num opened rd wr w q latest fin U D → Quiet skind kind num opened no_waiter U D
  left_quiet e h =
      let n : count (token_up (stale kind num opened)) U + count (token_down (stale kind num opened)) D ≡ 0 = omega (arith, rw e at h.S1a) in
      let a = count_none (token_up (stale kind num opened)) U (omega arith) in
      let c = count_none (token_down (stale kind num opened)) D (omega arith) in
      record {
        kinds = h.kinds;
        empty = refl;
        no_up = omega arith;
        no_down = omega arith;
        fits_up = λ w'. all_both (FitUp kind num opened w) (λ m. token_up (stale kind num opened) m ≡ false) (FitUp kind num opened w') (refit_up kind num opened w num opened w' (omega arith)) U h.S1b_up a;
        fits_down = λ w'. all_both (FitDown kind num opened w) (λ m. token_down (stale kind num opened) m ≡ false) (FitDown kind num opened w') (refit_down kind num opened w num opened w' (omega arith)) D h.S1b_down c;
      }

  -- messages that are no tokens
  pub pop_down : (m : Down) → Tokens skind kind num opened rd wr w q latest fin U (m ∷ D) → Tokens skind kind num opened rd wr w q latest fin U D
  pop_down m h =
      record { kinds = h.kinds; S1a = omega (arith, h.S1a); S1b_up = h.S1b_up; S1b_waiter = h.S1b_waiter; S1b_down = h.S1b_down.1; S3_up = h.S3_up; S3_waiter = h.S3_waiter; S4 = h.S4; S5 = h.S5; S6 = h.S6; S7 = h.S7; range_wait = h.range_wait; range_page = h.range_page; range_used = h.range_used }

  pub pop_up : (m : Up) → Tokens skind kind num opened rd wr w q latest fin (m ∷ U) D → Tokens skind kind num opened rd wr w q latest fin U D
  pop_up m h =
      record { kinds = h.kinds; S1a = omega (arith, h.S1a); S1b_up = h.S1b_up.1; S1b_waiter = h.S1b_waiter; S1b_down = h.S1b_down; S3_up = h.S3_up.1; S3_waiter = h.S3_waiter; S4 = h.S4; S5 = h.S5; S6 = h.S6; S7 = h.S7; range_wait = h.range_wait; range_page = h.range_page; range_used = h.range_used }

  pub add_up : (m : Up) → token_up (stale kind num opened) m ≡ false → FitUp kind num opened w m → SameWork rd wr m → Tokens skind kind num opened rd wr w q latest fin U D → Tokens skind kind num opened rd wr w q latest fin (snoc U m) D
  add_up m e f s h =
      record { kinds = h.kinds; S1a = omega (arith, h.S1a, rw e at (count_snoc (token_up (stale kind num opened)) U m)); S1b_up = all_snoc (FitUp kind num opened w) U m h.S1b_up f; S1b_waiter = h.S1b_waiter; S1b_down = h.S1b_down; S3_up = all_snoc (SameWork rd wr) U m h.S3_up s; S3_waiter = h.S3_waiter; S4 = h.S4; S5 = h.S5; S6 = h.S6; S7 = h.S7; range_wait = h.range_wait; range_page = h.range_page; range_used = h.range_used }

  pub add_down : (m : Down) → token_down (stale kind num opened) m ≡ false → FitDown kind num opened w m → Tokens skind kind num opened rd wr w q latest fin U D → Tokens skind kind num opened rd wr w q latest fin U (snoc D m)
  add_down m e f h =
      record { kinds = h.kinds; S1a = omega (arith, h.S1a, rw e at (count_snoc (token_down (stale kind num opened)) D m)); S1b_up = h.S1b_up; S1b_waiter = h.S1b_waiter; S1b_down = all_snoc (FitDown kind num opened w) D m h.S1b_down f; S3_up = h.S3_up; S3_waiter = h.S3_waiter; S4 = h.S4; S5 = h.S5; S6 = h.S6; S7 = h.S7; range_wait = h.range_wait; range_page = h.range_page; range_used = h.range_used }

  -- a quiet station gets its token: up, as a waiter, or down
  pub token_up_lem : (m : Up) → FitUp kind num opened w m → SameWork rd wr m → Own opened rd wr w → Quiet skind kind num opened q U D → Tokens skind kind num opened rd wr w q latest fin (snoc U m) D
  token_up_lem m f s o k =
      record {
        kinds = k.kinds;
        S1a = rw k.empty (omega (arith, k.no_up, k.no_down, count_snoc (token_up (stale kind num opened)) U m, one_most (token_up (stale kind num opened) m)));
        S1b_up = all_snoc (FitUp kind num opened w) U m (k.fits_up w) f;
        S1b_waiter = rw k.empty tt;
        S1b_down = k.fits_down w;
        S3_up = all_snoc (SameWork rd wr) U m (quiet_works rd wr k) s;
        S3_waiter = rw k.empty tt;
        S4 = λ e. absurd (false≢true (rw k.empty at e));
        S5 = o.S5;
        S6 = o.S6;
        S7 = rw k.empty refl;
        range_wait = o.range_wait;
        range_page = o.range_page;
        range_used = o.range_used;
      }

  pub token_down_lem : (m : Down) → FitDown kind num opened w m → Own opened rd wr w → Quiet skind kind num opened q U D → Tokens skind kind num opened rd wr w q latest fin U (snoc D m)
  token_down_lem m f o k =
      record {
        kinds = k.kinds;
        S1a = rw k.empty (omega (arith, k.no_up, k.no_down, count_snoc (token_down (stale kind num opened)) D m, one_most (token_down (stale kind num opened) m)));
        S1b_up = k.fits_up w;
        S1b_waiter = rw k.empty tt;
        S1b_down = all_snoc (FitDown kind num opened w) D m (k.fits_down w) f;
        S3_up = quiet_works rd wr k;
        S3_waiter = rw k.empty tt;
        S4 = λ e. absurd (false≢true (rw k.empty at e));
        S5 = o.S5;
        S6 = o.S6;
        S7 = rw k.empty refl;
        range_wait = o.range_wait;
        range_page = o.range_page;
        range_used = o.range_used;
      }

  pub token_waits : (v : Waiter) → FitWaiter kind num opened w latest v.want v.req → WaitingWork rd wr latest v.want v.work → Shape v.want v → fin ≡ false → Own opened rd wr w → Quiet skind kind num opened q U D → Tokens skind kind num opened rd wr w v latest fin U D
  token_waits v f s z n o k =
      record {
        kinds = k.kinds;
        S1a = omega (arith, k.no_up, k.no_down, one_most (is_want v.want));
        S1b_up = k.fits_up w;
        S1b_waiter = f;
        S1b_down = k.fits_down w;
        S3_up = quiet_works rd wr k;
        S3_waiter = s;
        S4 = λ e. n;
        S5 = o.S5;
        S6 = o.S6;
        S7 = z;
        range_wait = o.range_wait;
        range_page = o.range_page;
        range_used = o.range_used;
      }

-- a quiet station begins or closes: what was old stays old
pub quiet_on : {skind kind num : ℕ} {opened : Bool} {q : Waiter} {U : List Up} {D : List Down} (num' : ℕ) (opened' : Bool) → num ≤ num'
    → ((t : ℕ) → t ≤ num → stale kind num opened t ≡ true → stale kind num' opened' t ≡ true) → Quiet skind kind num opened q U D → Quiet skind kind num' opened' q U D
quiet_on {skind} {kind} {num} {opened} {q} {U} {D} num' opened' b c k =
    let a = all_both (FitUp kind num opened Idle) (λ m. token_up (stale kind num opened) m ≡ false) (λ m. token_up (stale kind num' opened') m ≡ false)
    (calm_up kind num opened Idle (stale kind num opened) (stale kind num' opened') c) U (k.fits_up Idle) (count_none (token_up (stale kind num opened)) U k.no_up) in
    let d = all_both (FitDown kind num opened Idle) (λ m. token_down (stale kind num opened) m ≡ false) (λ m. token_down (stale kind num' opened') m ≡ false)
    (calm_down kind num opened Idle (stale kind num opened) (stale kind num' opened') c) D (k.fits_down Idle) (count_none (token_down (stale kind num opened)) D k.no_down) in
    record {
      kinds = k.kinds;
      empty = k.empty;
      no_up = none_count (token_up (stale kind num' opened')) U a;
      no_down = none_count (token_down (stale kind num' opened')) D d;
      fits_up = λ w. all_both (FitUp kind num opened Idle) (λ m. token_up (stale kind num' opened') m ≡ false) (FitUp kind num' opened' w) (refit_up kind num opened Idle num' opened' w b) U (k.fits_up Idle) a;
      fits_down = λ w. all_both (FitDown kind num opened Idle) (λ m. token_down (stale kind num' opened') m ≡ false) (FitDown kind num' opened' w) (refit_down kind num opened Idle num' opened' w b) D (k.fits_down Idle) d;
    }

pub quiet_add : {skind kind num : ℕ} {opened : Bool} {q : Waiter} {U : List Up} {D : List Down} (m : Up) → token_up (stale kind num opened) m ≡ false → ((w : Wait) → FitUp kind num opened w m) → Quiet skind kind num opened q U D → Quiet skind kind num opened q (snoc U m) D
quiet_add {skind} {kind} {num} {opened} {q} {U} {D} m e f k =
    record {
      kinds = k.kinds;
      empty = k.empty;
      no_up = omega (arith, k.no_up, rw e at (count_snoc (token_up (stale kind num opened)) U m));
      no_down = k.no_down;
      fits_up = λ w. all_snoc (FitUp kind num opened w) U m (k.fits_up w) (f w);
      fits_down = k.fits_down;
    }

own_idle : {opened : Bool} {rd wr : ℕ → Val} {w : Wait} → opened ≡ true → waiting w ≡ false → Range rd wr → Own opened rd wr w
own_idle {opened} {rd} {wr} {w} o e r =
    record {
      S5 = λ a f. both (for_read w a) f (idle_read w a e);
      S6 = λ f. both opened o f;
      range_wait = λ a f. absurd (false≢true (rw (idle_read w a e, idle_write w a e) at f));
      range_page = λ p f. both (writes_to w p) f (idle_page_write w p e);
      range_used = r;
    }

own_read : {opened : Bool} {rd wr : ℕ → Val} (a : ℕ) → a < 256 → opened ≡ true → rd a ≡ none → wr a ≡ none → Range rd wr → Own opened rd wr (ForRead a)
own_read {opened} {rd} {wr} a b o x y r =
    record {
      S5 = λ c f. rw (eqb_yes c a f) (x, y);
      S6 = λ f. both opened o f;
      range_wait = λ c f. or_yes (eqb c a) false f (λ g. rw (eqb_yes c a g) b) (λ g. absurd (false≢true g));
      range_page = λ p f. absurd (false≢true f);
      range_used = r;
    }

-- an object of a page below 32
pub in_page : {p a : ℕ} → p < 32 → page_of a ≡ p → a < 256
in_page b e = omega arith

own_write : {opened : Bool} {rd wr : ℕ → Val} (p : ℕ) (f : ℕ → Val) → Asks p f → opened ≡ true → Range rd wr → Own opened rd wr (ForWrite p f)
own_write {opened} {rd} {wr} p f b o r =
    record {
      S5 = λ c e. absurd (false≢true e);
      S6 = λ e. both opened o e;
      range_wait = λ c e. in_page b.in_range (b.page_only_lem c e);
      range_page = λ q e. rw (eqb_yes q p e) b.in_range;
      range_used = r;
    }

own_commit : {opened : Bool} {rd wr : ℕ → Val} → opened ≡ true → Range rd wr → Own opened rd wr ForCommit
own_commit {opened} o r =
    record { S5 = λ c f. absurd (false≢true f); S6 = λ f. both opened o f; range_wait = λ c f. absurd (false≢true f); range_page = λ p f. absurd (false≢true f); range_used = r }

own_closed : Own false none_at none_at Idle
own_closed = record { S5 = λ c f. absurd (false≢true f); S6 = λ f. (λ a. (refl, refl), refl); range_wait = λ c f. absurd (false≢true f); range_page = λ p f. absurd (false≢true f); range_used = λ a b. (refl, refl) }

far_from : (a b : ℕ) → a < 256 → 256 ≤ b → eqb b a ≡ false
far_from a b x y = by_eq b a (λ e. absurd (omega (arith, eqb_yes b a e))) (λ e. e)

pub range_read : {rd wr : ℕ → Val} (a : ℕ) (v : Val) → a < 256 → Range rd wr → Range (upd rd a v) wr
range_read a v b r c d = rw (far_from a c b d) (r c d)

range_write : {rd wr : ℕ → Val} (f : ℕ → Val) → ((a : ℕ) → has (f a) ≡ true → a < 256) → Range rd wr → Range rd (λ a. or_val (f a) (wr a))
range_write {rd} {wr} f b r c d = ((r c d).0, beyond (f c) refl)
  where
    beyond : (v : Val) → f c ≡ v → or_val v (wr c) ≡ none
    beyond none e = (r c d).1
    beyond (some x) e = let l = b c (ap has e) in absurd (omega arith)

-- what the owner writes
asked_range : {p : ℕ} {f : ℕ → Val} → Asks p f → (a : ℕ) → has (f a) ≡ true → a < 256
asked_range b a e = in_page b.in_range (b.page_only_lem a e)

pub undo_kind : (s : Station) → (undo s).kind ≡ s.kind
unfolding undo mark drop_pages
undo_kind s = by_b (locking s.kind) (λ e. rw e refl) (λ e. rw e refl)

pub undo_num : (s : Station) → (undo s).num ≡ s.num
unfolding undo mark drop_pages
undo_num s = by_b (locking s.kind) (λ e. rw e refl) (λ e. rw e refl)

-- what was old is old when the station has closed, and when it begins
pub closed_old : (kind num : ℕ) (opened : Bool) (t : ℕ) → stale kind num opened t ≡ true → stale kind num false t ≡ true
closed_old kind num opened t e = rw (and_l (not (locking kind)) _ e) refl

pub begun_old : (kind num : ℕ) (opened : Bool) (t : ℕ) → t ≤ num → stale kind num opened t ≡ true → stale kind (num + 1) true t ≡ true
begun_old kind num opened t b e =
    let n : eqb t (num + 1) ≡ false = by_eq t (num + 1) (λ f. absurd (omega (arith, eqb_yes t (num + 1) f))) (λ f. f) in
    rw (and_l (not (locking kind)) _ e, n) refl

module _ (skind : ℕ) (q : Waiter) (latest : ℕ) (fin : Bool) (U : List Up) (D : List Down) where
  -- the end of a transaction; each kept callback sends a 7
  closing : (d : Did) → Quiet skind d.station.kind d.station.num false q (U ++ d.sent) D → After skind q latest fin U D (close d)
  unfolding closed do_callback drop_pages mark
  closing d k =
      closes (After skind q latest fin U D)
      (λ r t set e f h. rw (append_assoc U e.sent (Done r t _ ∷ [])) (add_up (Done r t _) refl tt tt h))
      d (quiet_tokens k own_closed)

  silent : (s : Station) → Before skind q latest fin U D s → Before skind q latest fin (U ++ []) D s
  silent s h = rw (append_nil U) h

  module _ (s : Station) (h : Before skind q latest fin U D s) where
    quiet : waiting s.wait ≡ false → Quiet skind s.kind s.num s.opened q U D
    quiet e = idle_quiet e h

    -- closed, and quiet
    pub shut : waiting s.wait ≡ false → Quiet skind s.kind s.num false q U D
    shut e = quiet_on s.num false (omega arith) (λ t b f. closed_old s.kind s.num s.opened t f) (quiet e)

    abort_quiet : waiting s.wait ≡ false → Quiet skind s.kind s.num false q (U ++ cond (locking s.kind) (Abort s.num ∷ []) []) D
    abort_quiet e = by_b (locking s.kind) (λ l. rw l (quiet_add (Abort s.num) refl (λ w. tt) (shut e))) (λ l. rw l (rw (append_nil U) (shut e)))

    write_ask_lem : (p : ℕ) (f : ℕ → Val) → Asks p f → Active s → some_on p (named f s) ≡ true → After skind q latest fin U D (write_ask p f s)
    unfolding write_ask
    write_ask_lem p f b c n = by_kind (locking s.kind) refl
      where
        a : ℕ
        a = lowest_on p (named f s)

        -- what is asked for is written
        written_lowest : has (f a) ≡ true
        written_lowest = and_l (has (f a)) _ (lowest_in p (named f s) n)

        by_kind : (k : Bool) → locking s.kind ≡ k
            → Tokens skind s.kind s.num s.opened s.rd s.wr (ForWrite p f) q latest fin (U ++ (cond k (WriteRequest p s.num (named f s)) (ReadRequest a s.num) ∷ [])) D
        by_kind true l =
            token_up_lem (WriteRequest p s.num (named f s)) (record { below = omega arith; same = λ z. refl; alive = λ z. c.opened; waits = λ z. and_both (lock_wait s.kind (ForWrite p f) p) (some_on p (named f s)) (and_both (locking s.kind) (eqb p p) l (eqb_same p)) n }) tt
            (own_write p f b c.opened h.range_used) (quiet c.idle)
        by_kind false l =
            token_up_lem (ReadRequest a s.num) (record { below = omega arith; same = λ z. refl; alive = λ z. c.opened; waits = λ z. and_both (not (locking s.kind)) (has (f a)) (ap not l) written_lowest }) tt
            (own_write p f b c.opened h.range_used) (quiet c.idle)

    owner_after : Owns s (λ op d. After skind q latest fin U D d)
    unfolding read_local record_read read_ask write_local write_ask drop_pages
    owner_after =
        record {
          refused = λ op n. silent s h;
          begins = λ e o.
              rw (append_nil U)
              (quiet_tokens (quiet_on (s.num + 1) true (omega arith) (λ t b f. begun_old s.kind s.num s.opened t b f) (quiet e)) (own_idle refl e h.range_used));
          reads_own = λ a v b c e. silent s h;
          reads_again = λ a v b c e f. silent s h;
          reads_here = λ a b c e f g. rw (append_nil U) (quiet_tokens (quiet c.idle) (own_idle c.opened c.idle (range_read a _ b h.range_used)));
          reads_ask = λ a b c e f g.
              token_up_lem (ReadRequest a s.num) (record { below = omega arith; same = λ z. refl; alive = λ z. c.opened; waits = λ z. rw (eqb_same a) refl }) tt
              (own_read a b c.opened f e h.range_used) (quiet c.idle);
          writes_here = λ p f b c e. rw (append_nil U) (quiet_tokens (quiet c.idle) (own_idle c.opened c.idle (range_write (of_page p f) (asked_range b) h.range_used)));
          writes_ask = λ p f b c e. write_ask_lem p (of_page p f) b c e;
          commits = λ c.
              token_up_lem (Commit (work_of s)) (record { below = omega arith; same = λ z. refl; alive = λ z. c.opened; waits = λ z. refl }) (refl, refl)
              (own_commit c.opened h.range_used) (quiet c.idle);
          aborts = λ c. closing (does (AbortedFor 0) (undo s) (cond (locking s.kind) (Abort s.num ∷ []) [])) (rw (undo_kind s, undo_num s) (abort_quiet c.idle));
          purges = λ p b r n e k. add_up (Purge p) refl tt tt h;
        }

    pub perform_after : (op : Op) → After skind q latest fin U D (perform op s)
    perform_after op = performs s (λ op d. After skind q latest fin U D d) owner_after op

  -- the station takes the first message m of its down line m ∷ D
  module _ (s : Station) where
    abbrev Taken : Down → Did → Type 0
    Taken m d = Before skind q latest fin U (m ∷ D) s → After skind q latest fin U D d

    live_open : (t : ℕ) → live s t ≡ true → s.opened ≡ true
    live_open t e = and_l s.opened _ e

    pub live_hot : (t : ℕ) → live s t ≡ true → stale s.kind s.num s.opened t ≡ false
    live_hot t e = rw e (and_no (not (locking s.kind)) false refl)

    pub shut_taken : (m : Down) → token_down (stale s.kind s.num s.opened) m ≡ true → Before skind q latest fin U (m ∷ D) s → Quiet skind s.kind s.num false q U D
    shut_taken m e h = quiet_on s.num false (omega arith) (λ t b f. closed_old s.kind s.num s.opened t f) (took_down m e h)

    -- what is to be written is in range
    due : (p : ℕ) (y : ℕ → Val) → s.wait ≡ ForWrite p y → {m : Down} → Before skind q latest fin U (m ∷ D) s → (a : ℕ) → has (y a) ≡ true → a < 256
    due p y f h a e = h.range_wait a (rw f e)

    written : (l : Lock) (a t : ℕ) (v : ℕ → ℕ) (u : ℕ → Bool) (x : ℕ → ℕ) (p : ℕ) (y : ℕ → Val) → live s t ≡ true → s.wait ≡ ForWrite p y → Taken (Page l a t v u x) (does Written (write_local y (arrived l a v u x s)) [])
    unfolding write_local arrive take_lock
    written NoLock a t v u x p y e f h =
        rw (append_nil U) (quiet_tokens (took_down (Page NoLock a t v u x) (rw (live_hot t e) refl) h) (own_idle (live_open t e) refl (range_write y (due p y f h) h.range_used)))
    written ObjectLock a t v u x p y e f h =
        rw (append_nil U) (quiet_tokens (took_down (Page ObjectLock a t v u x) refl h) (own_idle (live_open t e) refl (range_write y (due p y f h) h.range_used)))
    written WholeLock a t v u x p y e f h =
        rw (append_nil U) (quiet_tokens (took_down (Page WholeLock a t v u x) refl h) (own_idle (live_open t e) refl (range_write y (due p y f h) h.range_used)))

    station_after : Takes s Taken
    unfolding record_read arrive take_lock on_deescalate S.loosen do_callback drop_pages mark on_committed on_aborted
    station_after =
        record {
          refused = λ m f h. silent s (pop_down m h);
          old_page = λ a t v u x e h. silent s (pop_down (Page NoLock a t v u x) h);
          page_read = λ a t v u x e f h.
              let b : a < 256 = h.range_wait a (rw (f, eqb_same a) refl) in
              rw (append_nil U) (quiet_tokens (took_down (Page NoLock a t v u x) (rw (live_hot t e) refl) h) (own_idle (live_open t e) refl (range_read a _ b h.range_used)));
          page_write = λ l a t v u x p y e f o c h. written l a t v u x p y e f h;
          deescalates = λ p t e h.
              let g = add_up (WrittenSet p _ _) refl tt tt (pop_down (Deescalate p t) h) in
              by_b (gives_up p t s) (λ z. rw z g) (λ z. rw z g);
          keeps = λ r t set e f h. add_up (Busy r t) refl tt tt (pop_down (Callback r t set) h);
          dones = λ r t set e f h. add_up (Done r t _) refl tt tt (pop_down (Callback r t set) h);
          commits = λ t n e f h. closing _ (rw (append_nil U) (shut_taken (Committed t n) refl h));
          aborts = λ t c e f h. closing _ (rw (append_nil U, undo_kind s, undo_num s) (shut_taken (Aborted t c) refl h));
          invalid_ends = λ d l e f h. closing _ (rw (append_nil U, undo_kind (mark d s), undo_num (mark d s)) (paging_quiet l f (pop_down (Invalidate d) h)));
          invalid = λ d l e h. silent s (pop_down (Invalidate d) h);
        }

    pub step_after : (m : Down) → Before skind q latest fin U (m ∷ D) s → After skind q latest fin U D (station_step m s)
    step_after m h = takes s Taken station_after m h

-- calls and their answers leave a waiter's shape
shape_called : (v : Want) (q : Waiter) (p : ℕ → Bool) → is_want v ≡ true → (v ≡ WantRead → ⊥) → Shape v q → Shape v (waiter_pend (waiter_called q true) p)
shape_called NoWant q p e n s = absurd (false≢true e)
shape_called WantRead q p e n s = absurd (n refl)
shape_called WantWrite q p e n s = s
shape_called WantCommit q p e n s = s

shape_busy : (v : Want) (q : Waiter) (b : ℕ → Bool) → is_want v ≡ true → Shape v q → Shape v (waiter_busy q b)
shape_busy NoWant q b e s = absurd (false≢true e)
shape_busy WantRead q b e s = s
shape_busy WantWrite q b e s = s
shape_busy WantCommit q b e s = s

shape_answered : (v : Want) (q : Waiter) (b p : ℕ → Bool) → is_want v ≡ true → Shape v q → Shape v (waiter_pend (waiter_busy q b) p)
shape_answered NoWant q b p e s = absurd (false≢true e)
shape_answered WantRead q b p e s = s
shape_answered WantWrite q b p e s = s
shape_answered WantCommit q b p e s = s

module _ {skind kind num : ℕ} {opened : Bool} {rd wr : ℕ → Val} {w : Wait} {q : Waiter} {latest : ℕ} {fin : Bool} {U : List Up} {D : List Down} (h : Tokens skind kind num opened rd wr w q latest fin U D) where
  pub called_tokens : (p : ℕ → Bool) → is_want q.want ≡ true → (q.want ≡ WantRead → ⊥) → Tokens skind kind num opened rd wr w (waiter_pend (waiter_called q true) p) latest fin U D
  called_tokens p e n =
      record { kinds = h.kinds; S1a = h.S1a; S1b_up = h.S1b_up; S1b_waiter = h.S1b_waiter; S1b_down = h.S1b_down; S3_up = h.S3_up; S3_waiter = h.S3_waiter; S4 = h.S4; S5 = h.S5; S6 = h.S6; S7 = shape_called q.want q p e n h.S7; range_wait = h.range_wait; range_page = h.range_page; range_used = h.range_used }

  pub busy_tokens : (b : ℕ → Bool) → is_want q.want ≡ true → Tokens skind kind num opened rd wr w (waiter_busy q b) latest fin U D
  busy_tokens b e =
      record { kinds = h.kinds; S1a = h.S1a; S1b_up = h.S1b_up; S1b_waiter = h.S1b_waiter; S1b_down = h.S1b_down; S3_up = h.S3_up; S3_waiter = h.S3_waiter; S4 = h.S4; S5 = h.S5; S6 = h.S6; S7 = shape_busy q.want q b e h.S7; range_wait = h.range_wait; range_page = h.range_page; range_used = h.range_used }

  pub answered_tokens : (b p : ℕ → Bool) → is_want q.want ≡ true → Tokens skind kind num opened rd wr w (waiter_pend (waiter_busy q b) p) latest fin U D
  answered_tokens b p e =
      record { kinds = h.kinds; S1a = h.S1a; S1b_up = h.S1b_up; S1b_waiter = h.S1b_waiter; S1b_down = h.S1b_down; S3_up = h.S3_up; S3_waiter = h.S3_waiter; S4 = h.S4; S5 = h.S5; S6 = h.S6; S7 = shape_answered q.want q b p e h.S7; range_wait = h.range_wait; range_page = h.range_page; range_used = h.range_used }

  -- who does not wait may get any latest number, finished or not
  pub renumbered : (latest' : ℕ) (fin' : Bool) → is_want q.want ≡ false → Tokens skind kind num opened rd wr w q latest' fin' U D
  renumbered latest' fin' e =
      let z : q ≡ no_waiter = no_entry q.want q e h.S7 in
      record { kinds = h.kinds; S1a = h.S1a; S1b_up = h.S1b_up; S1b_waiter = rw z tt; S1b_down = h.S1b_down; S3_up = h.S3_up; S3_waiter = rw z tt; S4 = λ f. both (is_want q.want) f e; S5 = h.S5; S6 = h.S6; S7 = h.S7; range_wait = h.range_wait; range_page = h.range_page; range_used = h.range_used }

-- a 1 answered by a 16 at once: stale or not, the one token for the other
pub answered_now : {skind kind num : ℕ} {opened : Bool} {rd wr : ℕ → Val} {w : Wait} {q : Waiter} {latest : ℕ} {fin : Bool} {U : List Up} {D : List Down} (a t t' : ℕ) (v : ℕ → ℕ) (u : ℕ → Bool) (x : ℕ → ℕ) → t' ≡ t
    → Tokens skind kind num opened rd wr w q latest fin (ReadRequest a t ∷ U) D → Tokens skind kind num opened rd wr w q latest fin U (snoc D (Page NoLock a t' v u x))
answered_now {skind} {kind} {num} {opened} {rd} {wr} {w} {q} {latest} {fin} {U} {D} a t t' v u x e h =
    let g = pop_up (ReadRequest a t) h in
    rw e
    (record { kinds = g.kinds; S1a = omega (arith, h.S1a, count_snoc (token_down (stale kind num opened)) D (Page NoLock a t v u x)); S1b_up = g.S1b_up; S1b_waiter = g.S1b_waiter; S1b_down = all_snoc (FitDown kind num opened w) D (Page NoLock a t v u x) g.S1b_down h.S1b_up.0; S3_up = g.S3_up; S3_waiter = g.S3_waiter; S4 = g.S4; S5 = g.S5; S6 = g.S6; S7 = g.S7; range_wait = g.range_wait; range_page = g.range_page; range_used = g.range_used })

-- a wait for something is a wait
read_waiting : (w : Wait) (a : ℕ) → for_read w a ≡ true → waiting w ≡ true
read_waiting Idle a e = e
read_waiting (ForRead b) a e = refl
read_waiting (ForWrite p f) a e = refl
read_waiting ForCommit a e = refl

write_waiting : (w : Wait) (p : ℕ) → writes_to w p ≡ true → waiting w ≡ true
write_waiting Idle p e = e
write_waiting (ForRead b) p e = refl
write_waiting (ForWrite q f) p e = refl
write_waiting ForCommit p e = refl

commit_waiting : (w : Wait) → for_commit w ≡ true → waiting w ≡ true
commit_waiting Idle e = e
commit_waiting (ForRead b) e = refl
commit_waiting (ForWrite p f) e = refl
commit_waiting ForCommit e = refl

-- the waiter's token becomes a 22
abort_fit : (kind num : ℕ) (opened : Bool) (w : Wait) (latest : ℕ) (v : Want) (a : ℕ) → is_want v ≡ true → FitWaiter kind num opened w latest v a → Fit false latest num opened (abort_wait kind w)
abort_fit kind num opened w latest NoWant a e f = absurd (false≢true e)
abort_fit kind num opened w latest WantRead a e f =
    let z = f.waits refl in
    record { below = f.below; same = f.same; alive = f.alive; waits = λ y. rw (and_l (locking kind) _ z, read_waiting w a (and_r (locking kind) _ z)) refl }
abort_fit kind num opened w latest WantWrite a e f =
    let z = f.waits refl in
    record { below = f.below; same = f.same; alive = f.alive; waits = λ y. rw (and_l (locking kind) _ z, write_waiting w (page_of a) (and_r (locking kind) _ z)) refl }
abort_fit kind num opened w latest WantCommit a e f =
    let z = and_r (not (locking kind)) _ (f.waits refl) in
    record { below = f.below; same = f.same; alive = f.alive; waits = λ y. rw (z, commit_waiting w z) (by_b (locking kind) (λ l. rw l refl) (λ l. rw l refl)) }

module _ (st : ℕ → Station) (u : ℕ → List Up) (d : ℕ → List Down) where
  -- in the middle of a server's step: what it has sent stands at the end of the down lines
  abbrev pub At : Serving → ℕ → Type 0
  At x j = TokensAt x.server st u (λ k. d k ++ sent_to k x.sent) j

  abbrev pub InStep : Serving → Type 0
  InStep x = (j : ℕ) → At x j

  -- station i's token is taken out
  pub record Gone (i : ℕ) (x : Serving) : Type 0 where
    pub far : (j : ℕ) → eqb j i ≡ false → At x j
    pub here : Quiet (x.server.kind i) (st i).kind (st i).num (st i).opened (x.server.queue i) (u i) (d i ++ sent_to i x.sent)
    pub mine : Own (st i).opened (st i).rd (st i).wr (st i).wait

  pub leave_gone : (i : ℕ) (x : Serving) → InStep x → waits x.server i ≡ true → Gone i (leave i x)
  unfolding leave
  leave_gone i x h e = record { far = λ j f. rw f (h j); here = rw (eqb_same i) (left_quiet e (h i)); mine = own (h i) }

  again_gone : (i : ℕ) (x : Serving) → Gone i x → Gone i (leave i x)
  unfolding leave
  again_gone i x g =
      let k = g.here in
      record { far = λ j f. rw f (g.far j f); here = rw (eqb_same i) (record { kinds = k.kinds; empty = refl; no_up = k.no_up; no_down = k.no_down; fits_up = k.fits_up; fits_down = k.fits_down }); mine = g.mine }

  finish_gone : (i : ℕ) (e : End) (x : Serving) → Gone i x → Gone i (finish i e x)
  unfolding finish
  finish_gone i e x g = record { far = λ j f. rw f (g.far j f); here = g.here; mine = g.mine }

  join_back : (i : ℕ) (v : Waiter) (x : Serving) → FitWaiter (st i).kind (st i).num (st i).opened (st i).wait (x.server.latest i) v.want v.req → WaitingWork (st i).rd (st i).wr (x.server.latest i) v.want v.work → Shape v.want v → x.server.fin i ≡ false → Gone i x → InStep (join i v x)
  unfolding join
  join_back i v x f s z n g j =
      by_eq j i (λ e. rw (e, eqb_yes j i e) (token_waits v f s z n g.mine g.here)) (λ e. rw e (g.far j e))

  send_back : (i : ℕ) (m : Down) (x : Serving) → FitDown (st i).kind (st i).num (st i).opened (st i).wait m → Gone i x → InStep (send x i m)
  send_back i m x f g j =
      by_eq j i
      (λ e. rw (eqb_yes j i e, send_own i (d i) x.sent m) (token_down_lem m f g.mine g.here))
      (λ e. rw (send_far i j (d j) x.sent m e) (g.far j e))

  page_back : (l : Lock) (i a : ℕ) (v : ℕ → Bool) (x : Serving) → ((n y : ℕ → ℕ) → FitDown (st i).kind (st i).num (st i).opened (st i).wait (Page l a (x.server.latest i) n v y)) → Gone i x → InStep (send_page l i a v x)
  unfolding send_page
  page_back l i a v x f g =
      let s : Server = x.server in
      let n : ℕ → ℕ = values_on (page_of a) s.ver in
      let y : ℕ → ℕ = values_on (page_of a) s.val in
      send_back i (Page l a (s.latest i) n v y) (on_server x (set_listed s (upd2 s.listed i (page_of a) true))) (f n y) (record { far = g.far; here = g.here; mine = g.mine })

  -- messages that are no tokens
  send_plain : (i : ℕ) (m : Down) (x : Serving) → ((old : ℕ → Bool) → token_down old m ≡ false) → ((kind num : ℕ) (opened : Bool) (w : Wait) → FitDown kind num opened w m) → InStep x → InStep (send x i m)
  send_plain i m x e f h j =
      by_eq j i
      (λ q. rw (eqb_yes j i q, send_own i (d i) x.sent m) (add_down m (e _) (f _ _ _ _) (h i)))
      (λ q. rw (send_far i j (d j) x.sent m q) (h j))

  abort_back : (i c : ℕ) (x : Serving) → Fit false (x.server.latest i) (st i).num (st i).opened (abort_wait (st i).kind (st i).wait) → Gone i (leave i x) → InStep (abort i c x)
  unfolding abort finish leave
  abort_back i c x f g = let y : Serving = finish i (ByCause c) (leave i x) in send_back i (Aborted (y.server.latest i) c) y f (finish_gone i (ByCause c) (leave i x) g)

  -- 21, then the 23s
  install_back : (i : ℕ) (w : Work) (x : Serving) → Fit false w.transaction (st i).num (st i).opened (for_commit (st i).wait) → Gone i (leave i x) → InStep (install i w x)
  unfolding archive write
  install_back i w x f g =
      let y : Serving = archive i w (write w (leave i x)) in
      installs InStep i w
      (λ j z e h. send_plain j (Invalidate (λ a. has (w.writes a))) z (λ old. refl) (λ kind num opened v. tt) h) x
      (send_back i (Committed w.transaction (finish i ByCommit y).server.last) (finish i ByCommit y) f (finish_gone i ByCommit y (record { far = g.far; here = g.here; mine = g.mine })))

  -- a waiter of a locking station; its page
  call_in : (i : ℕ) (x : Serving) → waits x.server i ≡ true → ((x.server.queue i).want ≡ WantRead → ⊥) → InStep x → InStep (call i x)
  unfolding call
  call_in i x e n h j =
      let s : Server = x.server in
      let q : Waiter = waiter_pend (waiter_called (s.queue i) true) (concerned s i) in
      let mid : Tokens (s.kind j) (st j).kind (st j).num (st j).opened (st j).rd (st j).wr (st j).wait (upd s.queue i q j) (s.latest j) (s.fin j) (u j) (d j ++ sent_to j x.sent) =
      by_eq j i (λ f. rw (f, eqb_yes j i f) (called_tokens (h i) (concerned s i) e n)) (λ f. rw f (h j)) in
      by_b (concerned s i j)
      (λ c. rw (call_own s i j (d j) x.sent c) (add_down (Callback i (s.latest i) (s.queue i).writes) refl tt mid))
      (λ c. rw (call_far s i j (d j) x.sent c) mid)

  read_fit : (kind num : ℕ) (opened : Bool) (w : Wait) (latest a : ℕ) → Fit false latest num opened (locking kind && for_read w a) → Fit (stale kind num opened latest) latest num opened (page_wait kind w a)
  read_fit kind num opened w latest a f =
      let z = f.waits refl in
      record { below = f.below; same = λ y. f.same refl; alive = λ y. f.alive refl; waits = λ y. rw (and_r (locking kind) _ z) refl }

  pub atomic_tokens : Atomic InStep
  unfolding ask serve_read grant_object grant_page install_waiter leave
  atomic_tokens =
      record {
        aborts = λ i c x b t h. abort_back i c x (abort_fit (st i).kind (st i).num (st i).opened (st i).wait (x.server.latest i) (x.server.queue i).want (x.server.queue i).req t (h i).S1b_waiter) (leave_gone i x h t);
        asks = λ i g p x b t e h. send_plain g (Deescalate p (x.server.whole_for p)) (on_server x (set_asked x.server (upd x.server.asked p true))) (λ old. refl) (λ kind num opened z. tt) h;
        reads = λ i x b w c h.
            let f = rw w at (h i).S1b_waiter in
            let a : ℕ = (x.server.queue i).req in
            page_back NoLock i a (unavailable x.server i a) (leave i x) (λ n y. read_fit (st i).kind (st i).num (st i).opened (st i).wait (x.server.latest i) a f) (leave_gone i x h (ap is_want w));
        calls = λ i x b t e n c h. call_in i x t n h;
        objects = λ i x b w r h.
            let f = rw w at (h i).S1b_waiter in
            let g = leave_gone i x h (ap is_want w) in
            let a : ℕ = (x.server.queue i).req in
            let y : Serving = leave i x in
            page_back ObjectLock i a (unavailable x.server i a) (on_server y (set_ol y.server (λ c. cond ((x.server.queue i).writes c) (suc i) (x.server.ol c)))) (λ n v. f) (record { far = g.far; here = g.here; mine = g.mine });
        pages = λ i x b w r e h.
            let f = rw w at (h i).S1b_waiter in
            let g = leave_gone i x h (ap is_want w) in
            let a : ℕ = (x.server.queue i).req in
            let y : Serving = leave i x in
            page_back WholeLock i a (unavailable x.server i a) (on_server y (set_wl (set_whole_for (set_asked y.server (upd x.server.asked (page_of a) false)) (upd x.server.whole_for (page_of a) (x.server.latest i))) (upd x.server.wl (page_of a) (suc i)))) (λ n v. f) (record { far = g.far; here = g.here; mine = g.mine });
        installs = λ i x b w f r h.
            let g = rw w at (h i).S1b_waiter in
            let s = rw w at (h i).S3_waiter in
            install_back i (x.server.queue i).work x
            (record { below = rw s.0 g.below; same = λ z. rw s.0 (g.same refl); alive = λ z. g.alive refl; waits = λ z. and_r (not (locking (st i).kind)) _ (g.waits refl) })
            (leave_gone i x h (ap is_want w));
      }

-- the page of an address of page p
pub of_page_lem : (p o : ℕ) → o < 8 → page_of (address p o) ≡ p
of_page_lem p o b = omega arith

-- what a 2 names on its page
set_of_page : (p : ℕ) (set : ℕ → Bool) → some_on p set ≡ true → some_on p (λ b. eqb (page_of b) p && set b) ≡ true
set_of_page p set n =
    let z = any_some 8 (λ o. set (address p o)) n in
    any_yes 8 (λ o. eqb (page_of (address p o)) p && set (address p o)) z.0 z.1 (rw (of_page_lem p z.0 z.1, eqb_same p) z.2)

-- the server accepts the first message m of station i's up line m ∷ l
module _ (i : ℕ) (l : List Up) (s : Server) (st : ℕ → Station) (u : ℕ → List Up) (d : ℕ → List Down) (h : (j : ℕ) → TokensAt s st u d j) where
  abbrev Head : Up → Type 0
  Head m = Before (s.kind i) (s.queue i) (s.latest i) (s.fin i) (m ∷ l) (d i) (st i)

  abbrev Then : Serving → Type 0
  Then x = InStep st (upd u i l) d x

  -- all other stations
  start_far : (j : ℕ) → eqb j i ≡ false → At st (upd u i l) d (start s) j
  start_far j e = rw (e, append_nil (d j)) (h j)

  start_here : (m : Up) → Head m → At st (upd u i l) d (start s) i
  start_here m g = rw (eqb_same i, append_nil (d i)) (pop_up m g)

  popped : (m : Up) → Head m → Then (start s)
  popped m g j = by_eq j i (λ e. rw (eqb_yes j i e) (start_here m g)) (λ e. start_far j e)

  notice_far : (t : ℕ) → bad_number s i t ≡ false → (j : ℕ) → eqb j i ≡ false → At st (upd u i l) d (notice i t (start s)) j
  notice_far t b j e =
      let x : Serving = start s in
      rw (noticed_kind i t x, noticed_queue i t x, noticed_latest i t x j, noticed_fin i t x b j, noticed_sent i t x, e) (rw e at (start_far j e))

  idle : (t : ℕ) → bad_number s i t ≡ false → waits s i ≡ false
  idle t b = (good_number s i t b).idle

  -- a token is taken and its number noticed
  notice_gone : (m : Up) (t : ℕ) → bad_number s i t ≡ false → token_up (stale (st i).kind (st i).num (st i).opened) m ≡ true → Head m → Gone st (upd u i l) d i (notice i t (start s))
  notice_gone m t b e g =
      let x : Serving = start s in
      record {
        far = notice_far t b;
        here = rw (noticed_kind i t x, noticed_queue i t x, noticed_sent i t x, eqb_same i, append_nil (d i)) (took_up m e g);
        mine = own g;
      }

  open_now : (t : ℕ) → bad_number s i t ≡ false → (notice i t (start s)).server.fin i ≡ false
  open_now t b = noticed_fin i t (start s) b i ∙ rw (eqb_same i) refl

  same_kind : (m : Up) → Head m → (b : Bool) → locking (s.kind i) ≡ b → locking (st i).kind ≡ b
  same_kind m g b e = rw (← g.kinds) e

  hot : (t : ℕ) → locking (st i).kind ≡ true → stale (st i).kind (st i).num (st i).opened t ≡ false
  hot t k = rw k refl

  read_joins : (a t : ℕ) → bad_number s i t ≡ false → locking (s.kind i) ≡ true → Head (ReadRequest a t) → Then (join_read i a (notice i t (start s)))
  unfolding join_read
  read_joins a t b k g =
      let y : Serving = notice i t (start s) in
      let k' : locking (st i).kind ≡ true = same_kind (ReadRequest a t) g true k in
      let f = g.S1b_up.0 in
      let n = hot t k' in
      let z : for_read (st i).wait a ≡ true = or_yes (for_read (st i).wait a) false (rw k' at (f.waits n)) (λ c. c) (λ c. absurd (false≢true c)) in
      join_back st (upd u i l) d i (read_waiter y.server a) y
      (rw (noticed_own i t (start s)) (record { below = f.below; same = λ c. f.same n; alive = λ c. f.alive n; waits = λ c. rw (k', z) refl }))
      tt (λ c. refl, λ c. refl, refl) (open_now t b)
      (notice_gone (ReadRequest a t) t b (rw n refl) g)

  write_joins : (p t : ℕ) (set : ℕ → Bool) → bad_number s i t ≡ false → Head (WriteRequest p t set) → Then (join_write i p set (notice i t (start s)))
  unfolding join_write
  write_joins p t set b g =
      let y : Serving = notice i t (start s) in
      let f = g.S1b_up.0 in
      let z = f.waits refl in
      let same : page_of (address p 0) ≡ p = of_page_lem p 0 (omega arith) in
      join_back st (upd u i l) d i (write_waiter y.server p set) y
      (rw (noticed_own i t (start s), same) (record { below = f.below; same = f.same; alive = f.alive; waits = λ c. and_l (lock_wait (st i).kind (st i).wait p) _ z }))
      tt (λ c. refl, λ c e. eqb_yes (page_of c) p (and_l (eqb (page_of c) p) _ e) ∙ sym same, rw same (set_of_page p set (and_r (lock_wait (st i).kind (st i).wait p) _ z))) (open_now t b)
      (notice_gone (WriteRequest p t set) t b refl g)

  commit_joins : (w : Work) → bad_number s i w.transaction ≡ false → locking (s.kind i) ≡ false → Head (Commit w) → Then (join_commit i w (notice i w.transaction (start s)))
  unfolding join_commit
  commit_joins w b k g =
      let t : ℕ = w.transaction in
      let y : Serving = notice i t (start s) in
      let k' : locking (st i).kind ≡ false = same_kind (Commit w) g false k in
      let f = g.S1b_up.0 in
      join_back st (upd u i l) d i (commit_waiter y.server w) y
      (rw (noticed_own i t (start s)) (record { below = f.below; same = f.same; alive = f.alive; waits = λ c. rw (k', f.waits refl) refl }))
      (sym (noticed_own i t (start s)), g.S3_up.0.0, g.S3_up.0.1) (λ c. refl, λ c. refl) (open_now t b)
      (notice_gone (Commit w) t b refl g)

  commit_installs : (w : Work) → bad_number s i w.transaction ≡ false → locking (s.kind i) ≡ true → Head (Commit w) → Then (commit_now i w (notice i w.transaction (start s)))
  unfolding commit_now
  commit_installs w b k g =
      let t : ℕ = w.transaction in
      let y : Serving = notice i t (start s) in
      let k' : locking (st i).kind ≡ true = same_kind (Commit w) g true k in
      let f = g.S1b_up.0 in
      let n = again_gone st (upd u i l) d i y (notice_gone (Commit w) t b refl g) in
      if_keeps Then (eqb y.server.last last_number)
      (λ e.
      abort_back st (upd u i l) d i 4 y
      (rw (noticed_own i t (start s)) (record { below = f.below; same = f.same; alive = f.alive; waits = λ c. rw (k', commit_waiting (st i).wait (f.waits refl)) refl })) n)
      (λ e. install_back st (upd u i l) d i w y f n)

  page_now : (a t : ℕ) → bad_number s i t ≡ false → Head (ReadRequest a t) → Then (serve_now i a (notice i t (start s)))
  unfolding serve_now send_page
  page_now a t b g j =
      let x : Serving = start s in
      let y : Serving = notice i t x in
      let m : Down = Page NoLock a (y.server.latest i) (values_on (page_of a) y.server.ver) nowhere (values_on (page_of a) y.server.val) in
      by_eq j i
      (λ e.
      rw (eqb_yes j i e, send_own i (d i) y.sent m)
      (rw (noticed_kind i t x, noticed_queue i t x, noticed_sent i t x, eqb_same i, append_nil (d i))
      (renumbered (answered_now a t (y.server.latest i) (values_on (page_of a) y.server.ver) nowhere (values_on (page_of a) y.server.val) (noticed_own i t x) g) (y.server.latest i) (y.server.fin i) (idle t b))))
      (λ e. rw (send_far i j (d j) y.sent m e) (notice_far t b j e))

  abort_taken : (t : ℕ) → bad_number s i t ≡ false → Head (Abort t) → Then (finish i ByMessage (notice i t (start s)))
  unfolding finish
  abort_taken t b g j =
      let x : Serving = start s in
      by_eq j i
      (λ e.
      rw (eqb_yes j i e, noticed_kind i t x, noticed_queue i t x, noticed_sent i t x, eqb_same i, append_nil (d i))
      (renumbered (pop_up (Abort t) g) ((notice i t x).server.latest i) true (idle t b)))
      (λ e. rw e (rw e at (notice_far t b j e)))

  -- a number that comes with no token
  met : (t : ℕ) → bad_number s i t ≡ false → (m : Up) → Head m → Then (notice i t (start s))
  met t b m g j =
      let x : Serving = start s in
      by_eq j i
      (λ e.
      rw (eqb_yes j i e, noticed_kind i t x, noticed_queue i t x, noticed_sent i t x, eqb_same i, append_nil (d i))
      (renumbered (pop_up m g) ((notice i t x).server.latest i) ((notice i t x).server.fin i) (idle t b)))
      (λ e. notice_far t b j e)

  pub call_waits : (r t : ℕ) → open_call s i r t ≡ true → waits s r ≡ true
  call_waits r t o = and_l (waits s r) _ (and_l (waits s r && eqb t (s.latest r)) _ o)

  accept_tokens : Accepts i (start s) (λ m x. Head m → Then x)
  unfolding unlist mark_busy answered loosen
  accept_tokens =
      record {
        read_waits = λ a t b k g. read_joins a t b k g;
        read_now = λ a t b k g. page_now a t b g;
        write_waits = λ p t set b k g. write_joins p t set b g;
        commit_now_lem = λ w b n k g. commit_installs w b k g;
        commit_waits = λ w b k g. commit_joins w b k g;
        aborts = λ t b k g. abort_taken t b g;
        purges = λ p n g. popped (Purge p) g;
        busy = λ r t o g j.
            let p = popped (Busy r t) g in
            by_eq j r (λ e. rw (e, eqb_yes j r e) (busy_tokens (p r) (upd (s.queue r).busy i true) (call_waits r t o))) (λ e. rw e (p j));
        busy_late = λ r t o g. popped (Busy r t) g;
        dones = λ r t c o g j.
            let p = popped (Done r t c) g in
            by_eq j r (λ e. rw (e, eqb_yes j r e) (answered_tokens (p r) (upd (s.queue r).busy i false) (upd (s.queue r).pend i false) (call_waits r t o))) (λ e. rw e (p j));
        done_late = λ r t c o g. popped (Done r t c) g;
        loosens = λ p t set o b g. popped (WrittenSet p t set) g;
        loosens_new = λ p t set o k r g. met t (renews_good s i t r (keeps_locks (s.kind i) k) (h i).S4) (WrittenSet p t set) g;
        loosens_late = λ p t set o g. popped (WrittenSet p t set) g;
      }

  pub accept_in : (m : Up) → u i ≡ m ∷ l → unexpected i m s ≡ false → Then (accept i m (start s))
  accept_in m q e = accepts i (start s) (λ n x. Head n → Then x) accept_tokens m e (rw q at (h i))

pub tokens_moves : Moves AllTokens AllTokens
tokens_moves =
    record {
      rests = λ s t u d h. h;
      owner = λ i op s t u d h j.
          by_eq j i (λ e. rw (e, eqb_yes j i e) (perform_after (s.kind i) (s.queue i) (s.latest i) (s.fin i) (u i) (d i) (t i) (h i) op)) (λ e. rw e (h j));
      server = λ i m l s t u d b e n h. step_keeps (InStep t (upd u i l) d) (atomic_tokens t (upd u i l) d) i m s (accept_in i l s t u d h m e n);
      station = λ i m l s t u d q h j.
          by_eq j i
          (λ e. rw (e, eqb_yes j i e) (step_after (s.kind i) (s.queue i) (s.latest i) (s.fin i) (u i) l (t i) m (rw q at (h i))))
          (λ e. rw e (h j));
    }

pub tokens_fresh : (kinds : ℕ → ℕ) (i : ℕ) → TokensAt (fresh kinds).server (fresh kinds).station (fresh kinds).up (fresh kinds).down i
tokens_fresh kinds i =
    quiet_tokens (record { kinds = refl; empty = refl; no_up = refl; no_down = refl; fits_up = λ w. tt; fits_down = λ w. tt }) own_closed

-- for every list of calls, whatever the kinds, and every station
pub tokens_run : (kinds : ℕ → ℕ) (cs : List Call) (i : ℕ) → let w = run cs (fresh kinds) in TokensAt w.server w.station w.up w.down i
tokens_run kinds cs = run_keeps AllTokens tokens_moves cs (fresh kinds) (tokens_fresh kinds)

pub still : (s : Station) → Frozen s s
still s = record { num = refl; opened = refl; rd = refl; wr = refl; wait = refl }

owner_frozen : (s : Station) → s.wait ≡ ForCommit → Owns s (λ op d. Frozen s d.station)
unfolding drop_pages
owner_frozen s e =
    record {
      refused = λ op n. still s;
      begins = λ f o. not_idle s.wait e f;
      reads_own = λ a v b c f. still s;
      reads_again = λ a v b c f g. still s;
      reads_here = λ a b c f g k. not_idle s.wait e c.idle;
      reads_ask = λ a b c f g k. not_idle s.wait e c.idle;
      writes_here = λ p v b c f. not_idle s.wait e c.idle;
      writes_ask = λ p v b c f. not_idle s.wait e c.idle;
      commits = λ c. not_idle s.wait e c.idle;
      aborts = λ c. not_idle s.wait e c.idle;
      purges = λ p b r n f k. record { num = refl; opened = refl; rd = refl; wr = refl; wait = refl };
    }

pub frozen_owner : (s : Station) (op : Op) → s.wait ≡ ForCommit → Frozen s (perform op s).station
frozen_owner s op e = performs s (λ o d. Frozen s d.station) (owner_frozen s e) op

station_frozen : (s : Station) → s.wait ≡ ForCommit → Takes s (λ m d. ends m ≡ false → Frozen s d.station)
unfolding on_deescalate S.loosen do_callback drop_pages mark
station_frozen s e =
    record {
      refused = λ m f n. still s;
      old_page = λ a t v u x f n. record { num = refl; opened = refl; rd = refl; wr = refl; wait = refl };
      page_read = λ a t v u x f g n. absurd (false≢true (sym (ap for_commit g) ∙ ap for_commit e));
      page_write = λ l a t v u x p y f g o c n. absurd (false≢true (sym (ap for_commit g) ∙ ap for_commit e));
      deescalates = λ p t f n. by_b (gives_up p t s) (λ z. rw z (record { num = refl; opened = refl; rd = refl; wr = refl; wait = refl })) (λ z. rw z (still s));
      keeps = λ r t set f g n. record { num = refl; opened = refl; rd = refl; wr = refl; wait = refl };
      dones = λ r t set f g n. record { num = refl; opened = refl; rd = refl; wr = refl; wait = refl };
      commits = λ t n f g k. not_token k;
      aborts = λ t c f g k. not_token k;
      invalid_ends = λ d l f g n. both (for_commit s.wait) (ap for_commit e) g;
      invalid = λ d l f n. record { num = refl; opened = refl; rd = refl; wr = refl; wait = refl };
    }

pub frozen_station : (s : Station) (m : Down) → s.wait ≡ ForCommit → ends m ≡ false → Frozen s (station_step m s).station
frozen_station s m e n = takes s (λ k d. ends k ≡ false → Frozen s d.station) (station_frozen s e) m n

-- a commit is out: a 3 going up, a commit that waits, a 21 coming down. Then the owner waits for it
module _ {skind kind num : ℕ} {opened : Bool} {rd wr : ℕ → Val} {w : Wait} {q : Waiter} {latest : ℕ} {fin : Bool} {U : List Up} {D : List Down} (h : Tokens skind kind num opened rd wr w q latest fin U D) where
  pub out_up : (k : Work) → In (Commit k) U → (w ≡ ForCommit) × (k.transaction ≡ num) × (opened ≡ true) × (k.reads ≡ rd) × (k.writes ≡ wr)
  out_up k i =
      let f = all_in (FitUp kind num opened w) U (Commit k) i h.S1b_up in
      let s = all_in (SameWork rd wr) U (Commit k) i h.S3_up in
      (for_commit_lem w (f.waits refl), f.same refl, f.alive refl, s.0, s.1)

  pub out_waits : q.want ≡ WantCommit → (w ≡ ForCommit) × (latest ≡ num) × (opened ≡ true) × (q.work.transaction ≡ num) × (q.work.reads ≡ rd) × (q.work.writes ≡ wr)
  out_waits e =
      let f = rw e at h.S1b_waiter in
      let s = rw e at h.S3_waiter in
      (for_commit_lem w (and_r (not (locking kind)) _ (f.waits refl)), f.same refl, f.alive refl, s.0 ∙ f.same refl, s.1, s.2)

  pub out_down : (t n : ℕ) → In (Committed t n) D → (w ≡ ForCommit) × (t ≡ num) × (opened ≡ true)
  out_down t n i =
      let f = all_in (FitDown kind num opened w) D (Committed t n) i h.S1b_down in
      (for_commit_lem w (f.waits refl), f.same refl, f.alive refl)
