-- What every layer needs: counts along lines, what a server's action adds to each down line, what `notice` changes, and the moves of owner,
-- station and server as lists of events with their guards (`Owns`, `Takes`, `Accepts`; the pass's events are line's `Atomic`).
use Rattle.std.specs.Prelude.{◌≡◌, Bool, false, ◌&&◌, cond, [], ◌∷◌, eqb}
use Rattle.std.proofs.Math.Bool.{true, not}
use Prim.Native.Nat.{ℕ, ◌+◌, ◌≤◌, ◌<◌}
use Rattle.sets.specs.Base.{upd, Val, none, some, has}
use Rattle.line.specs.Messages.{page_of, locking, Work, Up, ReadRequest, WriteRequest, Commit, Abort, Purge, Busy, Done, WrittenSet, Lock, NoLock, ObjectLock, WholeLock, Down, Page, Deescalate, Callback, Committed, Aborted, Invalidate, Nothing, Begun, Value, Waits, Written, AbortedFor, Purged, Refused, keeps}
use Rattle.line.specs.Station.{Station, Did, does, set_kept, set_num, set_opened, set_wait, Idle, ForRead, ForWrite, ForCommit, waiting, for_commit, requested, KeptCall, live, used_page, shown, work_of, ended, fits, some_on, drop_pages, record_read, write_local, do_callback, close, undo, read_local, read_ask, named, write_ask, of_page, arrive, take_lock, on_deescalate, on_committed, on_aborted, in_use, ignored, mark, kept_whole}
use Rattle.line.specs.Server.{Serving, bad_number, unlocked, lock_on, notice, finish, serve_now, join_read, join_write, join_commit, commit_now, unlist, open_call, mark_busy, answered, open_ask, loosen, ByMessage, heeded}
use Rattle.line.specs.Line.{Op, Begin, Read, WriteSet, Commits, Aborts, Purges}
use Rattle.line.specs.Apart.{Renews}
use Rattle.line.specs.Asks.{Asks}

-- open, and nothing is waited for
pub record Active (s : Station) : Type 0 where
  pub idle : waiting s.wait ≡ false
  pub opened : s.opened ≡ true

pub record Owns (s : Station) (P : Op → Did → Type 0) : Type 0 where
  pub refused : (op : Op) (n : ℕ) → P op (does (Refused n) s [])
  pub begins : waiting s.wait ≡ false → s.opened ≡ false → P Begin (does (Begun (s.num + 1)) (set_opened (set_num s (s.num + 1)) true) [])
  pub reads_own : (a v : ℕ) → a < 256 → Active s → s.wr a ≡ some v → P (Read a) (does (Value v) s [])
  pub reads_again : (a v : ℕ) → a < 256 → Active s → s.wr a ≡ none → s.rd a ≡ some v → P (Read a) (does (Value v) s [])
  pub reads_here : (a : ℕ) → a < 256 → Active s → s.wr a ≡ none → s.rd a ≡ none → shown s a ≡ true → P (Read a) (read_local a s)
  pub reads_ask : (a : ℕ) → a < 256 → Active s → s.wr a ≡ none → s.rd a ≡ none → shown s a ≡ false → P (Read a) (read_ask a s)
  pub writes_here : (p : ℕ) (f : ℕ → Val) → Asks p (of_page p f) → Active s → some_on p (named (of_page p f) s) ≡ false → P (WriteSet p f) (does Written (write_local (of_page p f) s) [])
  pub writes_ask : (p : ℕ) (f : ℕ → Val) → Asks p (of_page p f) → Active s → some_on p (named (of_page p f) s) ≡ true → P (WriteSet p f) (write_ask p (of_page p f) s)
  pub commits : Active s → P Commits (does Waits (set_wait s ForCommit) (Commit (work_of s) ∷ []))
  pub aborts : Active s → P Aborts (close (does (AbortedFor 0) (undo s) (cond (locking s.kind) (Abort s.num ∷ []) [])))
  pub purges : (p : ℕ) → p < 32 → requested s.wait p ≡ false → used_page s p ≡ false → s.cached p ≡ true → kept_whole s p ≡ false → P (Purges p) (does Purged (drop_pages (λ q. eqb q p) s) (Purge p ∷ []))

-- the lock that a page message brings is a locking station's
abbrev pub is_lock : Lock → Bool
is_lock NoLock = false
is_lock ObjectLock = true
is_lock WholeLock = true

-- a 16 is for an object that is written, 17 and 18 are for the page
abbrev pub ForPage : Lock → ℕ → ℕ → (ℕ → Val) → Type 0
ForPage NoLock a p f = has (f a) ≡ true
ForPage ObjectLock a p f = page_of a ≡ p
ForPage WholeLock a p f = page_of a ≡ p

abbrev pub arrived : Lock → ℕ → (ℕ → ℕ) → (ℕ → Bool) → (ℕ → ℕ) → Station → Station
arrived l a v u x s = set_wait (arrive (page_of a) v u x (take_lock l a s)) Idle

pub record Takes (s : Station) (P : Down → Did → Type 0) : Type 0 where
  pub refused : (m : Down) → fits m s ≡ false → P m (does (Refused 6) s [])
  pub old_page : (a t : ℕ) (v : ℕ → ℕ) (u : ℕ → Bool) (x : ℕ → ℕ) → ended s t ≡ true → P (Page NoLock a t v u x) (ignored a v u x s)
  pub page_read : (a t : ℕ) (v : ℕ → ℕ) (u : ℕ → Bool) (x : ℕ → ℕ) → live s t ≡ true → s.wait ≡ ForRead a
      → P (Page NoLock a t v u x) (does (Value ((arrived NoLock a v u x s).copy a)) (record_read a (arrived NoLock a v u x s)) [])
  pub page_write : (l : Lock) (a t : ℕ) (v : ℕ → ℕ) (u : ℕ → Bool) (x : ℕ → ℕ) (p : ℕ) (f : ℕ → Val) → live s t ≡ true → s.wait ≡ ForWrite p f → locking s.kind ≡ is_lock l
      → ForPage l a p f → P (Page l a t v u x) (does Written (write_local f (arrived l a v u x s)) [])
  pub deescalates : (p t : ℕ) → locking s.kind ≡ true → P (Deescalate p t) (on_deescalate p t s)
  pub keeps : (r t : ℕ) (set : ℕ → Bool) → locking s.kind ≡ true → in_use set s ≡ true → P (Callback r t set) (does Nothing (set_kept s (upd s.kept r (KeptCall t set))) (Busy r t ∷ []))
  pub dones : (r t : ℕ) (set : ℕ → Bool) → locking s.kind ≡ true → in_use set s ≡ false → P (Callback r t set) (do_callback r t set (does Nothing s []))
  pub commits : (t n : ℕ) → live s t ≡ true → s.wait ≡ ForCommit → P (Committed t n) (on_committed n s)
  pub aborts : (t c : ℕ) → live s t ≡ true → waiting s.wait ≡ true → P (Aborted t c) (on_aborted c s)
  pub invalid_ends : (d : ℕ → Bool) → locking s.kind ≡ false → in_use d s ≡ true → for_commit s.wait ≡ false → P (Invalidate d) (close (does (AbortedFor 2) (undo (mark d s)) []))
  pub invalid : (d : ℕ → Bool) → locking s.kind ≡ false → (in_use d s && not (for_commit s.wait)) ≡ false → P (Invalidate d) (does Nothing (mark d s) [])

pub record Accepts (i : ℕ) (x : Serving) (P : Up → Serving → Type 0) : Type 0 where
  pub read_waits : (a t : ℕ) → bad_number x.server i t ≡ false → locking (x.server.kind i) ≡ true → P (ReadRequest a t) (join_read i a (notice i t x))
  pub read_now : (a t : ℕ) → bad_number x.server i t ≡ false → locking (x.server.kind i) ≡ false → P (ReadRequest a t) (serve_now i a (notice i t x))
  pub write_waits : (p t : ℕ) (set : ℕ → Bool) → bad_number x.server i t ≡ false → locking (x.server.kind i) ≡ true → P (WriteRequest p t set) (join_write i p set (notice i t x))
  pub commit_now_lem : (w : Work) → bad_number x.server i w.transaction ≡ false → unlocked x.server i w ≡ false → locking (x.server.kind i) ≡ true → P (Commit w) (commit_now i w (notice i w.transaction x))
  pub commit_waits : (w : Work) → bad_number x.server i w.transaction ≡ false → locking (x.server.kind i) ≡ false → P (Commit w) (join_commit i w (notice i w.transaction x))
  pub aborts : (t : ℕ) → bad_number x.server i t ≡ false → locking (x.server.kind i) ≡ true → P (Abort t) (finish i ByMessage (notice i t x))
  pub purges : (p : ℕ) → lock_on x.server i p ≡ false → P (Purge p) (unlist i (λ q. eqb q p) x)
  pub busy : (r t : ℕ) → open_call x.server i r t ≡ true → P (Busy r t) (mark_busy i r x)
  pub busy_late : (r t : ℕ) → open_call x.server i r t ≡ false → P (Busy r t) x
  pub dones : (r t : ℕ) (d : ℕ → Bool) → open_call x.server i r t ≡ true → P (Done r t d) (answered i r (unlist i d x))
  pub done_late : (r t : ℕ) (d : ℕ → Bool) → open_call x.server i r t ≡ false → P (Done r t d) (unlist i d x)
  pub loosens : (p t : ℕ) (set : ℕ → Bool) → open_ask x.server i p t ≡ true → t ≤ x.server.latest i → P (WrittenSet p t set) (loosen i p (heeded x.server i t set) x)
  -- wish 10: a transaction that the server has not met
  pub loosens_new : (p t : ℕ) (set : ℕ → Bool) → open_ask x.server i p t ≡ true → keeps (x.server.kind i) ≡ true → Renews (x.server.kind i) (x.server.latest i) t (x.server.fin i)
      → P (WrittenSet p t set) (loosen i p (heeded (notice i t x).server i t set) (notice i t x))
  pub loosens_late : (p t : ℕ) (set : ℕ → Bool) → open_ask x.server i p t ≡ false → P (WrittenSet p t set) x
