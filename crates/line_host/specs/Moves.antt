-- What the stations' moves do to an open transaction and to a commit that is out: who opens, who asks, and what ends it.
use Rattle.std.specs.Prelude.{ℕ, ◌≡◌, refl, Bool, true, false, not, ◌&&◌, []}
use Rattle.std.proofs.Common.{sym, ap, ◌∙◌}
use Rattle.std.proofs.lemmas.Bool.{false≢true}
use Rattle.sets.specs.Laws.{by_b}
use Rattle.line.specs.Messages.{Lock, NoLock, ObjectLock, WholeLock, Down, Page, Deescalate, Callback, Committed, Aborted, Invalidate, Answer, Begun, Waits, CommittedAs, AbortedFor}
use Rattle.line.specs.Station.{Station, Did, Wait, Idle, ForRead, ForWrite, ForCommit, waiting, for_commit, gives_up, drop_pages, record_read, write_local, mark, do_callback, read_local, read_ask, write_ask, arrive, take_lock, loosen, on_deescalate, on_committed, on_aborted, station_step}
use Rattle.line.specs.Line.{Op, Commits, perform, is_refused}
use Rattle.truth.specs.Frame.{Owns, Takes}
use Rattle.truth.proofs.Frame.{performs, takes}
use Rattle.truth.specs.GoalsOwner.{Ended}
use Rattle.truth.proofs.GoalsOwner.{close_ends, undo_num}

-- a move that opens nothing and asks for no commit; E is known where it ends the transaction
pub record Moved (s : Station) (z : Station) (E : Type 0) : Type 0 where
  pub open_before : z.opened ≡ true → (s.opened ≡ true) × (z.num ≡ s.num)
  pub out_before : for_commit z.wait ≡ true → (for_commit s.wait ≡ true) × (z.num ≡ s.num)
  pub ends : (s.opened && not z.opened) ≡ true → E

pub not_both : (b : Bool) → (b && not b) ≡ false
not_both true = refl
not_both false = refl

-- open or not as before
stays : {s z : Station} {E : Type 0} → z.opened ≡ s.opened → z.num ≡ s.num → (for_commit z.wait ≡ true → for_commit s.wait ≡ true) → Moved s z E
stays {s} o n w =
    record {
      open_before = λ e. (sym o ∙ e, n);
      out_before = λ e. (w e, n);
      ends = λ e. absurd (false≢true (sym (not_both s.opened) ∙ rw o at e));
    }

-- a transaction that is over
over : {s : Station} {E : Type 0} {n : ℕ} {a : Answer} {d : Did} → Ended n a d → E → Moved s d.station E
over h k =
    record {
      open_before = λ e. absurd (false≢true (sym h.shut ∙ e));
      out_before = λ e. absurd (false≢true (sym (ap for_commit h.idle) ∙ e));
      ends = λ e. k;
    }

-- THE OWNER

pub data OwnerMove (s : Station) (op : Op) (d : Did) : Type 0 where
  stays_so : Moved s d.station (d.answer ≡ AbortedFor 0) → OwnerMove s op d
  begins : d.answer ≡ Begun d.station.num → d.station.opened ≡ true → for_commit d.station.wait ≡ false → OwnerMove s op d
  asks : op ≡ Commits → d.answer ≡ Waits → s.opened ≡ true → d.station.opened ≡ true → d.station.num ≡ s.num → OwnerMove s op d

idle_no : (w : Wait) → waiting w ≡ false → for_commit w ≡ false
idle_no Idle e = refl
idle_no (ForRead a) e = refl
idle_no (ForWrite p f) e = refl
idle_no ForCommit e = e

no_commit : {G : Type 0} → false ≡ true → G
no_commit e = absurd (false≢true e)

owns : (s : Station) → Owns s (OwnerMove s)
unfolding record_read read_local read_ask write_local write_ask drop_pages
owns s =
    record {
      refused = λ op n. stays_so (stays refl refl (λ e. e));
      begins = λ w c. begins refl refl (idle_no s.wait w);
      reads_own = λ a v r k q. stays_so (stays refl refl (λ e. e));
      reads_again = λ a v r k q f. stays_so (stays refl refl (λ e. e));
      reads_here = λ a r k q f u. stays_so (stays refl refl (λ e. e));
      reads_ask = λ a r k q f u. stays_so (stays refl refl no_commit);
      writes_here = λ p f r k q. stays_so (stays refl refl (λ e. e));
      writes_ask = λ p f r k q. stays_so (stays refl refl no_commit);
      commits = λ k. asks refl refl k.opened k.opened refl;
      aborts = λ k. let e = close_ends s.num (AbortedFor 0) _ (undo_num s) refl in stays_so (over e e.says);
      purges = λ p r q f u w. stays_so (stays refl refl (λ e. e));
    }

pub owner_moves : (op : Op) (s : Station) → OwnerMove s op (perform op s)
owner_moves op s = performs s (OwnerMove s) (owns s) op

-- THE STATION

abbrev pub invalidates : Down → Bool
invalidates (Page l a t v u x) = false
invalidates (Deescalate p t) = false
invalidates (Callback r t set) = false
invalidates (Committed t n) = false
invalidates (Aborted t c) = false
invalidates (Invalidate d) = true

-- what ends a transaction is not refused, and a 23 that does is told as cause 2
abbrev pub StationMove : Station → Down → Did → Type 0
StationMove s m d = Moved s d.station ((is_refused d.answer ≡ false) × (invalidates m ≡ true → d.answer ≡ AbortedFor 2))

lock_open : (l : Lock) (a : ℕ) (s : Station) → (take_lock l a s).opened ≡ s.opened
unfolding take_lock
lock_open NoLock a s = refl
lock_open ObjectLock a s = refl
lock_open WholeLock a s = refl

lock_num : (l : Lock) (a : ℕ) (s : Station) → (take_lock l a s).num ≡ s.num
unfolding take_lock
lock_num NoLock a s = refl
lock_num ObjectLock a s = refl
lock_num WholeLock a s = refl

station_takes : (s : Station) → Takes s (StationMove s)
unfolding record_read write_local arrive on_deescalate loosen do_callback drop_pages mark on_committed on_aborted
station_takes s =
    record {
      refused = λ m f. stays refl refl (λ e. e);
      old_page = λ a t v u x f. stays refl refl (λ e. e);
      page_read = λ a t v u x f p. stays (lock_open NoLock a s) (lock_num NoLock a s) no_commit;
      page_write = λ m a t v u x p y f w o c. stays (lock_open m a s) (lock_num m a s) no_commit;
      deescalates =
          λ p t f.
          by_b (gives_up p t s) (λ c. rw c (stays refl refl (λ e. e))) (λ c. rw c (stays refl refl (λ e. e)));
      keeps = λ r t set f u. stays refl refl (λ e. e);
      dones = λ r t set f u. stays refl refl (λ e. e);
      commits = λ t n f p. let e = close_ends s.num (CommittedAs n) _ refl refl in over e (ap is_refused e.says, no_commit);
      aborts = λ t c f p. let e = close_ends s.num (AbortedFor c) _ (undo_num s) refl in over e (ap is_refused e.says, no_commit);
      invalid_ends = λ d f u c. let e = close_ends s.num (AbortedFor 2) _ (undo_num (mark d s)) refl in over e (ap is_refused e.says, λ k. e.says);
      invalid = λ d f u. stays refl refl (λ e. e);
    }

pub station_moves : (m : Down) (s : Station) → StationMove s m (station_step m s)
station_moves m s = takes s (StationMove s) (station_takes s) m
