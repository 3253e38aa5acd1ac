-- The moves of station j and its owner, and the callback tokens of requester r there: a callback that is kept or done moves its token,
-- every other move leaves it.
use Rattle.std.specs.Prelude.{◌≡◌, Bool, List, [], ◌∷◌, ◌++◌}
use Rattle.std.proofs.Math.Path.{refl}
use Rattle.std.proofs.Common.{sym}
use Rattle.std.proofs.Math.Bool.{false}
use Prim.Native.Nat.{ℕ}
use Rattle.std.proofs.Math.Dec.{eqb}
use Rattle.sets.specs.Base.{upd, snoc}
use Rattle.sets.specs.Laws.{by_b, by_eq}
use Rattle.sets.proofs.Laws.{eqb_yes, eqb_no}
use Rattle.line.specs.Messages.{locking, Up, ReadRequest, WriteRequest, Commit, Abort, Purge, Busy, Done, WrittenSet, Lock, NoLock, ObjectLock, WholeLock, Down, Callback, Nothing}
use Rattle.line.specs.Station.{Station, Did, does, did_station, set_kept, Kept, NotKept, KeptCall, work_of, drops, mark, drop_pages, record_read, write_local, do_callback, closed, close, undo, read_local, read_ask, write_ask, arrive, take_lock, written_on, loosen, on_deescalate, on_committed, on_aborted, station_step, gives_up, answers_for}
use Rattle.line.specs.Server.{Waiter}
use Rattle.line.specs.Line.{Op, perform}
use Rattle.truth.specs.Clauses.{Callbacks}
use Rattle.truth.specs.Frame.{Owns, arrived, Takes}
use Rattle.truth.proofs.Frame.{append_nil, append_assoc, performs, closes, takes}
use Rattle.truth.proofs.Callbacks.{pop_down, push_up, call_kept, call_done, kept_done}
use Rattle.truth.specs.CallbacksStation.{CallsDid}

-- what no move of a transaction's end or a page's arrival touches
pub undo_kept : (s : Station) (r : ℕ) → (undo s).kept r ≡ s.kept r
unfolding undo mark drop_pages
undo_kept s r = by_b (locking s.kind) (λ e. rw e refl) (λ e. rw e refl)

mark_kept : (d : ℕ → Bool) (s : Station) (r : ℕ) → (mark d s).kept r ≡ s.kept r
unfolding mark
mark_kept d s r = refl

lock_kept : (l : Lock) (a : ℕ) (s : Station) (r : ℕ) → (take_lock l a s).kept r ≡ s.kept r
unfolding take_lock
lock_kept NoLock a s r = refl
lock_kept ObjectLock a s r = refl
lock_kept WholeLock a s r = refl

arrived_kept : (l : Lock) (a : ℕ) (v : ℕ → ℕ) (u : ℕ → Bool) (x : ℕ → ℕ) (s : Station) (r : ℕ) → (arrived l a v u x s).kept r ≡ s.kept r
unfolding arrive
arrived_kept l a v u x s r = lock_kept l a s r

module _ (r L : ℕ) (F : Bool) (q : Waiter) (p : Bool) (U : List Up) (D : List Down) where
  -- nothing sent
  still : (k : Kept) → Callbacks r L F q p k U D → Callbacks r L F q p k (U ++ []) D
  still k h = rw (append_nil U) h

  -- a kept callback is done
  kept_calls : (k t : ℕ) (set : ℕ → Bool) (d : Did) → d.station.kept k ≡ KeptCall t set → CallsDid r L F q p U D d
      → CallsDid r L F q p U D (do_callback k t set (did_station d (set_kept d.station (upd d.station.kept k NotKept))))
  unfolding do_callback mark drop_pages
  kept_calls k t set d e h =
      rw (append_assoc U d.sent (Done k t (drops set (set_kept d.station (upd d.station.kept k NotKept))) ∷ []))
      (by_eq r k
      (λ f.
      let z : d.station.kept r ≡ KeptCall t set = rw (eqb_yes r k f) e in
      let g : Callbacks r L F q p (KeptCall t set) (U ++ d.sent) D = rw z at h in
      rw (f, ← eqb_yes r k f) (kept_done t set _ g))
      (λ f.
      let far : eqb k r ≡ false = by_eq k r (λ z. absurd (eqb_no r k f (sym (eqb_yes k r z)))) (λ z. z) in
      rw f (push_up (Done k t _) (rw far refl) (λ z. absurd (eqb_no k r far z)) h)))

  -- the transaction ends
  close_calls : (d : Did) → CallsDid r L F q p U D d → CallsDid r L F q p U D (close d)
  unfolding closed
  close_calls d h = closes (CallsDid r L F q p U D) kept_calls d h

  module _ (s : Station) (h : Callbacks r L F q p (s.kept r) U D) where
    -- THE OWNER'S MOVES
    owns_calls : Owns s (λ op d. CallsDid r L F q p U D d)
    unfolding read_local record_read read_ask write_local write_ask drop_pages
    owns_calls =
        record {
          refused = λ op n. still (s.kept r) h;
          begins = λ a b. still (s.kept r) h;
          reads_own = λ a v b c e. still (s.kept r) h;
          reads_again = λ a v b c e f. still (s.kept r) h;
          reads_here = λ a b c e f g. still (s.kept r) h;
          reads_ask = λ a b c e f g. push_up (ReadRequest a s.num) refl tt h;
          writes_here = λ p f b c e. still (s.kept r) h;
          writes_ask = λ p f b c e. by_b (locking s.kind) (λ z. rw z (push_up (WriteRequest p s.num _) refl tt h)) (λ z. rw z (push_up (ReadRequest _ s.num) refl tt h));
          commits = λ a. push_up (Commit (work_of s)) refl tt h;
          aborts = λ a. close_calls _ (rw (undo_kept s r) (by_b (locking s.kind) (λ z. rw z (push_up (Abort s.num) refl tt h)) (λ z. rw z (still (s.kept r) h))));
          purges = λ k a b c e n. push_up (Purge k) refl tt h;
        }

    pub owner_calls : (op : Op) → CallsDid r L F q p U D (perform op s)
    owner_calls op = performs s (λ o d. CallsDid r L F q p U D d) owns_calls op

  -- THE STATION'S MOVES: m is taken from the down line
  module _ (s : Station) where
    abbrev Took : Down → Did → Type 0
    Took m d = Callbacks r L F q p (s.kept r) U (m ∷ D) → CallsDid r L F q p U D d

    done_calls : (k t : ℕ) (set : ℕ → Bool) → Took (Callback k t set) (do_callback k t set (does Nothing s []))
    unfolding do_callback mark drop_pages
    done_calls k t set h =
        by_eq r k
        (λ z.
        let g : Callbacks r L F q p (s.kept r) U (Callback r t set ∷ D) = rw (← eqb_yes r k z) at h in
        rw (← eqb_yes r k z) (call_done t set _ g))
        (λ z.
        let far : eqb k r ≡ false = by_eq k r (λ y. absurd (eqb_no r k z (sym (eqb_yes k r y)))) (λ y. y) in
        push_up (Done k t _) (rw far refl) (λ y. absurd (eqb_no k r far y)) (pop_down _ h))

    takes_calls : Takes s Took
    unfolding record_read write_local on_deescalate loosen on_committed on_aborted
    takes_calls =
        record {
          refused = λ m e h. still (s.kept r) (pop_down m h);
          old_page = λ a t v u x e h. still (s.kept r) (pop_down _ h);
          page_read = λ a t v u x e f h. rw (arrived_kept NoLock a v u x s r) (still (s.kept r) (pop_down _ h));
          page_write = λ l a t v u x p y e f g c h. rw (arrived_kept l a v u x s r) (still (s.kept r) (pop_down _ h));
          deescalates = λ k t e h.
              let v : ℕ = answers_for t s in
              let g : Callbacks r L F q p (s.kept r) (snoc U (WrittenSet k v (written_on k v s))) D = push_up (WrittenSet k v (written_on k v s)) refl tt (pop_down _ h) in
              by_b (gives_up k t s) (λ z. rw z g) (λ z. rw z g);
          keeps = λ k t set e f h.
              by_eq r k
              (λ z.
              let g : Callbacks r L F q p (s.kept r) U (Callback r t set ∷ D) = rw (← eqb_yes r k z) at h in
              rw z (push_up (Busy k t) refl tt (call_kept t set g)))
              (λ z. rw z (push_up (Busy k t) refl tt (pop_down _ h)));
          dones = λ k t set e f h. done_calls k t set h;
          commits = λ t n e f h. close_calls _ (still (s.kept r) (pop_down _ h));
          aborts = λ t c e f h. close_calls _ (rw (undo_kept s r) (still (s.kept r) (pop_down _ h)));
          invalid_ends = λ d e f g h. close_calls _ (rw (undo_kept (mark d s) r, mark_kept d s r) (still (s.kept r) (pop_down _ h)));
          invalid = λ d e f h. rw (mark_kept d s r) (still (s.kept r) (pop_down _ h));
        }

    pub station_calls : (m : Down) → Callbacks r L F q p (s.kept r) U (m ∷ D) → CallsDid r L F q p U D (station_step m s)
    station_calls m h = takes s Took takes_calls m h
