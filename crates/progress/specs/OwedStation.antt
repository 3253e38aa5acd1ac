-- The moves of station j and its owner, and what it owes requester r.
use Rattle.std.specs.Prelude.{◌≡◌, Bool, false, ◌&&◌, ℕ, zero, suc, ◌+◌, ◌<◌}
use Rattle.std.proofs.Math.Path.{refl}
use Rattle.std.proofs.Common.{sym, arith}
use Rattle.std.proofs.Math.Bool.{true}
use Rattle.std.proofs.lemmas.Bool.{false≢true}
use mathlib.Core.List.{List, [], ◌∷◌, ◌++◌}
use Rattle.sets.specs.Base.{upd, none}
use Rattle.sets.specs.Laws.{by_b, by_eq}
use Rattle.sets.proofs.Laws.{eqb_same, eqb_yes, eqb_no, and_r, any_some}
use Rattle.line.specs.Messages.{locking, Up, Busy, Done, WrittenSet, Lock, NoLock, ObjectLock, WholeLock, Down, Page, Deescalate, Callback, Committed, Aborted, Invalidate, Nothing}
use Rattle.line.specs.Station.{answers_for, Station, Did, does, did_station, set_kept, Kept, NotKept, KeptCall, used_at, in_use, drops, mark, drop_pages, record_read, write_local, do_callback, do_kept, do_all_kept, closed, close, read_local, read_ask, write_ask, arrive, take_lock, written_on, loosen, on_deescalate, on_committed, on_aborted, station_step, gives_up}
use Rattle.line.specs.Server.{Waiter}
use Rattle.line.specs.Line.{Op, perform, is_refused}
use Rattle.line.specs.Bounds.{kept_stays, undo_kept}
use Rattle.truth.specs.Clauses.{CallBelow}
use Rattle.truth.specs.Frame.{Owns, arrived, Takes}
use Rattle.truth.proofs.Frame.{append_assoc, performs, closes, takes}
use Rattle.progress.specs.Clauses.{Owed}
use Rattle.progress.specs.Owed.{from, push_up, pop_down, call_kept, call_done, kept_done, opens, shut}

-- who closes keeps nothing: requesters below 8
kept_gone : (r : ℕ) (k : Kept) (d : Did) → d.station.kept r ≡ k → (do_kept r k d).station.kept r ≡ NotKept
unfolding do_kept do_callback mark drop_pages
kept_gone r NotKept d e = e
kept_gone r (KeptCall t set) d e = rw (eqb_same r) refl

all_gone : (n k : ℕ) (d : Did) (r : ℕ) → r < k + n → (r < k → d.station.kept r ≡ NotKept) → (do_all_kept n k d).station.kept r ≡ NotKept
unfolding do_all_kept
all_gone zero k d r b h = h (omega arith)
all_gone (suc n) k d r b h =
    all_gone n (suc k) (do_kept k (d.station.kept k) d) r (omega arith)
    (λ c.
    by_eq r k (λ e. rw (eqb_yes r k e) (kept_gone k (d.station.kept k) d refl))
    (λ e. kept_stays r k (d.station.kept k) d (h (omega (arith, eqb_no r k e)))))

close_gone : (d : Did) (r : ℕ) → r < 8 → (close d).station.kept r ≡ NotKept
unfolding close
close_gone d r b = all_gone 8 0 (did_station d (closed d.station)) r (omega arith) (λ c. absurd (omega arith))

-- what is in use is in use by an open transaction
used_open : (set : ℕ → Bool) (s : Station) → (s.opened ≡ false → (a : ℕ) → (s.rd a ≡ none) × (s.wr a ≡ none)) → in_use set s ≡ true → s.opened ≡ true
used_open set s h e =
    by_b s.opened (λ o. o)
    (λ o.
    let z = any_some 256 (λ a. set a && used_at s a) e in
    let u : used_at s z.0 ≡ true = and_r (set z.0) _ z.2 in
    let n = h o z.0 in
    absurd (false≢true (rw (n.0, n.1) at u)))

-- the station did d, from up line U
abbrev pub OwedDid : ℕ → ℕ → ℕ → Waiter → List Up → List Down → Did → Type 0
OwedDid r j t q U D d = Owed r j t q d.station.kind d.station.opened (d.station.kept r) (U ++ d.sent) D

module _ (r j t : ℕ) (q : Waiter) (U : List Up) (D : List Down) (b : r < 8) where
  abbrev Of : Station → List Up → List Down → Type 0
  Of s L E = Owed r j t q s.kind s.opened (s.kept r) L E

  -- ENDS

  abbrev Closing : ℕ → Did → Type 0
  Closing kind d = Owed r j t q kind true (d.station.kept r) (U ++ d.sent) D

  kept_owed : (kind k u : ℕ) (set : ℕ → Bool) (d : Did) → d.station.kept k ≡ KeptCall u set → Closing kind d
      → Closing kind (do_callback k u set (did_station d (set_kept d.station (upd d.station.kept k NotKept))))
  unfolding do_callback mark drop_pages
  kept_owed kind k u set d e h =
      rw (append_assoc U d.sent (Done k u (drops set (set_kept d.station (upd d.station.kept k NotKept))) ∷ []))
      (by_eq r k
      (λ f.
      let z : d.station.kept r ≡ KeptCall u set = rw (eqb_yes r k f) e in
      let g : Owed r j t q kind true (KeptCall u set) (U ++ d.sent) D = rw z at h in
      rw (f, ← eqb_yes r k f) (kept_done u set _ g))
      (λ f. rw f (push_up (Done k u _ ∷ []) h)))

  -- all that was kept is answered, so the station may be closed
  close_owed : (kind : ℕ) (d : Did) → Closing kind d → OwedDid r j t q U D (close d)
  unfolding closed
  close_owed kind d h =
      let z : Owed r j t q kind true NotKept (U ++ (close d).sent) D = rw (close_gone d r b) at (closes (Closing kind) (kept_owed kind) d h) in
      rw (close_gone d r b) (shut (close d).station.kind (close d).station.opened z)

  -- a page arrives
  landed : (l : Lock) (a : ℕ) (v : ℕ → ℕ) (u : ℕ → Bool) (x : ℕ → ℕ) (s : Station) (L : List Up) (E : List Down) → Of s L E → Of (arrived l a v u x s) L E
  unfolding arrive take_lock
  landed NoLock a v u x s L E h = h
  landed ObjectLock a v u x s L E h = h
  landed WholeLock a v u x s L E h = h

  module _ (s : Station) where
    -- THE OWNER
    owns_owed : Of s U D → Owns s (λ op d. OwedDid r j t q U D d)
    unfolding read_local record_read read_ask write_local write_ask drop_pages
    owns_owed h =
        record {
          refused = λ op n. push_up [] h;
          begins = λ e o. opens (push_up [] h);
          reads_own = λ a v c e f. push_up [] h;
          reads_again = λ a v c e f g. push_up [] h;
          reads_here = λ a c e f g k. push_up [] h;
          reads_ask = λ a c e f g k. push_up _ h;
          writes_here = λ p v c e f. push_up [] h;
          writes_ask = λ p v c e f. push_up _ h;
          commits = λ c. push_up _ h;
          aborts = λ c. close_owed s.kind _ (rw (undo_kept s) (opens (push_up _ h)));
          purges = λ p c e f g k. push_up _ h;
        }

    -- THE STATION: m is taken from the down line
    module _ (unused : s.opened ≡ false → (a : ℕ) → (s.rd a ≡ none) × (s.wr a ≡ none)) where
      abbrev Took : Down → Did → Type 0
      Took m d = is_refused d.answer ≡ false → CallBelow r t m → Of s U (m ∷ D) → OwedDid r j t q U D d

      -- no 20
      past : (m : Down) (l : List Up) → from r m ≡ false → Of s U (m ∷ D) → Of s (U ++ l) D
      past m l e h = push_up l (pop_down m e h)

      done_owed : (k u : ℕ) (set : ℕ → Bool) → Took (Callback k u set) (do_callback k u set (does Nothing s []))
      unfolding do_callback mark drop_pages
      done_owed k u set n c h =
          by_eq r k
          (λ z. let g : Of s U (Callback r u set ∷ D) = rw (← eqb_yes r k z) at h in rw (← eqb_yes r k z) (call_done u set _ g))
          (λ z. past (Callback k u set) _ (by_eq k r (λ y. absurd (eqb_no r k z (sym (eqb_yes k r y)))) (λ y. y)) h)

      keep_owed : (k u : ℕ) (set : ℕ → Bool) → locking s.kind ≡ true → in_use set s ≡ true → Took (Callback k u set) (does Nothing (set_kept s (upd s.kept k (KeptCall u set))) (Busy k u ∷ []))
      keep_owed k u set l e n c h =
          by_eq r k
          (λ z.
          let g : Of s U (Callback r u set ∷ D) = rw (← eqb_yes r k z) at h in
          rw (z, ← eqb_yes r k z) (call_kept u set (used_open set s unused e) l (c (sym (eqb_yes r k z))) g))
          (λ z. rw z (past (Callback k u set) _ (by_eq k r (λ y. absurd (eqb_no r k z (sym (eqb_yes k r y)))) (λ y. y)) h))

      takes_owed : Takes s Took
      unfolding record_read write_local on_deescalate loosen mark on_committed on_aborted
      takes_owed =
          record {
            refused = λ m e n c h. absurd (false≢true (sym n));
            old_page = λ a u v x y e n c h. past (Page NoLock a u v x y) [] refl h;
            page_read = λ a u v x y e f n c h. landed NoLock a v x y s (U ++ []) D (past (Page NoLock a u v x y) [] refl h);
            page_write = λ l a u v x y q z e f g i n c h. landed l a v x y s (U ++ []) D (past (Page l a u v x y) [] refl h);
            deescalates = λ p u e n c h.
                let g = past (Deescalate p u) (WrittenSet p (answers_for u s) (written_on p (answers_for u s) s) ∷ []) refl h in
                by_b (gives_up p u s) (λ z. rw z g) (λ z. rw z g);
            keeps = λ k u set e f. keep_owed k u set e f;
            dones = λ k u set e f. done_owed k u set;
            commits = λ u v e f n c h. close_owed s.kind _ (opens (past (Committed u v) [] refl h));
            aborts = λ u v e f n c h. close_owed s.kind _ (rw (undo_kept s) (opens (past (Aborted u v) [] refl h)));
            invalid_ends = λ d e f g n c h. close_owed s.kind _ (rw (undo_kept (mark d s)) (opens (past (Invalidate d) [] refl h)));
            invalid = λ d e f n c h. past (Invalidate d) [] refl h;
          }

  pub owner_owed : (op : Op) (s : Station) → Of s U D → OwedDid r j t q U D (perform op s)
  owner_owed op s h = performs s (λ o d. OwedDid r j t q U D d) (owns_owed s h) op

  pub station_owed : (m : Down) (s : Station) → (s.opened ≡ false → (a : ℕ) → (s.rd a ≡ none) × (s.wr a ≡ none)) → is_refused (station_step m s).answer ≡ false → CallBelow r t m → Of s U (m ∷ D)
      → OwedDid r j t q U D (station_step m s)
  station_owed m s unused n c h = takes s (Took s unused) (takes_owed s unused) m n c h
