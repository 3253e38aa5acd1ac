-- Values of one station, all addresses: what its owner's operations and its deliveries do to them.
use Rattle.std.specs.Prelude.{◌≡◌, Bool, true, false, not, ◌&&◌, cond, List, ◌∷◌, ℕ, ◌<◌}
use Rattle.std.proofs.Math.Path.{refl, ap}
use Rattle.std.proofs.Common.{sym, ◌∙◌}
use Rattle.std.proofs.lemmas.Bool.{false≢true}
use Rattle.std.proofs.Math.Dec.{eqb}
use Rattle.sets.specs.Base.{none, has, val_or, Val, some}
use Rattle.sets.specs.Laws.{by_b, by_eq}
use Rattle.sets.proofs.Laws.{eqb_same, eqb_yes}
use Rattle.line.specs.Messages.{page_of, locking, Lock, NoLock, ObjectLock, WholeLock, Down, Page, Deescalate, Callback, Aborted, Invalidate}
use Rattle.line.specs.Station.{Station, Did, Wait, Idle, ForRead, ForWrite, ForCommit, waiting, for_commit, drop_pages, mark, drops, record_read, write_local, do_callback, closed, close, undo, read_local, read_ask, write_ask, arrive, take_lock, on_deescalate, loosen, on_committed, on_aborted, station_step, or_val, of_page, gives_up}
use Rattle.line.specs.Line.{Op, perform, is_refused}
use Rattle.line.specs.Truth.{count}
use Rattle.truth.specs.Clauses.{is_committed, A2}
use Rattle.truth.specs.Frame.{Owns, Takes, arrived}
use Rattle.truth.proofs.Frame.{performs, closes, takes}
use Rattle.truth.specs.ValuesEvents.{Less}
use Rattle.truth.proofs.ValuesEvents.{less_drop, less_mark, A2_less, A2_none, values_less, values_undone, values_committed, values_taken, values_arrived, values_read, values_written, no_commit}
use Rattle.truth.specs.ValuesStation.{Known, Own}

module _ (val : ℕ → ℕ) (D : List Down) where
  -- pages go
  dropped_own : (d : ℕ → Bool) (s : Station) → Own val s D → Own val (drop_pages d s) D
  unfolding drop_pages
  dropped_own d s h =
      let l : (a : ℕ) → Less (s.cached (page_of a)) (s.unav a) (s.copy a) (not (d (page_of a)) && s.cached (page_of a)) (not (d (page_of a)) && s.unav a) (cond (d (page_of a)) 0 (s.copy a)) =
      λ a. less_drop (d (page_of a)) (s.cached (page_of a)) (s.unav a) (s.copy a) in
      record { written = λ a b. A2_less (l a) (h.written a b); values = λ a b k. values_less (l a) (h.values a b k) }

  marked_own : (set : ℕ → Bool) (s : Station) → Own val s D → Own val (mark set s) D
  unfolding mark
  marked_own set s h =
      record { written = h.written; values = λ a b k. values_less (less_mark (s.cached (page_of a)) (s.unav a) (set a) (s.copy a)) (h.values a b k) }

  -- 20, done at once or when the transaction ends
  called_own : (r t : ℕ) (set : ℕ → Bool) (d : Did) → Own val d.station D → Own val (do_callback r t set d).station D
  unfolding do_callback
  called_own r t set d h = dropped_own (drops set d.station) (mark set d.station) (marked_own set d.station h)

  closes_own : (d : Did) → Own val (closed d.station) D → Own val (close d).station D
  closes_own d h = closes (λ e. Own val e.station D) (λ r t set e q k. called_own r t set _ (record { written = k.written; values = k.values })) d h

  -- ends: by an abort
  undone_own : (s : Station) → Own val s D → Own val (closed (undo s)) D
  unfolding closed undo mark drop_pages
  undone_own s h =
      by_b (locking s.kind)
      (λ q. rw q (record { written = λ a b. A2_none; values = λ a b k. values_undone (s.cached (page_of a)) (s.unav a) (s.wr a) (h.values a b q) }))
      (λ q. rw q (record { written = λ a b. A2_none; values = λ a b k. absurd (false≢true (sym q ∙ k)) }))

  aborted_own : (d : Did) (s : Station) → d.station ≡ undo s → Own val s D → Own val (close d).station D
  aborted_own d s e h = closes_own d (rw e (undone_own s h))

  -- a read
  read_own : (a : ℕ) (s : Station) → (a < 256 → locking s.kind ≡ true → s.copy a ≡ val a) → Own val s D → Own val (record_read a s) D
  unfolding record_read
  read_own a s q h =
      record {
        written = h.written;
        values = λ b c k.
            by_eq b a
            (λ e.
            let f : b ≡ a = eqb_yes b a e in
            let z : s.copy a ≡ val b = q (rw (← f) c) k ∙ ap val (sym f) in
            rw e (values_read (s.copy a) z (h.values b c k)))
            (λ e. rw e (h.values b c k));
      }

  -- a write
  write_own : (f : ℕ → Val) (s : Station) → count is_committed D ≡ 0 → Own val s D → Own val (write_local f s) D
  unfolding write_local
  write_own f s o h = record { written = λ b c. stands b c (f b); values = λ b c k. values_written (f b) o (h.values b c k) }
    where
      stands : (b : ℕ) → b < 256 → (v : Val) → A2 (s.cached (page_of b)) (val_or v (s.copy b)) (or_val v (s.wr b))
      stands b c none = h.written b c
      stands b c (some y) = λ v p q. ap (λ r. val_or r 0) p

module _ (val : ℕ → ℕ) where
  -- a page comes
  arrived_own : (k : Lock) (a t : ℕ) (v : ℕ → ℕ) (u : ℕ → Bool) (x : ℕ → ℕ) (s : Station) (D : List Down) → count is_committed D ≡ 0 → Own val s (Page k a t v u x ∷ D) → Own val (arrive (page_of a) v u x s) D
  unfolding arrive
  arrived_own k a t v u x s D o h =
      record {
        written = λ b c.
            by_eq (page_of b) (page_of a)
            (λ e. rw e (λ w p q. ap (λ r. val_or r (x b)) p))
            (λ e. rw e (h.written b c));
        values = λ b c l.
            by_eq (page_of b) (page_of a)
            (λ e. rw e (values_arrived (s.wr b) e o (h.values b c l)))
            (λ e. rw e (values_taken (Page k a t v u x) refl (h.values b c l)));
      }

  locked_own : (k : Lock) (a : ℕ) (s : Station) (D : List Down) → Own val s D → Own val (take_lock k a s) D
  unfolding take_lock
  locked_own NoLock a s D h = h
  locked_own ObjectLock a s D h = record { written = h.written; values = h.values }
  locked_own WholeLock a s D h = record { written = h.written; values = h.values }

  taken_own : (m : Down) (s : Station) (D : List Down) → is_committed m ≡ false → Own val s (m ∷ D) → Own val s D
  taken_own m s D o h = record { written = h.written; values = λ a b k. values_taken m o (h.values a b k) }

-- the owner's operations
module _ (val : ℕ → ℕ) (s : Station) (D : List Down) (n : Known s D) (h : Own val s D) where
  -- no 21 is on its way while nothing is waited for
  idle_commit : (w : Wait) → waiting w ≡ false → for_commit w ≡ false
  idle_commit Idle e = refl
  idle_commit (ForRead a) e = refl
  idle_commit (ForWrite p f) e = refl
  idle_commit ForCommit e = e

  unsettled : for_commit s.wait ≡ false → count is_committed D ≡ 0
  unsettled e = no_commit s.kind s.num s.opened s.wait e D n.fit

  owns_values : Owns s (λ op d. Own val d.station D)
  unfolding read_local read_ask write_ask
  owns_values =
      record {
        refused = λ op k. h;
        begins = λ i o. record { written = h.written; values = h.values };
        reads_own = λ a v b c e. h;
        reads_again = λ a v b c e f. h;
        reads_here = λ a b c e f q. read_own val D a s (λ x k. (h.values a b k).A q (ap has e)) h;
        reads_ask = λ a b c e f q. record { written = h.written; values = h.values };
        writes_here = λ p f b c q. write_own val D (of_page p f) s (unsettled (idle_commit s.wait c.idle)) h;
        writes_ask = λ p f b c q. record { written = h.written; values = h.values };
        commits = λ c. record { written = h.written; values = h.values };
        aborts = λ c. aborted_own val D _ s refl h;
        purges = λ p b r u c k. dropped_own val D (λ q. eqb q p) s h;
      }

  pub owner_own : (op : Op) → Own val (perform op s).station D
  owner_own op = performs s (λ op d. Own val d.station D) owns_values op

-- deliveries: the head of the line is taken
module _ (val : ℕ → ℕ) (s : Station) (D : List Down) where
  -- .. unless the station refuses it
  abbrev After : Down → Did → Type 0
  After m d = Known s (m ∷ D) → Own val s (m ∷ D) → is_refused d.answer ≡ false → Own val d.station D

  -- no 21 behind a page that is waited for
  none_behind_lem : (m : Down) (w : Wait) → s.wait ≡ w → for_commit w ≡ false → Known s (m ∷ D) → count is_committed D ≡ 0
  none_behind_lem m w q e n = no_commit s.kind s.num s.opened s.wait (rw q e) D n.fit.1

  -- the page as it stands in the station, the wait over
  page_own : (k : Lock) (a t : ℕ) (v : ℕ → ℕ) (u : ℕ → Bool) (x : ℕ → ℕ) → count is_committed D ≡ 0 → Own val s (Page k a t v u x ∷ D) → Own val (arrived k a v u x s) D
  page_own k a t v u x o h =
      let g = arrived_own val k a t v u x (take_lock k a s) D o (locked_own val k a s (Page k a t v u x ∷ D) h) in
      record { written = g.written; values = g.values }

  -- the value read is the server's
  read_true : (a t : ℕ) (v : ℕ → ℕ) (u : ℕ → Bool) (x : ℕ → ℕ) → s.wait ≡ ForRead a → Known s (Page NoLock a t v u x ∷ D) → Own val s (Page NoLock a t v u x ∷ D)
      → a < 256 → locking s.kind ≡ true → (arrived NoLock a v u x s).copy a ≡ val a
  unfolding arrive take_lock
  read_true a t v u x q n h b k =
      let l = h.values a b k in
      rw (eqb_same (page_of a)) (ap (λ r. val_or r (x a)) (n.unwritten a q) ∙ l.B.0 (eqb_same (page_of a)) l.B2.0)

  page_kind : (a : ℕ) (v : ℕ → ℕ) (u : ℕ → Bool) (x : ℕ → ℕ) → (arrived NoLock a v u x s).kind ≡ s.kind
  unfolding arrive take_lock
  page_kind a v u x = refl

  takes_values : Takes s After
  unfolding on_deescalate loosen on_committed on_aborted closed
  takes_values =
      record {
        refused = λ m e n h r. absurd (false≢true (sym r));
        old_page = λ a t v u x e n h r. taken_own val (Page NoLock a t v u x) s D refl h;
        page_read = λ a t v u x e q n h r.
            read_own val D a (arrived NoLock a v u x s) (λ b k. read_true a t v u x q n h b (rw (page_kind a v u x) at k)) (page_own NoLock a t v u x (none_behind_lem (Page NoLock a t v u x) (ForRead a) q refl n) h);
        page_write = λ k a t v u x p y e q o c n h r.
            let z = none_behind_lem (Page k a t v u x) (ForWrite p y) q refl n in
            write_own val D y (arrived k a v u x s) z (page_own k a t v u x z h);
        deescalates = λ p t e n h r.
            let g = taken_own val (Deescalate p t) s D refl h in
            by_b (gives_up p t s) (λ q. rw q (record { written = g.written; values = g.values })) (λ q. rw q g);
        keeps = λ c t set e q n h r. let g = taken_own val (Callback c t set) s D refl h in record { written = g.written; values = g.values };
        dones = λ c t set e q n h r. called_own val D c t set _ (taken_own val (Callback c t set) s D refl h);
        commits = λ t c e q n h r. closes_own val D _ (record { written = λ a b. A2_none; values = λ a b k. values_committed (h.values a b k) });
        aborts = λ t c e q n h r. aborted_own val D _ s refl (taken_own val (Aborted t c) s D refl h);
        invalid_ends = λ d e q f n h r. aborted_own val D _ (mark d s) refl (marked_own val D d s (taken_own val (Invalidate d) s D refl h));
        invalid = λ d e q n h r. marked_own val D d s (taken_own val (Invalidate d) s D refl h);
      }

  pub delivery_own : (m : Down) → Known s (m ∷ D) → Own val s (m ∷ D) → is_refused (station_step m s).answer ≡ false → Own val (station_step m s).station D
  delivery_own m = takes s After takes_values m
