-- Validating station: what its owner's operations and its step on a down message do to its clauses.
use Rattle.std.specs.Prelude.{◌≡◌, refl, Bool, ◌&&◌, ℕ}
use Rattle.std.proofs.Math.Path.{sym}
use Rattle.std.proofs.Common.{ap, ◌∙◌}
use Rattle.std.proofs.Math.Bool.{true, false, cond}
use Rattle.std.proofs.lemmas.Bool.{false≢true}
use mathlib.Core.List.{List, [], ◌∷◌, ◌++◌}
use Rattle.std.proofs.Math.Dec.{eqb}
use Rattle.sets.specs.Base.{upd, none, some, has, Val}
use Rattle.sets.specs.Laws.{by_b}
use Rattle.sets.proofs.Laws.{eqb_same, and_l}
use Rattle.line.specs.Messages.{page_of, locking, Up, ReadRequest, Commit, Purge, Lock, NoLock, ObjectLock, WholeLock, Down, Page, Committed, Aborted, Invalidate, Rec, AbortedFor, CommittedAs, WriteRequest}
use Rattle.line.specs.Station.{Station, Did, does, did_station, set_cver, set_kept, set_wait, Idle, ForRead, ForWrite, for_read, NotKept, KeptCall, used_at, wrote_page, work_of, mark, drop_pages, record_read, write_local, do_callback, closed, close, undo, read_local, read_ask, write_ask, arrive, take_lock, on_deescalate, on_committed, on_aborted, loosen, written_on, station_step, named, lowest_on, of_page, gives_up, answers_for}
use Rattle.line.specs.Server.{Waiter}
use Rattle.line.specs.Line.{Op, perform, is_refused}
use Rattle.truth.specs.Clauses.{TrueReads}
use Rattle.truth.specs.Frame.{Owns, is_lock, Takes}
use Rattle.truth.proofs.Frame.{performs, closes, takes}
use Rattle.truth.specs.ValidatedHist.{NumberBelow, WrittenBy}
use Rattle.truth.proofs.ValidatedEvents.{shrunk, shrunk_ends, sent_up, read_here, written_here, taken_down}
use Rattle.truth.proofs.ValidatedPages.{page_came, number_came}
use Rattle.truth.proofs.ValidatedStation.{AtStation, dropped_less, left_unwritten, ends}

-- A station's kind stays

called_kind : (k : ℕ) (r t : ℕ) (set : ℕ → Bool) (d : Did) → d.station.kept r ≡ KeptCall t set → d.station.kind ≡ k → (do_callback r t set (did_station d (set_kept d.station (upd d.station.kept r NotKept)))).station.kind ≡ k
unfolding do_callback drop_pages mark
called_kind k r t set d e h = h

close_kind : (k : ℕ) (d : Did) → d.station.kind ≡ k → (close d).station.kind ≡ k
unfolding closed
close_kind k d h = closes (λ e. e.station.kind ≡ k) (called_kind k) d h

undo_kind : (s : Station) → (undo s).kind ≡ s.kind
unfolding undo mark drop_pages
undo_kind s = by_b (locking s.kind) (λ e. rw e refl) (λ e. rw e refl)

loosen_kind : (p : ℕ) (set : ℕ → Bool) (b : Bool) (s : Station) → (cond b (loosen p set s) s).kind ≡ s.kind
unfolding loosen
loosen_kind p set true s = refl
loosen_kind p set false s = refl

arrived_kind : (l : Lock) (a : ℕ) (s : Station) → (take_lock l a s).kind ≡ s.kind
unfolding take_lock
arrived_kind NoLock a s = refl
arrived_kind ObjectLock a s = refl
arrived_kind WholeLock a s = refl

pub perform_kind : (op : Op) (s : Station) → (perform op s).station.kind ≡ s.kind
unfolding read_local record_read read_ask write_local write_ask drop_pages
perform_kind op s =
    performs s (λ op d. d.station.kind ≡ s.kind)
    (record {
      refused = λ op n. refl;
      begins = λ i o. refl;
      reads_own = λ a v b c e. refl;
      reads_again = λ a v b c e g. refl;
      reads_here = λ a b c e g k. refl;
      reads_ask = λ a b c e g k. refl;
      writes_here = λ p v b c e. refl;
      writes_ask = λ p v b c e. refl;
      commits = λ c. refl;
      aborts = λ c. close_kind s.kind _ (undo_kind s);
      purges = λ p b r u c k. refl;
    })
    op

pub step_kind : (m : Down) (s : Station) → (station_step m s).station.kind ≡ s.kind
unfolding record_read write_local drop_pages arrive on_deescalate do_callback mark on_committed on_aborted
step_kind m s =
    takes s (λ m d. d.station.kind ≡ s.kind)
    (record {
      refused = λ m e. refl;
      old_page = λ a t v u x e. refl;
      page_read = λ a t v u x e g. arrived_kind NoLock a s;
      page_write = λ l a t v u x p y e g k c. arrived_kind l a s;
      deescalates = λ p t e. loosen_kind p (written_on p (answers_for t s) s) (gives_up p t s) s;
      keeps = λ r t set e g. refl;
      dones = λ r t set e g. refl;
      commits = λ t n e g. close_kind s.kind _ refl;
      aborts = λ t c e g. close_kind s.kind _ (undo_kind s);
      invalid_ends = λ d e g k. close_kind s.kind _ (undo_kind (mark d s));
      invalid = λ d e g. refl;
    })
    m

-- what was read is used
read_used : (s : Station) (a : ℕ) → has (s.rd a) ≡ true → used_at s a ≡ true
read_used s a e = rw e refl

-- THE OWNER'S OPERATIONS
module _ (A : List Rec) (last : ℕ) (s : Station) (q : Waiter) (U : List Up) (D : List Down) (f : locking s.kind ≡ false) (h : AtStation A last s q U D) where
  work_reads : TrueReads A last (work_of s)
  work_reads a v r = rw (f, ap has r) (h.V5 a v r)

  owner_ends : AtStation A last (close (does (AbortedFor 0) (undo s) [])).station q (U ++ (close (does (AbortedFor 0) (undo s) [])).sent) D
  unfolding undo drop_pages
  owner_ends =
      ends A last q U D (does (AbortedFor 0) (undo s) [])
      (rw f (sent_up (shrunk_ends h (dropped_less (wrote_page s) s) (left_unwritten s.wr s.cached)) [] tt))

  -- a validating station sends a 1
  asked : (p : ℕ) (v : ℕ → Val) → AtStation A last (write_ask p v s).station q (U ++ (write_ask p v s).sent) D
  unfolding write_ask
  asked p v = by_kind (locking s.kind) f
    where
      by_kind : (k : Bool) → k ≡ false → AtStation A last (set_wait s (ForWrite p v)) q (U ++ (cond k (WriteRequest p s.num (named v s)) (ReadRequest (lowest_on p (named v s)) s.num) ∷ [])) D
      by_kind true e = absurd (false≢true (sym e))
      by_kind false e = sent_up h (ReadRequest (lowest_on p (named v s)) s.num ∷ []) (tt, tt)

  owns : Owns s (λ op d. AtStation A last d.station q (U ++ d.sent) D)
  unfolding read_local record_read read_ask write_local write_ask drop_pages
  owns =
      record {
        refused = λ op n. sent_up h [] tt;
        begins = λ i o. sent_up h [] tt;
        reads_own = λ a v b c e. sent_up h [] tt;
        reads_again = λ a v b c e g. sent_up h [] tt;
        reads_here = λ a b c e g k. sent_up (read_here h a (and_l (s.cached (page_of a)) _ k) e) [] tt;
        reads_ask = λ a b c e g k. sent_up h (ReadRequest a s.num ∷ []) (tt, tt);
        writes_here = λ p v b c e. sent_up (written_here h (of_page p v) (used_at s) (read_used s)) [] tt;
        writes_ask = λ p v b c e. asked p (of_page p v);
        commits = λ c. sent_up h (Commit (work_of s) ∷ []) (work_reads, tt);
        aborts = λ c. rw f owner_ends;
        purges = λ p b r u c k. sent_up (shrunk h (dropped_less (λ o. eqb o p) s)) (Purge p ∷ []) (tt, tt);
      }

  pub owner_valid : (op : Op) → AtStation A last (perform op s).station q (U ++ (perform op s).sent) D
  owner_valid op = performs s (λ op d. AtStation A last d.station q (U ++ d.sent) D) owns op

-- THE STATION'S STEP on the head m of its down line; D is the rest. S5: what is waited for is not yet written. A2: an own write stands in the copy
module _ (A : List Rec) (last : ℕ) (s : Station) (q : Waiter) (U : List Up) (D : List Down) (f : locking s.kind ≡ false)
    (S5 : (a : ℕ) → for_read s.wait a ≡ true → (s.rd a ≡ none) × (s.wr a ≡ none))
    (A2 : (a v : ℕ) → s.wr a ≡ some v → s.cached (page_of a) ≡ true → s.copy a ≡ v) where
  -- what is known of the head
  pub record Head (m : Down) : Type 0 where
    pub valid : AtStation A last s q U (m ∷ D)
    pub number : NumberBelow last m
    pub written : WrittenBy A s.wr m

  abbrev Taken : Down → Did → Type 0
  Taken m d = is_refused d.answer ≡ false → Head m → AtStation A last d.station q (U ++ d.sent) D

  unlocked : locking s.kind ≡ true → ⊥
  unlocked e = false≢true (sym f ∙ e)

  read_came : (a t : ℕ) (v : ℕ → ℕ) (u : ℕ → Bool) (x : ℕ → ℕ) → s.wait ≡ ForRead a → Head (Page NoLock a t v u x)
      → AtStation A last (record_read a (set_wait (arrive (page_of a) v u x (take_lock NoLock a s)) Idle)) q (U ++ []) D
  unfolding record_read arrive take_lock
  read_came a t v u x g k = sent_up (read_here (page_came NoLock a t v u x k.valid) a (rw (eqb_same (page_of a)) refl) (S5 a (rw g (eqb_same a))).1) [] tt

  write_came : (l : Lock) (a t : ℕ) (v : ℕ → ℕ) (u : ℕ → Bool) (x : ℕ → ℕ) (y : ℕ → Val) → locking s.kind ≡ is_lock l → Head (Page l a t v u x)
      → AtStation A last (write_local y (set_wait (arrive (page_of a) v u x (take_lock l a s)) Idle)) q (U ++ []) D
  unfolding write_local arrive take_lock
  write_came NoLock a t v u x y o k = sent_up (written_here (page_came NoLock a t v u x k.valid) y (used_at s) (read_used s)) [] tt
  write_came ObjectLock a t v u x y o k = absurd (unlocked o)
  write_came WholeLock a t v u x y o k = absurd (unlocked o)

  number_came_lem : (t n : ℕ) → Head (Committed t n) → AtStation A last (on_committed n s).station q (U ++ (on_committed n s).sent) D
  unfolding on_committed
  number_came_lem t n k =
      ends A last q U D (does (CommittedAs n) (set_cver s (λ a. cond (s.cached (page_of a) && has (s.wr a)) n (s.cver a))) [])
      (sent_up (number_came t n k.valid k.number (λ a v e c. A2 a v e c ∙ sym (k.written a v e))) [] tt)

  -- ends by an abort of a station that differs in what is unavailable at most
  abort_came : (m : Down) (c : ℕ) → Head m → AtStation A last (close (does (AbortedFor c) (undo s) [])).station q (U ++ (close (does (AbortedFor c) (undo s) [])).sent) D
  unfolding undo drop_pages
  abort_came m c k =
      ends A last q U D (does (AbortedFor c) (undo s) [])
      (rw f (sent_up (shrunk_ends (taken_down k.valid) (dropped_less (wrote_page s) s) (left_unwritten s.wr s.cached)) [] tt))

  invalid_came : (d : ℕ → Bool) → Head (Invalidate d) → AtStation A last (close (does (AbortedFor 2) (undo (mark d s)) [])).station q (U ++ (close (does (AbortedFor 2) (undo (mark d s)) [])).sent) D
  unfolding undo drop_pages mark
  invalid_came d k =
      ends A last q U D (does (AbortedFor 2) (undo (mark d s)) [])
      (rw f (sent_up (shrunk_ends (taken_down k.valid) (dropped_less (wrote_page s) s) (left_unwritten s.wr s.cached)) [] tt))

  step_takes : Takes s Taken
  unfolding on_aborted mark
  step_takes =
      record {
        refused = λ m e g k. absurd (false≢true (sym g));
        old_page = λ a t v u x e g k. sent_up (taken_down k.valid) [] tt;
        page_read = λ a t v u x e w g k. read_came a t v u x w k;
        page_write = λ l a t v u x p y e w o c g k. write_came l a t v u x y o k;
        deescalates = λ p t e g k. absurd (unlocked e);
        keeps = λ r t set e o g k. absurd (unlocked e);
        dones = λ r t set e o g k. absurd (unlocked e);
        commits = λ t n e w g k. number_came_lem t n k;
        aborts = λ t c e w g k. abort_came (Aborted t c) c k;
        invalid_ends = λ d e o w g k. invalid_came d k;
        invalid = λ d e o g k. sent_up (taken_down k.valid) [] tt;
      }

  pub step_valid : (m : Down) → is_refused (station_step m s).answer ≡ false → Head m → AtStation A last (station_step m s).station q (U ++ (station_step m s).sent) D
  step_valid m = takes s Taken step_takes m
