-- The moves of a station and its owner, and the clauses on its numbers: a request, a commit and a 4 bear the open transaction's number,
-- which is above all that are under way.
use Rattle.std.specs.Prelude.{◌≡◌, Bool, false, ◌&&◌, cond, List, [], ◌∷◌, ◌++◌}
use Rattle.std.proofs.Math.Path.{refl}
use Rattle.std.proofs.Common.{sym, ap, ◌∙◌, arith}
use Rattle.std.proofs.Math.Bool.{true}
use Rattle.std.proofs.lemmas.Bool.{false≢true}
use Prim.Native.Nat.{ℕ, ◌≤◌, ◌<◌}
use Rattle.sets.specs.Base.{snoc, Val}
use Rattle.sets.specs.Laws.{by_b, by_eq}
use Rattle.sets.proofs.Laws.{eqb_yes, and_r}
use Rattle.line.specs.All.{all_map}
use Rattle.line.specs.Messages.{locking, keeps, Up, ReadRequest, WriteRequest, Commit, Abort, Purge, Busy, Done, WrittenSet, Lock, NoLock, ObjectLock, WholeLock, Down, Deescalate, Callback, Committed, Aborted, Invalidate, Written}
use Rattle.line.specs.Station as S
use Rattle.line.specs.Station.{Station, Did, does, did_station, Kept, NotKept, KeptCall, live, work_of, mark, drop_pages, record_read, write_local, do_callback, closed, close, read_local, read_ask, write_ask, arrive, take_lock, loosen, on_deescalate, on_committed, on_aborted, station_step, lowest_on, of_page, answers_for, gives_up}
use Rattle.line.specs.Server.{Waiter}
use Rattle.line.specs.Line.{Op, perform, is_refused}
use Rattle.truth.specs.Frame.{Active, Owns, arrived, Takes}
use Rattle.truth.proofs.Frame.{append_nil, append_assoc, performs, closes, takes}
use Rattle.truth.specs.Tokens.{both, Before}
use Rattle.truth.proofs.Tokens.{idle_quiet, undo_kind, undo_num}
use Rattle.truth.proofs.CallbacksStation.{undo_kept}
use Rattle.jams.specs.Clauses.{KindUp, numbered, named, Above, AbortOver, Numbers, answer_number}
use Rattle.jams.specs.Numbers.{push_up, plain_up, pop_down, begin, shut, took_end, own_abort, quiet_old, quiet_next, answer_up}

-- a validating station has kept no callback
abbrev pub NoneKept : Station → Type 0
NoneKept s = locking s.kind ≡ false → (r : ℕ) → s.kept r ≡ NotKept

abbrev is_kept : Kept → Bool
is_kept NotKept = false
is_kept (KeptCall t set) = true

-- .. so whoever has kept one is locking
keeper_locks : (s : Station) (r t : ℕ) (set : ℕ → Bool) → s.kept r ≡ KeptCall t set → NoneKept s → locking s.kind ≡ true
keeper_locks s r t set e n = by_b (locking s.kind) (λ l. l) (λ l. absurd (false≢true (ap is_kept (sym (n l r) ∙ e))))

-- the station did d, from up line U
abbrev pub NumbersDid : ℕ → Bool → List Up → List Down → Did → Type 0
NumbersDid latest fin U D d = Numbers d.station.kind d.station.num d.station.opened latest fin (U ++ d.sent) D × NoneKept d.station

module _ (latest : ℕ) (fin : Bool) (U : List Up) (D : List Down) where
  -- the transaction is over; each kept callback sends a 7
  close_numbers : (d : Did) → NumbersDid latest fin U D (did_station d (closed d.station)) → NumbersDid latest fin U D (close d)
  unfolding do_callback drop_pages mark
  close_numbers d h =
      closes (NumbersDid latest fin U D)
      (λ r t set e f g. (
        rw (append_assoc U e.sent (Done r t _ ∷ [])) (plain_up (Done r t _) refl refl (keeper_locks e.station r t set f g.1) g.0),
        λ l k. by_eq k r (λ z. rw z refl) (λ z. rw z (g.1 l k)),
      ))
      d h

  -- THE OWNER'S MOVES
  module _ (skind : ℕ) (q : Waiter) (s : Station) (k : Before skind q latest fin U D s) (h : Numbers s.kind s.num s.opened latest fin U D) (n : NoneKept s) where
    -- nothing is sent
    silent : Numbers s.kind s.num s.opened latest fin (U ++ []) D
    silent = rw (append_nil U) h

    -- a 1, 2 or 3 of the open transaction
    asks : (m : Up) → Active s → named m ≡ s.num → answer_number m ≡ 0 → KindUp s.kind m → AbortOver s.num s.opened m → Numbers s.kind s.num s.opened latest fin (snoc U m) D
    asks m c e z' g o =
        push_up m g
        (all_map (λ x. numbered x ≡ true → named x < s.num) (λ x. numbered x ≡ true → Above (named x) m) (λ x a f z. rw e (a f)) U (quiet_old (idle_quiet c.idle k) c.opened h))
        (λ z. rw e (quiet_next (idle_quiet c.idle k) c.opened h)) o (λ z. omega (arith, e)) (rw z' (omega arith)) (λ b. absurd (omega (arith, z', b))) h

    -- the owner's abort
    ends : Active s → Numbers s.kind s.num false latest fin (U ++ cond (locking s.kind) (Abort s.num ∷ []) []) D
    ends c =
        by_b (locking s.kind)
        (λ l. rw l (own_abort l (quiet_old (idle_quiet c.idle k) c.opened h) (quiet_next (idle_quiet c.idle k) c.opened h) h))
        (λ l. rw (l, append_nil U) (shut l h))

    -- a 2, or of a validating station a 1
    asks_either : (p : ℕ) (f : ℕ → Val) → Active s → Numbers s.kind s.num s.opened latest fin (U ++ (cond (locking s.kind) (WriteRequest p s.num (S.named f s)) (ReadRequest (lowest_on p (S.named f s)) s.num) ∷ [])) D
    asks_either p f c = by_kind (locking s.kind) refl
      where
        by_kind : (b : Bool) → locking s.kind ≡ b → Numbers s.kind s.num s.opened latest fin (U ++ (cond b (WriteRequest p s.num (S.named f s)) (ReadRequest (lowest_on p (S.named f s)) s.num) ∷ [])) D
        by_kind true e = asks (WriteRequest p s.num (S.named f s)) c refl refl e tt
        by_kind false e = asks (ReadRequest (lowest_on p (S.named f s)) s.num) c refl refl tt tt

    owns_numbers : Owns s (λ op d. NumbersDid latest fin U D d)
    unfolding read_local record_read read_ask write_local write_ask drop_pages closed
    owns_numbers =
        record {
          refused = λ op c. (silent, n);
          begins = λ e o. (rw (append_nil U) (begin s.wait o k.S1b_down h), n);
          reads_own = λ a v b c e. (silent, n);
          reads_again = λ a v b c e f. (silent, n);
          reads_here = λ a b c e f g. (silent, n);
          reads_ask = λ a b c e f g. (asks (ReadRequest a s.num) c refl refl tt tt, n);
          writes_here = λ p f b c e. (silent, n);
          writes_ask = λ p f b c e. (asks_either p (of_page p f) c, n);
          commits = λ c. (asks (Commit (work_of s)) c refl refl tt tt, n);
          aborts = λ c. close_numbers _ (rw (undo_kind s, undo_num s) (ends c), λ l r. rw (undo_kept s r) (n (rw (undo_kind s) at l) r));
          purges = λ p b r e f g. (plain_up (Purge p) refl refl tt h, n);
        }

    pub owner_numbers : (op : Op) → NumbersDid latest fin U D (perform op s)
    owner_numbers op = performs s (λ o d. NumbersDid latest fin U D d) owns_numbers op

  -- THE STATION'S MOVES: m is taken from the down line
  module _ (s : Station) where
    abbrev Took : Down → Did → Type 0
    Took m d = Numbers s.kind s.num s.opened latest fin U (m ∷ D) → NoneKept s → is_refused d.answer ≡ false → NumbersDid latest fin U D d

    -- a page for a write, with its lock or without
    page_numbers : (l : Lock) (a : ℕ) (v : ℕ → ℕ) (u : ℕ → Bool) (x : ℕ → ℕ) (y : ℕ → Val) → Numbers s.kind s.num s.opened latest fin U D → NoneKept s → NumbersDid latest fin U D (does Written (write_local y (arrived l a v u x s)) [])
    unfolding write_local arrive take_lock
    page_numbers NoLock a v u x y h n = (rw (append_nil U) h, n)
    page_numbers ObjectLock a v u x y h n = (rw (append_nil U) h, n)
    page_numbers WholeLock a v u x y h n = (rw (append_nil U) h, n)

    -- an 8 names the open transaction, or what the 19 names
    answers_known : (t : ℕ) → t ≤ latest → latest ≤ s.num → (answers_for t s ≤ s.num) × (latest < answers_for t s → (s.opened ≡ true) × (answers_for t s ≡ s.num))
    answers_known t b c =
        by_b (keeps s.kind && s.opened)
        (λ e. rw e (omega arith, λ z. (and_r (keeps s.kind) _ e, refl)))
        (λ e. rw e (omega arith, λ z. absurd (omega arith)))

    takes_numbers : Takes s Took
    unfolding record_read arrive take_lock on_deescalate loosen do_callback drop_pages mark closed on_committed on_aborted
    takes_numbers =
        record {
          refused = λ m e h n f. both true refl f;
          old_page = λ a t v u x e h n f. (rw (append_nil U) (pop_down _ refl h), n);
          page_read = λ a t v u x e g h n f. (rw (append_nil U) (pop_down _ refl h), n);
          page_write = λ l a t v u x p y e g o c h n f. page_numbers l a v u x y (pop_down _ refl h) n;
          deescalates = λ p t l h n f.
              let v : ℕ = answers_for t s in
              let k : (v ≤ s.num) × (latest < v → (s.opened ≡ true) × (v ≡ s.num)) = answers_known t h.K6a.0 h.N6 in
              let g = answer_up (WrittenSet p v _) refl l k.0 k.1 (pop_down (Deescalate p t) refl h) in
              by_b (gives_up p t s) (λ z. rw z (g, n)) (λ z. rw z (g, n));
          keeps = λ r t set l e h n f. (plain_up (Busy r t) refl refl l (pop_down (Callback r t set) refl h), λ z. both (locking s.kind) l z);
          dones = λ r t set l e h n f. (plain_up (Done r t _) refl refl l (pop_down (Callback r t set) refl h), n);
          commits = λ t c e g h n f. close_numbers _ (rw (append_nil U) (took_end (Committed t c) refl (sym h.N8.0.0 ∙ eqb_yes t s.num (and_r s.opened _ e)) h), n);
          aborts = λ t c e g h n f. close_numbers _ (rw (append_nil U, undo_kind s, undo_num s) (took_end (Aborted t c) refl (sym h.N8.0.0 ∙ eqb_yes t s.num (and_r s.opened _ e)) h), λ l r. rw (undo_kept s r) (n (rw (undo_kind s) at l) r));
          invalid_ends = λ d l e g h n f.
              close_numbers _ (
                rw (append_nil U, undo_kind (mark d s), undo_num (mark d s)) (shut l (pop_down (Invalidate d) refl h)),
                λ z r. rw (undo_kept (mark d s) r) (n l r),
              );
          invalid = λ d l e h n f. (rw (append_nil U) (pop_down (Invalidate d) refl h), n);
        }

    pub station_numbers : (m : Down) → Numbers s.kind s.num s.opened latest fin U (m ∷ D) → NoneKept s → is_refused (station_step m s).answer ≡ false → NumbersDid latest fin U D (station_step m s)
    station_numbers m h n f = takes s Took takes_numbers m h n f
