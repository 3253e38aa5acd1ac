-- The moves of station i and its owner, and de-escalation of page p there. A 19 becomes an 8; what is written meanwhile is locked by
-- itself, or the page is held whole and no 8 is under way.
use Rattle.std.specs.Prelude.{◌≡◌, ◌&&◌, ◌||◌, cond, List, [], ◌∷◌, ◌++◌, ◌⊎◌}
use Rattle.std.proofs.Math.Path.{refl, sym}
use Rattle.std.proofs.Common.{◌∙◌, arith}
use Rattle.std.proofs.Math.Bool.{Bool, true, false}
use Rattle.std.proofs.lemmas.Bool.{false≢true}
use Rattle.std.proofs.Math.Logic.{inl, inr}
use Prim.Native.Nat.{ℕ, suc, ◌≤◌}
use Rattle.std.proofs.Math.Dec.{eqb}
use Rattle.sets.specs.Base.{upd, Val, none, has}
use Rattle.sets.specs.Laws.{by_b, by_eq, or_yes}
use Rattle.sets.proofs.Laws.{eqb_same, eqb_yes, and_r, or_no, any_some, not_yes}
use Rattle.line.specs.All.{all_map}
use Rattle.line.specs.Messages.{page_of, address, locking, keeps, Up, ReadRequest, WriteRequest, Commit, Abort, Purge, Busy, Done, WrittenSet, Lock, NoLock, ObjectLock, WholeLock, Down, Page, Deescalate, Callback, Committed, Aborted, Invalidate, Written}
use Rattle.line.specs.Station as St
use Rattle.line.specs.Station.{Station, Did, does, did_station, set_kept, NotKept, KeptCall, work_of, live, may_write, drops, mark, drop_pages, record_read, write_local, do_callback, closed, close, read_local, read_ask, write_ask, arrive, take_lock, written_on, loosen, on_deescalate, on_committed, on_aborted, station_step, ForWrite, for_write, some_on, lowest_on, named, of_page, answers_for}
use Rattle.line.specs.Server.{Server}
use Rattle.line.specs.Line.{Op, perform}
use Rattle.line.specs.Truth.{count}
use Rattle.truth.specs.Clauses.{stale, token_down, set_of, Tokens}
use Rattle.truth.proofs.Tokens.{idle_quiet, of_page_lem, undo_kind}
use Rattle.truth.specs.Frame.{Active, Owns, is_lock, arrived, Takes, ForPage}
use Rattle.truth.proofs.Frame.{none_count, count_less, append_nil, append_assoc, performs, closes, takes}
use Rattle.truth.specs.GoalsLists.{either}
use Rattle.jams.specs.Clauses.{KindUp, Numbers, Locks, abort_of, grants_whole, gives_up, Deescalation, Sets}
use Rattle.jams.specs.Deescalation.{pop_down, push_up, answers, opens, ends, writes, holds}
use Rattle.jams.specs.LocksStation.{may_write_lem}
use Rattle.jams.specs.SetsLayer.{may_locks}

-- no 8 from a validating station
set_kind : (kind p t : ℕ) → locking kind ≡ false → (m : Up) → KindUp kind m → set_of p t m ≡ false
set_kind kind p t e (ReadRequest a u) k = refl
set_kind kind p t e (WriteRequest p' u set) k = refl
set_kind kind p t e (Commit w) k = refl
set_kind kind p t e (Abort u) k = refl
set_kind kind p t e (Purge q) k = refl
set_kind kind p t e (Busy r u) k = refl
set_kind kind p t e (Done r u d) k = refl
set_kind kind p t e (WrittenSet q u set) k = absurd (false≢true (sym e ∙ k))

-- an 18 is a token
pub whole_token : (old : ℕ → Bool) (p : ℕ) (m : Down) → grants_whole p m ≡ true → token_down old m ≡ true
whole_token old p (Page NoLock a t v u x) e = absurd (false≢true e)
whole_token old p (Page ObjectLock a t v u x) e = refl
whole_token old p (Page WholeLock a t v u x) e = refl
whole_token old p (Deescalate q t) e = absurd (false≢true e)
whole_token old p (Callback r t set) e = absurd (false≢true e)
whole_token old p (Committed t n) e = refl
whole_token old p (Aborted t c) e = refl
whole_token old p (Invalidate d) e = absurd (false≢true e)

-- what else is known of the station and its lines
pub record Known (S : Server) (i : ℕ) (s : Station) (U : List Up) (D : List Down) : Type 0 where
  pub numbers : Numbers s.kind s.num s.opened (S.latest i) (S.fin i) U D
  pub locks : Locks i s.kind s.num s.opened s.wr s.ol s.wl (for_write s.wait) S.ol S.wl (S.latest i) U D
  pub sets : Sets s.wait s.ol (S.queue i) U
  pub tokens : Tokens (S.kind i) s.kind s.num s.opened s.rd s.wr s.wait (S.queue i) (S.latest i) (S.fin i) U D

abbrev pub DeAt : Server → ℕ → ℕ → Station → List Up → List Down → Type 0
DeAt S i p s U D =
    Deescalation i p s.kind s.num s.opened s.wr (s.wl p) S.ol (S.wl p) (S.asked p) (S.queue i).want (S.queue i).req (S.latest i) (S.fin i) U D

-- the station did d, from up line U
abbrev pub DeDid : Server → ℕ → ℕ → List Up → List Down → Did → Type 0
DeDid S i p U D d = DeAt S i p d.station (U ++ d.sent) D

module _ (S : Server) (i p : ℕ) (s : Station) (U : List Up) (D : List Down) (k : Known S i s U D) where
  -- no 8 of a validating station is under way
  unset : locking s.kind ≡ false → 1 ≤ count (set_of p (S.latest i)) U → ⊥
  unset e n =
      let z = none_count (set_of p (S.latest i)) U (all_map (KindUp s.kind) (λ m. set_of p (S.latest i) m ≡ false) (set_kind s.kind p (S.latest i) e) U k.numbers.N1_up) in
      omega arith

  -- who asks for a lock on a page that it holds gave it up before [K1b, S1b]
  given_up : (pg : ℕ) (f : ℕ → Val) → Active s → locking s.kind ≡ true → keeps s.kind ≡ false → some_on pg (named f s) ≡ true → eqb p pg ≡ true → S.wl p ≡ suc i → 1 ≤ count (gives_up p (S.latest i)) U
  given_up pg f c e v m q w =
      let L : ℕ = S.latest i in
      let r = any_some 8 (λ o. named f s (address pg o)) m in
      let a : ℕ = address pg r.0 in
      let y : may_write a s ≡ false = not_yes (may_write a s) (and_r (has (f a)) _ r.2) in
      let z : (s.ol a || s.wl (page_of a)) ≡ false = sym (may_locks s a e) ∙ y in
      let free : s.wl p ≡ false = rw (eqb_yes p pg q, ← of_page_lem pg r.0 r.1) (or_no (s.ol a) (s.wl (page_of a)) z).1 in
      let by4 : count (abort_of L) U ≤ count (gives_up p L) U = count_less (abort_of L) (gives_up p L) (λ n t. by_b (set_of p L n) (λ x. rw x refl) (λ x. rw (x, t) refl)) U in
      let by8 : count (set_of p L) U ≤ count (gives_up p L) U = count_less (set_of p L) (gives_up p L) (λ n t. rw t refl) U in
      let old : ℕ → Bool = stale s.kind s.num s.opened in
      let none18 : count (token_down old) D ≡ 0 = (idle_quiet c.idle k.tokens).no_down in
      let no18 : count (grants_whole p) D ≤ count (token_down old) D = count_less (grants_whole p) (token_down old) (whole_token old p) D in
      either (k.locks.K1b v p w) (λ x. omega arith)
      (λ x.
      either x (λ y. either y.2 (λ t. absurd (false≢true (sym free ∙ t))) (λ t. omega arith))
      (λ y. absurd (omega arith)))

  -- what may be written here was written before, unless the page is held whole or the station validates [K3, K6d, N1]
  written_here : (a : ℕ) → may_write a s ≡ true → DeAt S i p s U D → S.fin i ≡ false → 1 ≤ count (set_of p (S.latest i)) U → page_of a ≡ p → (has (s.wr a) ≡ true) ⊎ (S.ol a ≡ suc i)
  written_here a m h f n q =
      by_b (locking s.kind)
      (λ e.
      or_yes (s.ol a) (s.wl (page_of a)) (rw e at m)
      (λ t. inl (k.locks.K3a a t))
      (λ t. absurd (false≢true (sym (h.K6d_up f n).0 ∙ (rw q at t)))))
      (λ e. absurd (unset e n))

  -- who has a page whole at the server's latest transaction has it open [K3, S6, K9]
  whole_live : (t : ℕ) → locking s.kind ≡ true → keeps s.kind ≡ false → s.wl p ≡ true → t ≡ S.latest i → live s t ≡ true
  whole_live t e v w q =
      let u = any_some 8 (λ o. has (s.wr (address p o))) (k.locks.K3b v p w) in
      let a : ℕ = address p u.0 in
      let x : has (s.wr a) ≡ true = u.2 in
      let o : s.opened ≡ true =
      by_b s.opened (λ z. z) (λ z. let y : s.wr a ≡ none = ((k.tokens.S6 z).0 a).1 in absurd (false≢true (rw y at x))) in
      let n : S.latest i ≡ s.num = either (k.locks.K9 e o a x) (λ y. y) (λ y. absurd (false≢true (sym v ∙ y.0))) in
      rw (o, q, n, eqb_same s.num) refl

module _ (S : Server) (i p : ℕ) (U : List Up) (D : List Down) where
  -- nothing sent
  still : (s : Station) → DeAt S i p s U D → DeAt S i p s (U ++ []) D
  still s h = rw (append_nil U) h

  -- a kept callback is done
  kept_de : (r t : ℕ) (set : ℕ → Bool) (d : Did) → d.station.kept r ≡ KeptCall t set → DeDid S i p U D d
      → DeDid S i p U D (do_callback r t set (did_station d (set_kept d.station (upd d.station.kept r NotKept))))
  unfolding do_callback mark drop_pages
  kept_de r t set d e h =
      rw (append_assoc U d.sent (Done r t (drops set (set_kept d.station (upd d.station.kept r NotKept))) ∷ []))
      (push_up (Done r t _) refl tt (λ q. absurd (false≢true q)) h)

  -- the transaction ends
  close_de : (d : Did) → keeps d.station.kind ≡ false → {kind num : ℕ} {o : Bool} {wr : ℕ → Val} {wl : Bool} → Deescalation i p kind num o wr wl S.ol (S.wl p) (S.asked p) (S.queue i).want (S.queue i).req (S.latest i) (S.fin i) (U ++ d.sent) D → DeDid S i p U D (close d)
  unfolding closed
  close_de d v h = closes (DeDid S i p U D) kept_de d (rw v (ends h d.station.kind d.station.num))

  -- THE OWNER'S MOVES
  module _ (s : Station) (v : keeps s.kind ≡ false) (k : Known S i s U D) (h : DeAt S i p s U D) where
    asked : (q : ℕ) (f : ℕ → Val) → Active s → some_on q (named f s) ≡ true → DeDid S i p U D (write_ask q f s)
    unfolding write_ask
    asked q f c e = by_kind (locking s.kind) refl
      where
        by_kind : (b : Bool) → locking s.kind ≡ b → DeAt S i p s (U ++ (cond b (WriteRequest q s.num (named f s)) (ReadRequest (lowest_on q (named f s)) s.num) ∷ [])) D
        by_kind true z = push_up (WriteRequest q s.num (named f s)) refl tt (λ g w. given_up S i p s U D k q f c z v e g w) h
        by_kind false z = push_up (ReadRequest (lowest_on q (named f s)) s.num) refl tt (λ g. absurd (false≢true g)) h

    owns_de : Owns s (λ op d. DeDid S i p U D d)
    unfolding read_local record_read read_ask write_local write_ask drop_pages
    owns_de =
        record {
          refused = λ op n. still s h;
          begins = λ a b. rw (append_nil U) (opens h k.numbers.N6);
          reads_own = λ a v b c e. still s h;
          reads_again = λ a v b c e f. still s h;
          reads_here = λ a b c e f g. still s h;
          reads_ask = λ a b c e f g. push_up (ReadRequest a s.num) refl tt (λ q. absurd (false≢true q)) h;
          writes_here = λ q f b c e. rw (append_nil U) (writes h (of_page q f) (λ x n a w. written_here S i p s U D k a (may_write_lem s q (of_page q f) b e a w) h x n));
          writes_ask = λ q f b c e. asked q (of_page q f) c e;
          commits = λ a. push_up (Commit (work_of s)) refl tt (λ q. absurd (false≢true q)) h;
          aborts = λ a.
              by_b (locking s.kind)
              (λ z. rw z (close_de _ (rw (undo_kind s) v) (push_up (Abort s.num) refl tt (λ q. absurd (false≢true q)) h)))
              (λ z. rw z (close_de _ (rw (undo_kind s) v) (still s h)));
          purges = λ q a b c e n. push_up (Purge q) refl tt (λ q. absurd (false≢true q)) h;
        }

    pub owner_de : (op : Op) → DeDid S i p U D (perform op s)
    owner_de op = performs s (λ o d. DeDid S i p U D d) owns_de op

  -- THE STATION'S MOVES: m is taken from the down line
  module _ (s : Station) (v : keeps s.kind ≡ false) where
    abbrev Took : Down → Did → Type 0
    Took m d = Known S i s U (m ∷ D) → DeAt S i p s U (m ∷ D) → DeDid S i p U D d

    -- a page brings the lock under which the owner's write is done [K7, K6d, N1]
    wrote : (l : Lock) (a t : ℕ) (v : ℕ → ℕ) (u : ℕ → Bool) (x : ℕ → ℕ) (pg : ℕ) (y : ℕ → Val) → s.wait ≡ ForWrite pg y → locking s.kind ≡ is_lock l → ForPage l a pg y → Took (Page l a t v u x) (does Written (write_local y (arrived l a v u x s)) [])
    unfolding write_local arrive take_lock
    wrote NoLock a t v u x pg y w e c k h = rw (append_nil U) (writes (pop_down _ h) y (λ f n b g q. absurd (unset S i p s U _ k e n)))
    wrote ObjectLock a t v u x pg y w e c k h = rw (append_nil U) (writes (pop_down _ h) y (λ f n b g q. either (k.locks.K7.0 b (rw w g)) (λ z. inr z) (λ z. inl (k.locks.K3a b z))))
    wrote WholeLock a t v u x pg y w e c k h =
        let far : S.fin i ≡ false → 1 ≤ count (set_of p (S.latest i)) U → eqb p (page_of a) ≡ false =
        λ f n. by_b (eqb p (page_of a)) (λ z. absurd (omega (arith, rw z at (h.K6d_up f n).1))) (λ z. z) in
        let page : (b : ℕ) → has (y b) ≡ true → page_of b ≡ page_of a = λ b z. (k.sets.K11 pg (rw w (eqb_same pg))).1 b (rw w z) ∙ sym c in
        let g = writes (pop_down _ h) y (λ f n b z q. absurd (false≢true (sym (far f n) ∙ (rw (← page b z, q) (eqb_same p))))) in
        rw (append_nil U) (holds g (upd s.wl (page_of a) true p) (λ f n. rw (far f n) (h.K6d_up f n).0))

    -- 19
    asked_de : (q t : ℕ) → locking s.kind ≡ true → Took (Deescalate q t) (on_deescalate q t s)
    unfolding on_deescalate loosen
    asked_de q t e k h =
        let set : ℕ → Bool = written_on q t s in
        let same : answers_for t s ≡ t = rw v refl in
        let full : q ≡ p → t ≡ S.latest i → s.opened ≡ true → S.latest i ≡ s.num → (a : ℕ) → page_of a ≡ p → has (s.wr a) ≡ true → set a ≡ true =
        λ x y o n a g w. rw (o, y, n, eqb_same s.num, g, x, eqb_same p, w) refl in
        let only : (a : ℕ) → set a ≡ true → has (s.wr a) ≡ true = λ a g. and_r (live s t && eqb (page_of a) q) (has (s.wr a)) g in
        rw same
        (by_b (St.gives_up q t s)
        (λ z. rw z (answers q t set (upd s.wl q false p) full only (λ g. by_eq p q (λ y. rw y refl) (λ y. rw y g)) (λ x y. rw (x, eqb_same p) refl) h))
        (λ z.
        rw z
        (answers q t set (s.wl p) full only (λ g. g)
        (λ x y. by_b (s.wl p) (λ w. absurd (false≢true (sym z ∙ (rw (v, whole_live S i p s U _ k t e v w y, x, w) refl)))) (λ w. w))
        h)))

    takes_de : Takes s Took
    unfolding record_read arrive take_lock do_callback mark drop_pages on_committed on_aborted
    takes_de =
        record {
          refused = λ m e k h. still s (pop_down m h);
          old_page = λ a t v u x e k h. still s (pop_down _ h);
          page_read = λ a t v u x e f k h. still s (pop_down _ h);
          page_write = λ l a t v u x pg y e f g c k h. wrote l a t v u x pg y f g c k h;
          deescalates = λ q t e k h. asked_de q t e k h;
          keeps = λ r t set e f k h. push_up (Busy r t) refl tt (λ q. absurd (false≢true q)) (pop_down _ h);
          dones = λ r t set e f k h. push_up (Done r t _) refl tt (λ q. absurd (false≢true q)) (pop_down _ h);
          commits = λ t n e f k h. close_de _ v (still s (pop_down _ h));
          aborts = λ t c e f k h. close_de _ (rw (undo_kind s) v) (still s (pop_down _ h));
          invalid_ends = λ d e f g k h. close_de _ (rw (undo_kind (mark d s)) v) (still s (pop_down _ h));
          invalid = λ d e f k h. still s (pop_down _ h);
        }

    pub station_de : (m : Down) → Known S i s U (m ∷ D) → DeAt S i p s U (m ∷ D) → DeDid S i p U D (station_step m s)
    station_de m k h = takes s Took takes_de m k h
