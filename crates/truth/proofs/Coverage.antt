-- Layer 2: the server lists a locking station for every page that it caches or is about to get; a drop on its way up finds neither copy nor
-- request. After every list of calls; uses layer 1.
use Rattle.std.specs.Prelude.{◌≡◌, Bool, true, ◌&&◌, List, [], ◌∷◌, ◌++◌}
use Rattle.std.proofs.Math.Path.{refl}
use Rattle.std.proofs.Common.{sym, ap, ◌∙◌, arith}
use Rattle.std.proofs.Math.Bool.{false, not, cond}
use Rattle.std.proofs.lemmas.Bool.{false≢true}
use Prim.Native.Nat.{ℕ, zero, suc, ◌%◌, ◌≤◌}
use Rattle.std.proofs.Math.Dec.{eqb}
use Rattle.sets.specs.Base.{upd, snoc, nowhere, Val, none, has, any}
use Rattle.sets.specs.Laws.{by_b, by_eq, or_yes}
use Rattle.sets.proofs.Laws.{eqb_same, eqb_yes, and_l, and_r, or_no, not_yes, any_no}
use Rattle.line.specs.All.{All, all_map}
use Rattle.line.specs.Messages.{page_of, address, locking, last_number, Work, Up, ReadRequest, WriteRequest, Commit, Abort, Purge, Busy, Done, WrittenSet, Lock, NoLock, ObjectLock, WholeLock, Down, Page, Deescalate, Callback, Committed, Aborted, Invalidate, AbortedFor}
use Rattle.line.specs.Station.{Station, Did, does, set_kept, Wait, Idle, ForRead, ForWrite, ForCommit, for_read, for_write, requested, used_at, used_page, drops, drop_pages, mark, record_read, write_local, do_callback, closed, close, undo, read_local, read_ask, write_ask, arrive, take_lock, on_deescalate, on_committed, on_aborted, station_step, work_of, writes_to, gives_up, answers_for, kept_whole}
use Rattle.line.specs.Station as S
use Rattle.line.specs.Server.{ByCommit, ByCause, Server, Serving, send, on_server, set_queue, set_asked, set_ol, set_wl, values_on, unavailable, Waiter, waiter_pend, waiter_called, Want, NoWant, WantRead, WantWrite, WantCommit, unexpected, notice, finish, join, leave, send_page, abort, write, archive, install, serve_now, join_read, join_write, join_commit, commit_now, unlist, mark_busy, answered, loosen, accept, ask, serve_read, concerned, call, grant_page, grant_object, install_waiter, start, set_whole_for}
use Rattle.line.specs.Line.{Op, Call, fresh, run, perform, sent_to}
use Rattle.line.specs.Pass.{Atomic, if_keeps, step_keeps}
use Rattle.line.specs.Runs.{Moves, run_keeps}
use Rattle.line.specs.Truth.{count}
use Rattle.truth.specs.Clauses.{stale, Fit, page_wait, lock_wait, FitUp, FitDown, FitWaiter, Tokens, brings, dropped, asks_for, waits_for, NoDropBehind, Covered, Coverage, CoverageAt}
use Rattle.truth.specs.Frame.{Owns, Takes, Accepts}
use Rattle.truth.proofs.Frame.{count_snoc, all_snoc, none_count, send_own, send_far, call_own, call_far, append_nil, append_assoc, noticed_kind, noticed_queue, noticed_listed, noticed_sent, performs, closes, takes, accepts, installs}
use Rattle.truth.specs.Tokens.{Quiet, Before}
use Rattle.truth.proofs.Tokens.{of_page_lem, pop_down, idle_quiet, took_down, perform_after, step_after, tokens_moves, tokens_fresh}
use Rattle.truth.specs.Coverage.{Layers2, Unasked, both}

fits_read : (w : Wait) (a p : ℕ) → for_read w a ≡ true → eqb p (page_of a) ≡ true → requested w p ≡ true
fits_read Idle a p e f = absurd (false≢true e)
fits_read (ForRead b) a p e f = rw (← eqb_yes a b e) f
fits_read (ForWrite q y) a p e f = absurd (false≢true e)
fits_read ForCommit a p e f = absurd (false≢true e)

fits_write : (w : Wait) (q p : ℕ) → writes_to w q ≡ true → eqb p q ≡ true → requested w p ≡ true
fits_write Idle q p e f = absurd (false≢true e)
fits_write (ForRead b) q p e f = absurd (false≢true e)
fits_write (ForWrite r y) q p e f = rw (← eqb_yes q r e) f
fits_write ForCommit q p e f = absurd (false≢true e)

module _ (kind num : ℕ) (opened : Bool) (w : Wait) (k : locking kind ≡ true) (p : ℕ) (n : requested w p ≡ false) where
  never : {G : Type 0} → requested w p ≡ true → G
  never e = both (requested w p) e n

  page_fit : (a t : ℕ) → Fit (stale kind num opened t) t num opened (page_wait kind w a) → eqb p (page_of a) ≡ true → ⊥
  page_fit a t f e =
      let z : page_wait kind w a ≡ true = f.waits (rw k refl) in
      or_yes (for_read w a) (not (locking kind) && for_write w a) z (λ c. never (fits_read w a p c e)) (λ c. false≢true (sym (rw k refl) ∙ and_l (not (locking kind)) _ c))

  lock_fit : (q : ℕ) → lock_wait kind w q ≡ true → eqb p q ≡ true → ⊥
  lock_fit q f e = never (fits_write w q p (and_r (locking kind) _ f) e)

  no : (b : Bool) → (b ≡ true → ⊥) → b ≡ false
  no true f = absurd (f refl)
  no false f = refl

  unasked_up : (m : Up) → FitUp kind num opened w m → asks_for p m ≡ false
  unasked_up (ReadRequest a t) f = no (eqb p (page_of a)) (page_fit a t f)
  unasked_up (WriteRequest q t set) f = no (eqb p q) (lock_fit q (and_l (lock_wait kind w q) _ (f.waits refl)))
  unasked_up (Commit c) f = refl
  unasked_up (Abort t) f = refl
  unasked_up (Purge q) f = refl
  unasked_up (Busy r t) f = refl
  unasked_up (Done r t d) f = refl
  unasked_up (WrittenSet q t set) f = refl

  unasked_down : (m : Down) → FitDown kind num opened w m → brings p m ≡ false
  unasked_down (Page NoLock a t v u x) f = no (eqb p (page_of a)) (page_fit a t f)
  unasked_down (Page ObjectLock a t v u x) f = no (eqb p (page_of a)) (lock_fit (page_of a) (f.waits refl))
  unasked_down (Page WholeLock a t v u x) f = no (eqb p (page_of a)) (lock_fit (page_of a) (f.waits refl))
  unasked_down (Deescalate q t) f = refl
  unasked_down (Callback r t set) f = refl
  unasked_down (Committed t c) f = refl
  unasked_down (Aborted t c) f = refl
  unasked_down (Invalidate d) f = refl

  unasked_waiter : (latest : ℕ) (v : Want) (a : ℕ) → FitWaiter kind num opened w latest v a → waits_for p v a ≡ false
  unasked_waiter latest NoWant a f = refl
  unasked_waiter latest WantRead a f = no (eqb p (page_of a)) (λ e. never (fits_read w a p (and_r (locking kind) _ (f.waits refl)) e))
  unasked_waiter latest WantWrite a f = no (eqb p (page_of a)) (lock_fit (page_of a) (f.waits refl))
  unasked_waiter latest WantCommit a f = refl

pub tokens_unasked : {skind kind num : ℕ} {opened : Bool} {rd wr : ℕ → Val} {w : Wait} {q : Waiter} {latest : ℕ} {fin : Bool} {U : List Up} {D : List Down}
    → Tokens skind kind num opened rd wr w q latest fin U D → locking kind ≡ true → (p : ℕ) → requested w p ≡ false → Unasked p q.want q.req U D
tokens_unasked {skind} {kind} {num} {opened} {rd} {wr} {w} {q} {latest} {fin} {U} {D} h k p n =
    record {
      up = all_map (FitUp kind num opened w) (λ m. asks_for p m ≡ false) (unasked_up kind num opened w k p n) U h.S1b_up;
      down = none_count (brings p) D (all_map (FitDown kind num opened w) (λ m. brings p m ≡ false) (unasked_down kind num opened w k p n) D h.S1b_down);
      waiter = unasked_waiter kind num opened w k p n latest q.want q.req h.S1b_waiter;
    }

pub quiet_unasked : {skind kind num : ℕ} {opened : Bool} {q : Waiter} {U : List Up} {D : List Down} → Quiet skind kind num opened q U D → locking kind ≡ true → (p : ℕ) → Unasked p q.want q.req U D
quiet_unasked {skind} {kind} {num} {opened} {q} {U} {D} h k p =
    record {
      up = all_map (FitUp kind num opened Idle) (λ m. asks_for p m ≡ false) (unasked_up kind num opened Idle k p refl) U (h.fits_up Idle);
      down = none_count (brings p) D (all_map (FitDown kind num opened Idle) (λ m. brings p m ≡ false) (unasked_down kind num opened Idle k p refl) D (h.fits_down Idle));
      waiter = rw h.empty refl;
    }

behind_plain : (p : ℕ) (U : List Up) (m : Up) → dropped p m ≡ false → NoDropBehind p U → NoDropBehind p (snoc U m)
behind_plain p [] m e h = (λ f. refl, tt)
behind_plain p (n ∷ l) m e h = (λ f. omega (arith, h.0 f, rw e at (count_snoc (dropped p) l m)), behind_plain p l m e h.1)

behind_none : (p : ℕ) (U : List Up) → All (λ m. asks_for p m ≡ false) U → NoDropBehind p U
behind_none p [] h = tt
behind_none p (n ∷ l) h = (λ f. both (asks_for p n) f h.0, behind_none p l h.1)

module _ {p : ℕ} {cached listed : Bool} {v : Want} {req : ℕ} {U : List Up} {D : List Down} (h : Covered p cached listed v req U D) where
  -- a message that drops nothing goes up
  add_plain : (m : Up) → dropped p m ≡ false → Covered p cached listed v req (snoc U m) D
  add_plain m e =
      let z = rw e at (count_snoc (dropped p) U m) in
      record {
        C1 = h.C1;
        C1_down = h.C1_down;
        C2 = λ n. h.C2 (omega arith);
        C2_down = λ n. h.C2_down (omega arith);
        C2r = behind_plain p U m e h.C2r;
        C2r_waiter = λ n. h.C2r_waiter (omega arith);
      }

  -- the station drops the page, or not, as m says
  add_drop : (m : Up) → asks_for p m ≡ false → (dropped p m ≡ true → Unasked p v req U D) → Covered p (not (dropped p m) && cached) listed v req (snoc U m) D
  add_drop m a k =
      by_b (dropped p m)
      (λ e.
      let n = k e in
      rw e
      (record {
        C1 = λ f. absurd (false≢true f);
        C1_down = λ f. absurd (omega (arith, n.down));
        C2 = λ f. refl;
        C2_down = λ f. n.down;
        C2r = behind_none p (snoc U m) (all_snoc (λ x. asks_for p x ≡ false) U m n.up a);
        C2r_waiter = λ f. n.waiter;
      }))
      (λ e. rw e (add_plain m e))

  -- a message comes down
  add_down : (m : Down) → (brings p m ≡ true → count (dropped p) U ≡ 0) → Covered p cached (cond (brings p m) true listed) v req U (snoc D m)
  add_down m k =
      by_b (brings p m)
      (λ e.
      let z = k e in
      rw e
      (record {
        C1 = λ f. refl;
        C1_down = λ f. refl;
        C2 = h.C2;
        C2_down = λ f. absurd (omega arith);
        C2r = h.C2r;
        C2r_waiter = h.C2r_waiter;
      }))
      (λ e.
      let z = rw e at (count_snoc (brings p) D m) in
      rw e
      (record {
        C1 = h.C1;
        C1_down = λ f. h.C1_down (omega arith);
        C2 = h.C2;
        C2_down = λ f. omega (arith, h.C2_down f);
        C2r = h.C2r;
        C2r_waiter = h.C2r_waiter;
      }))

  -- the waiter leaves
  left : Covered p cached listed NoWant 0 U D
  left = record { C1 = h.C1; C1_down = h.C1_down; C2 = h.C2; C2_down = h.C2_down; C2r = h.C2r; C2r_waiter = λ n. refl }

  joined : (v' : Want) (a : ℕ) → (waits_for p v' a ≡ true → count (dropped p) U ≡ 0) → Covered p cached listed v' a U D
  joined v' a k =
      record { C1 = h.C1; C1_down = h.C1_down; C2 = h.C2; C2_down = h.C2_down; C2r = h.C2r; C2r_waiter = λ n. by_b (waits_for p v' a) (λ e. absurd (omega (arith, k e))) (λ e. e) }

module _ {p : ℕ} {cached listed : Bool} {v : Want} {req : ℕ} {U : List Up} {D : List Down} where
  -- the server takes a message; a drop ends the listing
  take_up : (m : Up) → Covered p cached listed v req (m ∷ U) D → Covered p cached listed v req U D
  take_up m h =
      record { C1 = h.C1; C1_down = h.C1_down; C2 = λ n. h.C2 (omega arith); C2_down = λ n. h.C2_down (omega arith); C2r = h.C2r.1; C2r_waiter = λ n. h.C2r_waiter (omega arith) }

  take_drop : (m : Up) → Covered p cached listed v req (m ∷ U) D → Covered p cached (listed && not (dropped p m)) v req U D
  take_drop m h =
      by_b (dropped p m)
      (λ e.
      let a : 1 ≤ count (dropped p) (m ∷ U) = rw e (omega arith) in
      let c = h.C2 a in
      let n = h.C2_down a in
      record { C1 = λ f. both cached f c; C1_down = λ f. absurd (omega arith); C2 = λ f. c; C2_down = λ f. n; C2r = h.C2r.1; C2r_waiter = λ f. h.C2r_waiter a })
      (λ e. let g = take_up m h in rw (e, and_true listed) g)
    where
      and_true : (b : Bool) → (b && true) ≡ b
      and_true true = refl
      and_true false = refl

  -- the station takes a message
  take_down : (m : Down) → Covered p cached listed v req U (m ∷ D) → Covered p cached listed v req U D
  take_down m h =
      record { C1 = h.C1; C1_down = λ n. h.C1_down (omega arith); C2 = h.C2; C2_down = λ n. omega (arith, h.C2_down n); C2r = h.C2r; C2r_waiter = h.C2r_waiter }

  -- .. a page: it is cached
  take_page : (m : Down) → Covered p cached listed v req U (m ∷ D) → Covered p (cond (brings p m) true cached) listed v req U D
  take_page m h =
      by_b (brings p m)
      (λ e.
      let a : 1 ≤ count (brings p) (m ∷ D) = rw e (omega arith) in
      rw e
      (record { C1 = λ f. h.C1_down a; C1_down = λ f. h.C1_down a; C2 = λ n. absurd (omega (arith, a, h.C2_down n)); C2_down = λ n. absurd (omega (arith, a, h.C2_down n)); C2r = h.C2r; C2r_waiter = h.C2r_waiter }))
      (λ e. rw e (take_down m h))

-- an address is one of its page's eight
pub on_page_lem : (a p : ℕ) → page_of a ≡ p → address p (a % 8) ≡ a
on_page_lem a p e = omega arith

-- nothing read on a page not used
pub unused : (s : Station) (p a : ℕ) → used_page s p ≡ false → page_of a ≡ p → (has (s.rd a) ≡ false) × (has (s.wr a) ≡ false)
unused s p a n e =
    let z : used_at s (address p (a % 8)) ≡ false = any_no 8 (λ o. used_at s (address p o)) n (a % 8) (omega arith) in
    or_no (has (s.rd a)) (has (s.wr a)) (rw (on_page_lem a p e) at z)

-- a callback drops no page used or asked for
pub drops_unused : (set : ℕ → Bool) (s : Station) (p : ℕ) → drops set s p ≡ true → used_page s p ≡ false
drops_unused set s p e =
    let named : Bool = s.cached p && any 8 (λ o. set (address p o)) in
    not_yes (used_page s p) (and_r named _ (and_l (named && not (used_page s p)) _ (and_l (named && not (used_page s p) && not (requested s.wait p)) _ e)))

pub drops_unasked : (set : ℕ → Bool) (s : Station) (p : ℕ) → drops set s p ≡ true → requested s.wait p ≡ false
drops_unasked set s p e =
    let unused : Bool = s.cached p && any 8 (λ o. set (address p o)) && not (used_page s p) in
    not_yes (requested s.wait p) (and_r unused _ (and_l (unused && not (requested s.wait p)) _ e))

-- nor one under a kept lock
pub drops_unkept : (set : ℕ → Bool) (s : Station) (p : ℕ) → drops set s p ≡ true → kept_whole s p ≡ false
drops_unkept set s p e = not_yes (kept_whole s p) (and_r (s.cached p && any 8 (λ o. set (address p o)) && not (used_page s p) && not (requested s.wait p)) _ e)

-- what is read stays cached when pages not used are dropped
kept_cached : (s : Station) (d : ℕ → Bool) → ((p : ℕ) → d p ≡ true → used_page s p ≡ false) → ((a : ℕ) → has (s.rd a) ≡ true → s.cached (page_of a) ≡ true) → (a : ℕ) → has (s.rd a) ≡ true → (not (d (page_of a)) && s.cached (page_of a)) ≡ true
kept_cached s d n c a e =
    by_b (d (page_of a)) (λ f. both (has (s.rd a)) e (unused s (page_of a) a (n (page_of a) f) refl).0) (λ f. rw f (c a e))

unasked_add : {p : ℕ} {v : Want} {req : ℕ} {U : List Up} {D : List Down} (m : Up) → asks_for p m ≡ false → Unasked p v req U D → Unasked p v req (snoc U m) D
unasked_add {p} {v} {req} {U} m e k = record { up = all_snoc (λ x. asks_for p x ≡ false) U m k.up e; down = k.down; waiter = k.waiter }

undo_cached : (s : Station) → locking s.kind ≡ true → (undo s).cached ≡ s.cached
unfolding undo mark
undo_cached s k = rw k refl

lock_cached : (l : Lock) (a : ℕ) (s : Station) → (take_lock l a s).cached ≡ s.cached
unfolding take_lock
lock_cached NoLock a s = refl
lock_cached ObjectLock a s = refl
lock_cached WholeLock a s = refl

lock_rd : (l : Lock) (a : ℕ) (s : Station) → (take_lock l a s).rd ≡ s.rd
unfolding take_lock
lock_rd NoLock a s = refl
lock_rd ObjectLock a s = refl
lock_rd WholeLock a s = refl

module _ (listed : ℕ → Bool) (v : Want) (req : ℕ) (U : List Up) (D : List Down) where
  abbrev pub Covers : Did → Type 0
  Covers d = Coverage d.station.cached d.station.rd listed v req (U ++ d.sent) D

  -- a transaction that has ended: nothing is read, asked for or on its way
  record Ending (d : Did) : Type 0 where
    unasked : (p : ℕ) → Unasked p v req (U ++ d.sent) D
    cover : Covers d
    empty : (a : ℕ) → d.station.rd a ≡ none

  ending : (d : Did) → ((p : ℕ) → Unasked p v req (U ++ d.sent) D) → ((p : ℕ) → Covered p (d.station.cached p) (listed p) v req (U ++ d.sent) D) → Covers (close d)
  unfolding closed do_callback drop_pages mark
  ending d n c =
      (closes Ending
      (λ r t set e f h.
      let s : Station = set_kept e.station (upd e.station.kept r S.NotKept) in
      let m : Up = Done r t (drops set s) in
      record {
        unasked = λ p. rw (append_assoc U e.sent (m ∷ [])) (unasked_add m refl (h.unasked p));
        cover =
            record {
              page = λ p. rw (append_assoc U e.sent (m ∷ [])) (add_drop (h.cover.page p) m refl (λ g. h.unasked p));
              C3 = λ a g. absurd (false≢true (sym (ap has (h.empty a)) ∙ g));
            };
        empty = h.empty;
      })
      d
      (record { unasked = n; cover = record { page = c; C3 = λ a g. absurd (false≢true g) }; empty = λ a. refl })
      ).cover

  quiet_cover : (s : Station) → Coverage s.cached s.rd listed v req U D → Coverage s.cached s.rd listed v req (U ++ []) D
  quiet_cover s c = rw (append_nil U) c

  says : (cached : ℕ → Bool) (rd : ℕ → Val) (m : Up) → ((p : ℕ) → dropped p m ≡ false) → Coverage cached rd listed v req U D → Coverage cached rd listed v req (snoc U m) D
  says cached rd m e c = record { page = λ p. add_plain (c.page p) m (e p); C3 = c.C3 }

  -- a page arrives
  page_cover : (s : Station) (a : ℕ) (m : Down) (rd : ℕ → Val) → ((p : ℕ) → brings p m ≡ eqb p (page_of a)) → ((b : ℕ) → has (rd b) ≡ true → eqb b a ≡ false → has (s.rd b) ≡ true)
      → Coverage s.cached s.rd listed v req U (m ∷ D) → Coverage (upd s.cached (page_of a) true) rd listed v req (U ++ []) D
  page_cover s a m rd e r c =
      rw (append_nil U)
      (record {
        page = λ p. rw (sym (e p)) (take_page m (c.page p));
        C3 = λ b f.
            by_eq b a (λ g. rw (eqb_yes b a g, eqb_same (page_of a)) refl)
            (λ g. by_eq (page_of b) (page_of a) (λ y. rw y refl) (λ y. rw y (c.C3 b (r b f g))));
      })

module _ (skind : ℕ) (q : Waiter) (latest : ℕ) (fin : Bool) (listed : ℕ → Bool) (U : List Up) (D : List Down) (s : Station) (k : locking s.kind ≡ true) where
  -- the owner's moves
  module _ (h : Before skind q latest fin U D s) (c : Coverage s.cached s.rd listed q.want q.req U D) where
    owner_covers : Owns s (λ op d. Covers listed q.want q.req U D d)
    unfolding read_local record_read read_ask write_local write_ask drop_pages
    owner_covers =
        record {
          refused = λ op n. same;
          begins = λ e o. same;
          reads_own = λ a v b g e. same;
          reads_again = λ a v b g e f. same;
          reads_here = λ a b g e f t.
              rw (append_nil U)
              (record { page = c.page; C3 = λ x f. by_eq x a (λ y. rw (eqb_yes x a y) (and_l (s.cached (page_of a)) _ t)) (λ y. c.C3 x (rw y at f)) });
          reads_ask = λ a b g e f t. said (ReadRequest a s.num) (λ p. refl);
          writes_here = λ q f b g e. same;
          writes_ask = λ q f b g e. by_b (locking s.kind) (λ l. rw l (said (WriteRequest q s.num _) (λ p. refl))) (λ l. rw l (said (ReadRequest _ s.num) (λ p. refl)));
          commits = λ g. said (Commit (work_of s)) (λ p. refl);
          aborts = λ g.
              let n : (p : ℕ) → Unasked p q.want q.req U D = quiet_unasked (idle_quiet g.idle h) k in
              ending listed q.want q.req U D (does (AbortedFor 0) (undo s) (cond (locking s.kind) (Abort s.num ∷ []) []))
              (λ p. rw k (unasked_add (Abort s.num) refl (n p)))
              (λ p. rw (undo_cached s k, k) (add_plain (c.page p) (Abort s.num) refl));
          purges = λ p b r n e v.
              record {
                page = λ x. add_drop (c.page x) (Purge p) refl (λ y. tokens_unasked h k x (rw (eqb_yes x p y) r));
                C3 = kept_cached s (λ x. eqb x p) (λ x y. rw (eqb_yes x p y) n) c.C3;
              };
        }
      where
        same : Coverage s.cached s.rd listed q.want q.req (U ++ []) D
        same = quiet_cover listed q.want q.req U D s c

        said : (m : Up) → ((p : ℕ) → dropped p m ≡ false) → Coverage s.cached s.rd listed q.want q.req (snoc U m) D
        said m e = says listed q.want q.req U D s.cached s.rd m e c

    pub perform_covers : (op : Op) → Covers listed q.want q.req U D (perform op s)
    perform_covers op = performs s (λ o d. Covers listed q.want q.req U D d) owner_covers op

  -- the station takes the first message
  abbrev TakenC : Down → Did → Type 0
  TakenC m d = Before skind q latest fin U (m ∷ D) s → Coverage s.cached s.rd listed q.want q.req U (m ∷ D) → Covers listed q.want q.req U D d

  popped : (m : Down) → Coverage s.cached s.rd listed q.want q.req U (m ∷ D) → Coverage s.cached s.rd listed q.want q.req U D
  popped m c = record { page = λ p. take_down m (c.page p); C3 = c.C3 }

  silent : (m : Down) → Coverage s.cached s.rd listed q.want q.req U (m ∷ D) → Coverage s.cached s.rd listed q.want q.req (U ++ []) D
  silent m c = quiet_cover listed q.want q.req U D s (popped m c)

  answers : (m : Down) (n : Up) → ((p : ℕ) → dropped p n ≡ false) → Coverage s.cached s.rd listed q.want q.req U (m ∷ D) → Coverage s.cached s.rd listed q.want q.req (snoc U n) D
  answers m n e c = says listed q.want q.req U D s.cached s.rd n e (popped m c)

  station_covers : Takes s TakenC
  unfolding record_read write_local arrive on_deescalate S.loosen do_callback drop_pages mark on_committed on_aborted take_lock
  station_covers =
      record {
        refused = λ m f h c. silent m c;
        old_page = λ a t v u x e h c. silent (Page NoLock a t v u x) c;
        page_read = λ a t v u x e f h c.
            page_cover listed q.want q.req U D s a (Page NoLock a t v u x) (upd s.rd a _) (λ p. refl) (λ b y z. rw z at y) c;
        page_write = λ l a t v u x p y e f o g h c.
            rw (lock_cached l a s, lock_rd l a s) (page_cover listed q.want q.req U D s a (Page l a t v u x) s.rd (λ p. refl) (λ b z n. z) c);
        deescalates = λ p t e h c.
            let g = answers (Deescalate p t) (WrittenSet p (answers_for t s) _) (λ x. refl) c in
            by_b (gives_up p t s) (λ z. rw z g) (λ z. rw z g);
        keeps = λ r t set e f h c. answers (Callback r t set) (Busy r t) (λ x. refl) c;
        dones = λ r t set e f h c.
            record {
              page = λ x. add_drop ((popped (Callback r t set) c).page x) (Done r t (drops set s)) refl (λ y. tokens_unasked (pop_down (Callback r t set) h) k x (drops_unasked set s x y));
              C3 = kept_cached s (drops set s) (drops_unused set s) c.C3;
            };
        commits = λ t n e f h c.
            ending listed q.want q.req U D _
            (λ p. rw (append_nil U) (quiet_unasked (took_down (Committed t n) refl h) k p))
            (λ p. rw (append_nil U) ((popped (Committed t n) c).page p));
        aborts = λ t n e f h c.
            ending listed q.want q.req U D _
            (λ p. rw (append_nil U) (quiet_unasked (took_down (Aborted t n) refl h) k p))
            (λ p. rw (append_nil U, undo_cached s k) ((popped (Aborted t n) c).page p));
        invalid_ends = λ d l e f h c. both (locking s.kind) k l;
        invalid = λ d l e h c. both (locking s.kind) k l;
      }

  pub step_covers : (m : Down) → Before skind q latest fin U (m ∷ D) s → Coverage s.cached s.rd listed q.want q.req U (m ∷ D) → Covers listed q.want q.req U D (station_step m s)
  step_covers m h c = takes s TakenC station_covers m h c

zero_of : (n : ℕ) → (1 ≤ n → ⊥) → n ≡ 0
zero_of zero f = refl
zero_of (suc n) f = absurd (f (omega arith))

module _ (st : ℕ → Station) (u : ℕ → List Up) (d : ℕ → List Down) where
  abbrev pub CoverAt : Serving → ℕ → Type 0
  CoverAt x j = CoverageAt x.server st u (λ k. d k ++ sent_to k x.sent) j

  -- in the middle of a server's step
  pub record InCover (x : Serving) : Type 0 where
    pub kinds : (j : ℕ) → x.server.kind j ≡ (st j).kind
    pub cover : (j : ℕ) → CoverAt x j

  leave_cover : (i : ℕ) (x : Serving) → InCover x → InCover (leave i x)
  unfolding leave
  leave_cover i x h =
      record {
        kinds = h.kinds;
        cover = λ j k.
            let c = h.cover j k in
            by_eq j i (λ e. rw e (record { page = λ p. left (c.page p); C3 = c.C3 })) (λ e. rw e c);
      }

  -- messages that bring no page
  send_cover : (i : ℕ) (m : Down) (x : Serving) → ((p : ℕ) → brings p m ≡ false) → InCover x → InCover (send x i m)
  send_cover i m x n h =
      record {
        kinds = h.kinds;
        cover = λ j k.
            let c = h.cover j k in
            by_eq j i
            (λ e.
            let c' = rw (eqb_yes j i e) at c in
            rw (eqb_yes j i e, send_own i (d i) x.sent m)
            (record { page = λ p. rw (n p) at (add_down (c'.page p) m (λ f. both (brings p m) f (n p))); C3 = c'.C3 }))
            (λ e. rw (send_far i j (d j) x.sent m e) c);
      }

  -- a page, if no drop of it is on its way up
  page_sent : (l : Lock) (i a : ℕ) (v : ℕ → Bool) (x : Serving) → (locking (st i).kind ≡ true → (p : ℕ) → eqb p (page_of a) ≡ true → count (dropped p) (u i) ≡ 0) → InCover x → InCover (send_page l i a v x)
  unfolding send_page
  page_sent l i a v x n h =
      let s : Server = x.server in
      let m : Down = Page l a (s.latest i) (values_on (page_of a) s.ver) v (values_on (page_of a) s.val) in
      record {
        kinds = h.kinds;
        cover = λ j k.
            let c = h.cover j k in
            by_eq j i
            (λ e.
            let k' = rw (eqb_yes j i e) at k in
            let c' = rw (eqb_yes j i e) at c in
            rw (eqb_yes j i e, send_own i (d i) x.sent m)
            (record { page = λ p. rw (eqb_same i) (add_down (c'.page p) m (n k' p)); C3 = c'.C3 }))
            (λ e. rw (send_far i j (d j) x.sent m e) (record { page = λ p. rw e (c.page p); C3 = c.C3 }));
      }

  abort_cover : (i c : ℕ) (x : Serving) → InCover x → InCover (abort i c x)
  unfolding abort finish
  abort_cover i c x h =
      let g = leave_cover i x h in
      let y : Serving = finish i (ByCause c) (leave i x) in
      send_cover i (Aborted (y.server.latest i) c) y (λ p. refl) (record { kinds = g.kinds; cover = g.cover })

  install_cover : (i : ℕ) (w : Work) (x : Serving) → InCover x → InCover (install i w x)
  unfolding archive write finish
  install_cover i w x h =
      let g = leave_cover i x h in
      let y : Serving = finish i ByCommit (archive i w (write w (leave i x))) in
      installs InCover i w
      (λ j z e c.
      let v : locking (st j).kind ≡ false = rw (c.kinds j) at (not_yes (locking (z.server.kind j)) (and_r (not (eqb j i)) _ (and_l (not (eqb j i) && not (locking (z.server.kind j))) _ e))) in
      send_cover j (Invalidate (λ a. has (w.writes a))) z (λ p. refl) c)
      x
      (send_cover i (Committed w.transaction y.server.last) y (λ p. refl) (record { kinds = g.kinds; cover = g.cover }))

  call_cover : (i : ℕ) (x : Serving) → InCover x → InCover (call i x)
  unfolding call
  call_cover i x h =
      let s : Server = x.server in
      let q : Waiter = waiter_pend (waiter_called (s.queue i) true) (concerned s i) in
      record {
        kinds = h.kinds;
        cover = λ j k.
            let c = h.cover j k in
            let mid : Coverage (st j).cached (st j).rd (s.listed j) (upd s.queue i q j).want (upd s.queue i q j).req (u j) (d j ++ sent_to j x.sent) =
            by_eq j i (λ e. rw (e, ← eqb_yes j i e) c) (λ e. rw e c) in
            let m : Down = Callback i (s.latest i) (s.queue i).writes in
            by_b (concerned s i j)
            (λ e. rw (call_own s i j (d j) x.sent e) (record { page = λ p. add_down (mid.page p) m (λ f. absurd (false≢true f)); C3 = mid.C3 }))
            (λ e. rw (call_far s i j (d j) x.sent e) mid);
      }

  -- a page waited for has no drop on its way up
  no_drop : (i : ℕ) (x : Serving) → InCover x → ((p : ℕ) → waits_for p (x.server.queue i).want (x.server.queue i).req ≡ eqb p (page_of (x.server.queue i).req)) → locking (st i).kind ≡ true → (p : ℕ) → eqb p (page_of (x.server.queue i).req) ≡ true → count (dropped p) (u i) ≡ 0
  no_drop i x h w k p e = zero_of (count (dropped p) (u i)) (λ n. false≢true (sym (((h.cover i k).page p).C2r_waiter n) ∙ (w p ∙ e)))

  pub atomic_cover : Atomic InCover
  unfolding ask serve_read grant_object grant_page install_waiter
  atomic_cover =
      record {
        aborts = λ i c x b t h. abort_cover i c x h;
        asks = λ i g p x b t e h. send_cover g (Deescalate p (x.server.whole_for p)) (on_server x (set_asked x.server (upd x.server.asked p true))) (λ q. refl) (record { kinds = h.kinds; cover = h.cover });
        reads = λ i x b w c h.
            let a : ℕ = (x.server.queue i).req in
            page_sent NoLock i a (unavailable x.server i a) (leave i x) (no_drop i x h (λ p. rw w refl)) (leave_cover i x h);
        calls = λ i x b t e n c h. call_cover i x h;
        objects = λ i x b w r h.
            let a : ℕ = (x.server.queue i).req in
            let y : Serving = leave i x in
            let g = leave_cover i x h in
            page_sent ObjectLock i a (unavailable x.server i a) (on_server y (set_ol y.server (λ c. cond ((x.server.queue i).writes c) (suc i) (x.server.ol c)))) (no_drop i x h (λ p. rw w refl)) (record { kinds = g.kinds; cover = g.cover });
        pages = λ i x b w r e h.
            let a : ℕ = (x.server.queue i).req in
            let y : Serving = leave i x in
            let g = leave_cover i x h in
            page_sent WholeLock i a (unavailable x.server i a) (on_server y (set_wl (set_whole_for (set_asked y.server (upd x.server.asked (page_of a) false)) (upd x.server.whole_for (page_of a) (x.server.latest i))) (upd x.server.wl (page_of a) (suc i)))) (no_drop i x h (λ p. rw w refl)) (record { kinds = g.kinds; cover = g.cover });
        installs = λ i x b w f r h. install_cover i (x.server.queue i).work x h;
      }

  notice_cover : (i t : ℕ) (x : Serving) → InCover x → InCover (notice i t x)
  notice_cover i t x h =
      record {
        kinds = rw (noticed_kind i t x) h.kinds;
        cover = λ j k. rw (noticed_queue i t x, noticed_listed i t x, noticed_sent i t x) (h.cover j k);
      }

  join_cover : (i : ℕ) (v : Waiter) (x : Serving) → ((p : ℕ) → waits_for p v.want v.req ≡ true → count (dropped p) (u i) ≡ 0) → InCover x → InCover (join i v x)
  unfolding join
  join_cover i v x n h =
      record {
        kinds = h.kinds;
        cover = λ j k.
            let c = h.cover j k in
            by_eq j i
            (λ e. let c' = rw (eqb_yes j i e) at c in rw (e, eqb_yes j i e) (record { page = λ p. joined (c'.page p) v.want v.req (n p); C3 = c'.C3 }))
            (λ e. rw e c);
      }

-- the server accepts the first message m of station i's up line m ∷ l
module _ (i : ℕ) (l : List Up) (s : Server) (st : ℕ → Station) (u : ℕ → List Up) (d : ℕ → List Down) (kinds : (j : ℕ) → s.kind j ≡ (st j).kind) (h : (j : ℕ) → CoverageAt s st u d j) where
  abbrev HeadC : Up → Type 0
  HeadC m = locking (st i).kind ≡ true → Coverage (st i).cached (st i).rd (s.listed i) (s.queue i).want (s.queue i).req (m ∷ l) (d i)

  abbrev ThenC : Serving → Type 0
  ThenC x = InCover st (upd u i l) d x

  -- the message is gone; `f` is what becomes of the listing
  taken : (m : Up) → HeadC m → ThenC (start s)
  taken m g =
      record {
        kinds = kinds;
        cover = λ j k.
            by_eq j i
            (λ e. let c = g (rw (eqb_yes j i e) at k) in rw (e, eqb_yes j i e, append_nil (d i)) (record { page = λ p. take_up m (c.page p); C3 = c.C3 }))
            (λ e. rw (e, append_nil (d j)) (h j k));
      }

  unlisted : (m : Up) (r : ℕ → Bool) → ((p : ℕ) → dropped p m ≡ r p) → HeadC m → ThenC (unlist i r (start s))
  unfolding unlist
  unlisted m r e g =
      record {
        kinds = kinds;
        cover = λ j k.
            by_eq j i
            (λ f. let c = g (rw (eqb_yes j i f) at k) in rw (f, eqb_yes j i f, append_nil (d i)) (record { page = λ p. rw (eqb_same i) (rw (e p) at (take_drop m (c.page p))); C3 = c.C3 }))
            (λ f. let c = h j k in rw (f, append_nil (d j)) (record { page = λ p. rw f (c.page p); C3 = c.C3 }));
      }

  -- behind a request for a page no drop of it
  asked_drop : (m : Up) → HeadC m → locking (st i).kind ≡ true → (p : ℕ) → asks_for p m ≡ true → count (dropped p) (upd u i l i) ≡ 0
  asked_drop m g k p e = rw (eqb_same i) (((g k).page p).C2r.0 e)

  requeued : (r : ℕ) (v : Waiter) (x : Serving) → v.want ≡ (x.server.queue r).want → v.req ≡ (x.server.queue r).req → ThenC x → InCover st (upd u i l) d (on_server x (set_queue x.server (upd x.server.queue r v)))
  requeued r v x a b c =
      record {
        kinds = c.kinds;
        cover = λ j k. by_eq j r (λ e. rw (e, a, b, ← eqb_yes j r e) (c.cover j k)) (λ e. rw e (c.cover j k));
      }

  accept_covers : Accepts i (start s) (λ m x. HeadC m → ThenC x)
  unfolding join_read join_write join_commit serve_now commit_now finish mark_busy answered loosen
  accept_covers =
      let x : Serving = start s in
      let t' : ℕ → (m : Up) → HeadC m → ThenC (notice i _ x) = λ t m g. notice_cover st (upd u i l) d i t x (taken m g) in
      record {
        read_waits = λ a t b k g. join_cover st (upd u i l) d i _ (notice i t x) (λ p e. asked_drop (ReadRequest a t) g (rw (kinds i) at k) p e) (t' t (ReadRequest a t) g);
        read_now = λ a t b k g.
            page_sent st (upd u i l) d NoLock i a nowhere (notice i t x) (λ v. both (locking (st i).kind) v (rw (kinds i) at k)) (t' t (ReadRequest a t) g);
        write_waits = λ q t set b k g. join_cover st (upd u i l) d i _ (notice i t x) (λ p e. asked_drop (WriteRequest q t set) g (rw (kinds i) at k) p (rw (of_page_lem q 0 (omega arith)) at e)) (t' t (WriteRequest q t set) g);
        commit_now_lem = λ w b n k g.
            let y : Serving = notice i w.transaction x in
            let c = t' w.transaction (Commit w) g in
            if_keeps ThenC (eqb y.server.last last_number) (λ e. abort_cover st (upd u i l) d i 4 y c) (λ e. install_cover st (upd u i l) d i w y c);
        commit_waits = λ w b k g. join_cover st (upd u i l) d i _ (notice i w.transaction x) (λ p e. absurd (false≢true e)) (t' w.transaction (Commit w) g);
        aborts = λ t b k g. let c = t' t (Abort t) g in record { kinds = c.kinds; cover = c.cover };
        purges = λ p n g. unlisted (Purge p) (λ q. eqb q p) (λ q. refl) g;
        busy = λ r t o g. requeued r _ x refl refl (taken (Busy r t) g);
        busy_late = λ r t o g. taken (Busy r t) g;
        dones = λ r t c o g. requeued r _ (unlist i c x) refl refl (unlisted (Done r t c) c (λ q. refl) g);
        done_late = λ r t c o g. unlisted (Done r t c) c (λ q. refl) g;
        loosens = λ p t set o b g. let c = taken (WrittenSet p t set) g in record { kinds = c.kinds; cover = c.cover };
        loosens_new = λ p t set o k r g. let c = t' t (WrittenSet p t set) g in record { kinds = c.kinds; cover = c.cover };
        loosens_late = λ p t set o g. taken (WrittenSet p t set) g;
      }

  pub accept_cover : (m : Up) → u i ≡ m ∷ l → unexpected i m s ≡ false → ThenC (accept i m (start s))
  accept_cover m q e = accepts i (start s) (λ n x. HeadC n → ThenC x) accept_covers m e (rw q at (h i))

-- a station keeps its kind: both are the server's word
kind_kept : (skind a b : ℕ) → skind ≡ a → skind ≡ b → locking b ≡ true → locking a ≡ true
kind_kept skind a b e f k = rw (sym e ∙ f) k

pub coverage_moves : Moves Layers2 Layers2
coverage_moves =
    record {
      rests = λ s t u d h. h;
      owner = λ i op s t u d h.
          let a = tokens_moves.owner i op s t u d h.0 in (
            a,
            λ j.
                by_eq j i
                (λ e.
                rw (e, eqb_yes j i e)
                (λ k.
                let after = perform_after (s.kind i) (s.queue i) (s.latest i) (s.fin i) (u i) (d i) (t i) (h.0 i) op in
                let k' = kind_kept (s.kind i) (t i).kind _ (h.0 i).kinds after.kinds k in
                perform_covers (s.kind i) (s.queue i) (s.latest i) (s.fin i) (s.listed i) (u i) (d i) (t i) k' (h.0 i) (h.1 i k') op))
                (λ e. rw e (h.1 j)),
          );
      server = λ i m l s t u d b e n h. (
        tokens_moves.server i m l s t u d b e n h.0,
        (step_keeps (InCover t (upd u i l) d) (atomic_cover t (upd u i l) d) i m s (accept_cover i l s t u d (λ j. (h.0 j).kinds) h.1 m e n)).cover,
      );
      station = λ i m l s t u d q h. (
        tokens_moves.station i m l s t u d q h.0,
        λ j.
            by_eq j i
            (λ e.
            rw (e, eqb_yes j i e)
            (λ k.
            let before = rw q at (h.0 i) in
            let after = step_after (s.kind i) (s.queue i) (s.latest i) (s.fin i) (u i) l (t i) m before in
            let k' = kind_kept (s.kind i) (t i).kind _ (h.0 i).kinds after.kinds k in
            step_covers (s.kind i) (s.queue i) (s.latest i) (s.fin i) (s.listed i) (u i) l (t i) k' m before (rw q at (h.1 i k'))))
            (λ e. rw e (h.1 j)),
      );
    }

pub coverage_fresh : (kinds : ℕ → ℕ) (i : ℕ) → CoverageAt (fresh kinds).server (fresh kinds).station (fresh kinds).up (fresh kinds).down i
coverage_fresh kinds i k =
    record {
      page = λ p. record { C1 = λ e. absurd (false≢true e); C1_down = λ e. absurd (omega arith); C2 = λ e. refl; C2_down = λ e. refl; C2r = tt; C2r_waiter = λ e. refl };
      C3 = λ a e. absurd (false≢true e);
    }

pub layers2_run : (kinds : ℕ → ℕ) (cs : List Call) → let w = run cs (fresh kinds) in Layers2 w.server w.station w.up w.down
layers2_run kinds cs = run_keeps Layers2 coverage_moves cs (fresh kinds) (tokens_fresh kinds, coverage_fresh kinds)

-- for every list of calls, whatever the kinds, and every station
pub coverage_run : (kinds : ℕ → ℕ) (cs : List Call) (i : ℕ) → let w = run cs (fresh kinds) in CoverageAt w.server w.station w.up w.down i
coverage_run kinds cs = (layers2_run kinds cs).1
