-- The moves of station i and its owner, and the station's locks.
use Rattle.std.specs.Prelude.{◌≡◌, false, ◌&&◌, ◌||◌, cond, not, List, [], ◌∷◌, ◌++◌, ◌⊎◌}
use Rattle.std.proofs.Math.Path.{refl, sym}
use Rattle.std.proofs.Common.{◌∙◌, arith}
use Rattle.std.proofs.Math.Bool.{Bool, true}
use Rattle.std.proofs.lemmas.Bool.{false≢true}
use Rattle.std.proofs.Math.Logic.{inl, inr}
use Prim.Native.Nat.{ℕ, suc, ◌+◌, ◌%◌, ◌≤◌}
use Rattle.std.proofs.Math.Dec.{eqb}
use Rattle.sets.specs.Base.{upd, nowhere, none_at, has, Val}
use Rattle.sets.specs.Laws.{by_b, by_eq, or_yes}
use Rattle.sets.proofs.Laws.{eqb_same, eqb_yes, and_l, and_r, any_no, not_no}
use Rattle.line.specs.Messages.{page_of, locking, keeps, Up, ReadRequest, Commit, Abort, Purge, Busy, Done, WrittenSet, Lock, NoLock, ObjectLock, WholeLock, Down, Page, Deescalate, Callback, Committed, Aborted, Invalidate, Written, AbortedFor, address}
use Rattle.line.specs.Station.{Station, Did, does, requested, live, used_page, work_of, drops, mark, drop_pages, record_read, write_local, do_callback, closed, close, undo, read_local, read_ask, write_ask, arrive, take_lock, written_on, loosen, on_deescalate, on_committed, on_aborted, station_step, Wait, Idle, ForRead, ForWrite, ForCommit, waiting, for_write, some_on, may_write, named, of_page, kept_whole, answers_for, gives_up}
use Rattle.line.specs.Server.{Waiter}
use Rattle.line.specs.Line.{Op, perform, is_refused}
use Rattle.line.specs.Apart.{keeps_locks}
use Rattle.line.specs.Truth.{count}
use Rattle.truth.specs.Clauses.{Tokens, dropped}
use Rattle.truth.specs.Frame.{Owns, is_lock, arrived, Takes, ForPage}
use Rattle.truth.proofs.Frame.{append_nil, append_assoc, performs, closes, takes}
use Rattle.truth.specs.Tokens.{both, Quiet}
use Rattle.truth.proofs.Tokens.{idle_quiet, took_down, live_hot, undo_kind}
use Rattle.truth.proofs.Coverage.{unused, tokens_unasked, drops_unused, drops_unasked, on_page_lem}
use Rattle.jams.specs.Clauses.{meets, abort_of, Numbers, Locks, Sets}
use Rattle.jams.specs.Locks.{Settled, Leaving, settled_add, settled_locks, free, meets_yes, meets_some, push_up, plain_up, pop_down, unused_leaving, began, writes, splits, aborts, over, wrote_now, rewaits, none_due, quiet_grants, quiet_objects}
use Rattle.truth.specs.GoalsLists.{either}
use Rattle.line.specs.Asks.{Asks}

-- what is known of station i and of the locks that the server says it has
pub record Around (i skind : ℕ) (q : Waiter) (OL WL : ℕ → ℕ) (latest : ℕ) (fin : Bool) (U : List Up) (D : List Down) (s : Station) : Type 0 where
  pub tokens : Tokens skind s.kind s.num s.opened s.rd s.wr s.wait q latest fin U D
  pub numbers : Numbers s.kind s.num s.opened latest fin U D
  pub sets : Sets s.wait s.ol q U
  pub locks : Locks i s.kind s.num s.opened s.wr s.ol s.wl (for_write s.wait) OL WL latest U D
  -- who has a lock is unfinished and locking
  pub object : (a : ℕ) → OL a ≡ suc i → (fin ≡ false) × (locking s.kind ≡ true)
  pub whole : (p : ℕ) → WL p ≡ suc i → (keeps s.kind ≡ false → fin ≡ false) × (locking s.kind ≡ true)

pub undo_wl : (s : Station) → (undo s).wl ≡ s.wl
unfolding undo mark drop_pages
undo_wl s = by_b (locking s.kind) (λ e. rw e refl) (λ e. rw e refl)

-- a set of which nothing is named is under locks
pub may_write_lem : (s : Station) (p : ℕ) (f : ℕ → Val) → Asks p f → some_on p (named f s) ≡ false → (a : ℕ) → has (f a) ≡ true → may_write a s ≡ true
may_write_lem s p f b e a w =
    let z : named f s (address p (a % 8)) ≡ false = any_no 8 (λ o. named f s (address p o)) e (a % 8) (omega arith) in
    let y : (has (f a) && not (may_write a s)) ≡ false = rw (on_page_lem a p (b.page_only_lem a w)) at z in
    not_no (may_write a s) (rw w at y)

-- nothing is written on a page not used
unmet : (s : Station) (p : ℕ) → used_page s p ≡ false → meets s.wr p ≡ false
unmet s p n =
    by_b (meets s.wr p) (λ e. let r = meets_some s.wr p e in both (has (s.wr r.0)) r.2 (unused s p r.0 n r.1).1) (λ e. e)

-- a page neither used nor asked for may be dropped: a lock on it has its 4 under way
leaving : {i skind : ℕ} {q : Waiter} {OL WL : ℕ → ℕ} {latest : ℕ} {fin : Bool} {U : List Up} {D : List Down} {s : Station}
    → Around i skind q OL WL latest fin U D s → (p : ℕ) → used_page s p ≡ false → requested s.wait p ≡ false → Leaving i s.kind OL WL latest U p
leaving {s = s} h p n r =
    by_b (locking s.kind) (λ k. unused_leaving h.locks p (unmet s p n) (tokens_unasked h.tokens k p r).down)
    (λ k. (λ a f e. both (locking s.kind) (h.object a e).1 k, λ v e. both (locking s.kind) (h.whole p e).1 k))

module _ (i skind : ℕ) (q : Waiter) (OL WL : ℕ → ℕ) (latest : ℕ) (fin : Bool) (U : List Up) (D : List Down) where
  -- the station did d, from up line U
  abbrev pub LocksDid : Did → Type 0
  LocksDid d = Locks i d.station.kind d.station.num d.station.opened d.station.wr d.station.ol d.station.wl (for_write d.station.wait) OL WL latest (U ++ d.sent) D

  -- its transaction is closed, and every lock that it does not keep has its 4 under way
  record Ending (kind : ℕ) (whole : ℕ → Bool) (d : Did) : Type 0 where
    settled : Settled i kind whole OL WL latest (U ++ d.sent) D
    kind_is : d.station.kind ≡ kind
    opened : d.station.opened ≡ false
    wr : d.station.wr ≡ none_at
    ol : d.station.ol ≡ nowhere
    wl : d.station.wl ≡ whole
    wait : d.station.wait ≡ Idle

  ends : (d : Did) → Settled i d.station.kind (kept_whole d.station) OL WL latest (U ++ d.sent) D → LocksDid (close d)
  unfolding closed do_callback drop_pages mark
  ends d g =
      let kind : ℕ = d.station.kind in
      let whole : ℕ → Bool = kept_whole d.station in
      let e : Ending kind whole (close d) =
      closes (Ending kind whole)
      (λ r t set x f h.
      record {
        settled = rw (append_assoc U x.sent (Done r t _ ∷ [])) (settled_add h.settled (Done r t _));
        kind_is = h.kind_is;
        opened = h.opened;
        wr = h.wr;
        ol = h.ol;
        wl = h.wl;
        wait = h.wait;
      })
      d (record { settled = g; kind_is = refl; opened = refl; wr = refl; ol = refl; wl = refl; wait = refl }) in
      rw (e.opened, e.wr, e.ol, e.wl, e.wait, e.kind_is) (settled_locks e.settled (close d).station.num)

  -- THE OWNER'S MOVES
  module _ (s : Station) (h : Around i skind q OL WL latest fin U D s) where
    still : Locks i s.kind s.num s.opened s.wr s.ol s.wl (for_write s.wait) OL WL latest (U ++ []) D
    still = rw (append_nil U) h.locks

    -- under its own locks, what is written is known to the server
    under_locks : (p : ℕ) (f : ℕ → Val) → Asks p f → some_on p (named f s) ≡ false → Locks i s.kind s.num s.opened (over f s.wr) s.ol s.wl (for_write s.wait) OL WL latest (U ++ []) D
    under_locks p f b e =
        let g = h.locks in
        let may : locking s.kind ≡ true → (a : ℕ) → has (f a) ≡ true → (s.ol a || s.wl (page_of a)) ≡ true = λ k a w. rw k at (may_write_lem s p f b e a w) in
        rw (append_nil U)
        (writes g f s.ol s.wl (λ c z. z) (λ c z. inl z) (λ q z. inl z) (λ q z. z)
        (λ k o n a w. or_yes (s.ol a) (s.wl (page_of a)) (may k a w) (λ z. g.K2a k o n a (g.K3a a z)) (λ z. inr (g.K2b (page_of a) z (inr (k, o, n)))))
        (λ k o a w.
        or_yes (s.ol a) (s.wl (page_of a)) (may k a w) (λ z. g.K9 k o a (g.K3a a z))
        (λ z.
        by_b (keeps s.kind) (λ v. inr (v, g.K2b (page_of a) z (inl v)))
        (λ v.
        let r = meets_some s.wr (page_of a) (g.K3b v (page_of a) z) in
        either (g.K9 k o r.0 r.2) (λ y. inl y) (λ y. both (keeps s.kind) y.0 v)))))

    -- a request or a commit goes up, from an idle station: no lock is on its way to it
    asks_locks : (w : Wait) (m : Up) → waiting s.wait ≡ false → ((p : ℕ) → dropped p m ≡ false) → Locks i s.kind s.num s.opened s.wr s.ol s.wl (for_write w) OL WL latest (U ++ (m ∷ [])) D
    asks_locks w m e n =
        let k = idle_quiet e h.tokens in
        plain_up m n (rewaits h.locks (for_write w) (λ a z. absurd (quiet_objects k (page_of a) z)) (quiet_grants k i OL WL (for_write w) s.ol))

    -- an unfinished transaction is the open one, or its 4 is under way [N4]
    latest_or : fin ≡ false → locking s.kind ≡ true → (latest ≡ s.num) ⊎ (1 ≤ count (abort_of latest) U)
    latest_or f k = either (h.numbers.N4 k f) (λ e. inl e.1) (λ e. inr e)

    -- an abort leaves the locks on whole pages
    undone : (p : ℕ) → (keeps s.kind && (undo s).wl p) ≡ true → (keeps s.kind ≡ true) × (s.wl p ≡ true)
    undone p e = let z : (keeps s.kind && s.wl p) ≡ true = rw (undo_wl s) at e in (and_l (keeps s.kind) _ z, and_r (keeps s.kind) _ z)

    owns_locks : Owns s (λ op d. LocksDid d)
    unfolding read_local record_read read_ask write_local write_ask drop_pages
    owns_locks =
        record {
          refused = λ op n. still;
          begins = λ a b. rw (append_nil U) (began h.locks (s.num + 1) b (λ x. ((h.tokens.S6 b).0 x).1));
          reads_own = λ a v b c e. still;
          reads_again = λ a v b c e f. still;
          reads_here = λ a b c e f g. still;
          reads_ask = λ a b c e f g. asks_locks (ForRead a) (ReadRequest a s.num) c.idle (λ p. refl);
          writes_here = λ p f b c e. under_locks p (of_page p f) b e;
          writes_ask = λ p f b c e. asks_locks (ForWrite p (of_page p f)) _ c.idle (λ q. by_b (locking s.kind) (λ k. rw k refl) (λ k. rw k refl));
          commits = λ c. asks_locks ForCommit (Commit (work_of s)) c.idle (λ p. refl);
          aborts = λ c.
              ends (does (AbortedFor 0) (undo s) (cond (locking s.kind) (Abort s.num ∷ []) []))
              (rw (undo_kind s)
              (by_b (locking s.kind) (λ k. rw k (aborts h.locks _ undone (λ a e. latest_or (h.object a e).0 k) (λ v p e. latest_or ((h.whole p e).0 v) k)))
              (λ k. rw (k, append_nil U) (free (λ a e. both (locking s.kind) (h.object a e).1 k) (λ v p e. both (locking s.kind) (h.whole p e).1 k) (λ p e. both (locking s.kind) (keeps_locks s.kind (undone p e).0) k) (none_due i OL WL _ _ nowhere D h.locks.K7)))));
          purges = λ p b r n e v. push_up (Purge p) (λ x y. leaving h x (rw (eqb_yes x p y) n) (rw (eqb_yes x p y) r)) h.locks;
        }

    pub owner_locks : (op : Op) → LocksDid (perform op s)
    owner_locks op = performs s (λ o d. LocksDid d) owns_locks op

  -- THE STATION'S MOVES: m is taken from the down line
  module _ (s : Station) where
    abbrev Took : Down → Did → Type 0
    Took m d = Around i skind q OL WL latest fin U (m ∷ D) s → is_refused d.answer ≡ false → LocksDid d

    -- the wait is over with the one token [S1a]
    over_locks : {wr : ℕ → Val} {ol wl : ℕ → Bool} → Quiet skind s.kind s.num s.opened q U D → Locks i s.kind s.num s.opened wr ol wl (for_write s.wait) OL WL latest U D
        → Locks i s.kind s.num s.opened wr ol wl nowhere OL WL latest (U ++ []) D
    over_locks k g = rw (append_nil U) (rewaits g nowhere (λ a z. absurd (quiet_objects k (page_of a) z)) (quiet_grants k i OL WL nowhere _))

    -- a page comes: what was asked for is written, under the lock that it brings
    page_locks : (l : Lock) (a t : ℕ) (v : ℕ → ℕ) (u : ℕ → Bool) (x : ℕ → ℕ) (pg : ℕ) (y : ℕ → Val) → live s t ≡ true → s.wait ≡ ForWrite pg y → locking s.kind ≡ is_lock l → ForPage l a pg y → Took (Page l a t v u x) (does Written (write_local y (arrived l a v u x s)) [])
    unfolding write_local arrive take_lock
    page_locks NoLock a t v u x pg y e w k c h r =
        over_locks (took_down (Page NoLock a t v u x) (rw (live_hot skind q latest fin U D s t e) refl) h.tokens)
        (pop_down (Page NoLock a t v u x) refl (λ b f. absurd (false≢true f)) (λ p f. absurd (false≢true f))
        (writes h.locks y s.ol s.wl (λ b f. f) (λ b f. inl f) (λ p f. inl f) (λ p f. f) (λ g o n b f. both (locking s.kind) g k) (λ g o b f. both (locking s.kind) g k)))
    page_locks ObjectLock a t v u x pg y e w k c h r =
        let due : (b : ℕ) → for_write s.wait b ≡ has (y b) = λ b. rw w refl in
        over_locks (took_down (Page ObjectLock a t v u x) refl h.tokens)
        (pop_down (Page ObjectLock a t v u x) refl (λ b f g. (and_l s.opened _ e, wrote_now y s.wr b (sym (due b) ∙ g))) (λ p f. absurd (false≢true f))
        (writes h.locks y (λ b. s.ol b || for_write s.wait b) s.wl (λ b f. rw f refl) (λ b f. or_yes (s.ol b) (for_write s.wait b) f (λ z. inl z) (λ z. inr (sym (due b) ∙ z))) (λ p f. inl f) (λ p f. f)
        (λ g o n b f. either (h.locks.K7.0 b (due b ∙ f)) (λ z. inl z) (λ z. h.locks.K2a g o n b (h.locks.K3a b z)))
        (λ g o b f. inl (sym (h.numbers.N8.0 e).0 ∙ eqb_yes t s.num (and_r s.opened _ e)))))
    page_locks WholeLock a t v u x pg y e w k c h r =
        let known = h.sets.K11 pg (rw w (eqb_same pg)) in
        let some : meets y pg ≡ true = rw w at known.0 in
        let whole-page : (b : ℕ) → has (y b) ≡ true → page_of b ≡ page_of a = λ b f. known.1 b (rw w f) ∙ sym c in
        over_locks (took_down (Page WholeLock a t v u x) refl h.tokens)
        (pop_down (Page WholeLock a t v u x) refl (λ b f. absurd (false≢true f))
        (λ p f.
        let r = meets_some y pg some in
        (and_l s.opened _ e, meets_yes (over y s.wr) p r.0 (r.1 ∙ sym c ∙ sym (eqb_yes p (page_of a) f)) (wrote_now y s.wr r.0 r.2), rw f refl))
        (writes h.locks y s.ol (upd s.wl (page_of a) true) (λ b f. f) (λ b f. inl f)
        (λ p f. by_eq p (page_of a) (λ z. inr (rw (eqb_yes p (page_of a) z ∙ c) some, rw (eqb_yes p (page_of a) z) h.locks.K7.0)) (λ z. inl (rw z at f)))
        (λ p f. by_eq p (page_of a) (λ z. rw z refl) (λ z. rw z f))
        (λ g o n b f. inr (rw (whole-page b f) h.locks.K7.0)) (λ g o b f. inl (sym (h.numbers.N8.0 e).0 ∙ eqb_yes t s.num (and_r s.opened _ e)))))

    split_locks : (p t : ℕ) → locking s.kind ≡ true → Took (Deescalate p t) (on_deescalate p t s)
    unfolding on_deescalate loosen
    split_locks p t k h r =
        let u : ℕ = answers_for t s in
        let set : ℕ → Bool = written_on p u s in
        let g : Locks i s.kind s.num s.opened s.wr s.ol s.wl (for_write s.wait) OL WL latest U D = pop_down (Deescalate p t) refl (λ b f. absurd (false≢true f)) (λ x f. absurd (false≢true f)) h.locks in
        by_b (gives_up p t s)
        (λ e.
        rw e
        (splits g p u set (λ a f. and_r (live s u && eqb (page_of a) p) _ f)
        (λ v f c w.
        let o : live s t ≡ true = rw v at (and_l (keeps s.kind || live s t) _ e) in
        let x = meets_some s.wr p w in
        let same : latest ≡ s.num = either (g.K9 k c x.0 x.2) (λ y. y) (λ y. both (keeps s.kind) y.0 v) in
        rw v (eqb_yes t s.num (and_r s.opened _ o) ∙ sym same))))
        (λ e. rw e (plain_up (WrittenSet p u set) (λ x. refl) g))

    -- the server has ended the transaction: it has no lock
    ended_free : (m : Down) → fin ≡ true → (w : ℕ → Bool) → ((p : ℕ) → w p ≡ true → (keeps s.kind ≡ true) × (s.wl p ≡ true)) → Around i skind q OL WL latest fin U (m ∷ D) s → Settled i s.kind w OL WL latest (U ++ []) D
    ended_free m e w x h =
        rw (append_nil U)
        (free (λ a f. both fin e (h.object a f).0) (λ v p f. both fin e ((h.whole p f).0 v)) (λ p f. let z = x p f in (z.0, h.locks.K2b p z.1 (inl z.0))) (none_due i OL WL _ _ nowhere D h.locks.K7.1))

    own_kept : (p : ℕ) → kept_whole s p ≡ true → (keeps s.kind ≡ true) × (s.wl p ≡ true)
    own_kept p e = (and_l (keeps s.kind) _ e, and_r (keeps s.kind) _ e)

    undone_kept : (v : Station) → v.wl ≡ s.wl → (p : ℕ) → (keeps s.kind && (undo v).wl p) ≡ true → (keeps s.kind ≡ true) × (s.wl p ≡ true)
    undone_kept v b p e = own_kept p (rw (undo_wl v, b) at e)

    takes_locks : Takes s Took
    unfolding record_read arrive take_lock do_callback mark drop_pages on_committed on_aborted
    takes_locks =
        record {
          refused = λ m e h r. absurd (false≢true (sym r));
          old_page = λ a t v u x e h r. rw (append_nil U) (pop_down (Page NoLock a t v u x) refl (λ b f. absurd (false≢true f)) (λ p f. absurd (false≢true f)) h.locks);
          page_read = λ a t v u x e f h r. over_locks (took_down (Page NoLock a t v u x) (rw (live_hot skind q latest fin U D s t e) refl) h.tokens) (pop_down (Page NoLock a t v u x) refl (λ b g. absurd (false≢true g)) (λ p g. absurd (false≢true g)) h.locks);
          page_write = λ l a t v u x p y e f k c h r. page_locks l a t v u x p y e f k c h r;
          deescalates = λ p t k h r. split_locks p t k h r;
          keeps = λ k t set e f h r. plain_up (Busy k t) (λ p. refl) (pop_down (Callback k t set) refl (λ b g. absurd (false≢true g)) (λ p g. absurd (false≢true g)) h.locks);
          dones = λ k t set e f h r.
              push_up (Done k t (drops set s)) (λ p y. leaving h p (drops_unused set s p y) (drops_unasked set s p y))
              (pop_down (Callback k t set) refl (λ b g. absurd (false≢true g)) (λ p g. absurd (false≢true g)) h.locks);
          commits = λ t n e f h r. ends _ (ended_free (Committed t n) h.numbers.N8.0.1 _ own_kept h);
          aborts = λ t c e f h r. ends _ (rw (undo_kind s) (ended_free (Aborted t c) h.numbers.N8.0.1 _ (undone_kept s refl) h));
          invalid_ends = λ d k e f h r.
              ends _
              (rw (append_nil U, undo_kind (mark d s))
              (free (λ a g. both (locking s.kind) (h.object a g).1 k) (λ v p g. both (locking s.kind) (h.whole p g).1 k) (λ p g. both (locking s.kind) (keeps_locks s.kind (undone_kept (mark d s) refl p g).0) k) (none_due i OL WL _ _ nowhere D h.locks.K7.1)));
          invalid = λ d k e h r. rw (append_nil U) (pop_down (Invalidate d) refl (λ b g. absurd (false≢true g)) (λ p g. absurd (false≢true g)) h.locks);
        }

    pub station_locks : (m : Down) → Around i skind q OL WL latest fin U (m ∷ D) s → is_refused (station_step m s).answer ≡ false → LocksDid (station_step m s)
    station_locks m h r = takes s Took takes_locks m h r
