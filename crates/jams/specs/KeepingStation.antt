-- The moves of station i, of kind 2, and its owner, and what it keeps of page p. A 19 becomes an 8 and the page is given up, whatever
-- transaction is open.
use Rattle.std.specs.Prelude.{◌≡◌, ◌&&◌, ◌||◌, cond, List, [], ◌∷◌, ◌++◌, ◌⊎◌}
use Rattle.std.proofs.Math.Path.{refl, sym}
use Rattle.std.proofs.Common.{◌∙◌, arith}
use Rattle.std.proofs.Math.Bool.{Bool, true, false}
use Rattle.std.proofs.lemmas.Bool.{false≢true}
use Rattle.std.proofs.Math.Logic.{inl, inr}
use Prim.Native.Nat.{ℕ, suc, ◌≤◌}
use Rattle.std.proofs.Math.Dec.{eqb}
use Rattle.sets.specs.Base.{upd, Val, has, none_at}
use Rattle.sets.specs.Laws.{by_b, by_eq, or_yes}
use Rattle.sets.proofs.Laws.{eqb_same, eqb_yes, eqb_no, and_l, and_r, or_no, any_some, not_yes}
use Rattle.line.specs.All.{All, all_map}
use Rattle.line.specs.Messages.{page_of, address, locking, keeps, Up, ReadRequest, WriteRequest, Commit, Abort, Purge, Busy, Done, WrittenSet, Lock, NoLock, ObjectLock, WholeLock, Down, Page, Deescalate, Callback, Committed, Aborted, Written, AbortedFor}
use Rattle.line.specs.Station as St
use Rattle.line.specs.Station.{Station, Did, does, did_station, set_kept, NotKept, KeptCall, work_of, live, may_write, used_page, requested, waiting, drops, mark, drop_pages, record_read, write_local, do_callback, closed, close, undo, read_local, read_ask, write_ask, arrive, take_lock, written_on, loosen, on_deescalate, on_committed, on_aborted, station_step, ForWrite, for_write, some_on, lowest_on, named, of_page, answers_for, kept_whole}
use Rattle.line.specs.Server.{Server}
use Rattle.line.specs.Line.{Op, perform, is_refused}
use Rattle.line.specs.Apart.{keeps_locks}
use Rattle.line.specs.Truth.{count}
use Rattle.truth.specs.Clauses.{stale, token_down, brings}
use Rattle.truth.specs.Tokens.{both, Quiet}
use Rattle.truth.proofs.Tokens.{idle_quiet, took_down, of_page_lem, undo_kind, undo_num}
use Rattle.truth.proofs.Coverage.{unused, tokens_unasked, drops_unused, drops_unasked, drops_unkept}
use Rattle.truth.specs.Frame.{Active, Owns, is_lock, arrived, Takes, ForPage}
use Rattle.truth.proofs.Frame.{count_less, append_nil, append_assoc, performs, closes, takes}
use Rattle.truth.specs.GoalsLists.{either}
use Rattle.jams.specs.Clauses.{answer_number, grants_whole, set_for, Unended, Keeping}
use Rattle.jams.specs.Keeping.{pop_down, push_up, plain_up, answers, opens, shuts, writes, took_end}
use Rattle.jams.specs.DeescalationStation.{Known, whole_token}
use Rattle.jams.specs.Locks.{whole_brings}
use Rattle.jams.specs.LocksStation.{may_write_lem, undo_wl}
use Rattle.jams.specs.SetsLayer.{may_locks}

abbrev pub KeAt : Server → ℕ → ℕ → Station → List Up → List Down → Type 0
KeAt S i p s U D = Keeping i p s.num s.opened s.wr (s.wl p) S.ol (S.wl p) (S.asked p) (S.queue i).want (S.queue i).req (S.latest i) (S.fin i) U D

-- the station did d, from up line U
abbrev pub KeDid : Server → ℕ → ℕ → List Up → List Down → Did → Type 0
KeDid S i p U D d = KeAt S i p d.station (U ++ d.sent) D

module _ (S : Server) (i p : ℕ) (s : Station) (U : List Up) (D : List Down) where
  -- a page that it has not whole and that is not on its way is given up [K1]
  gone : s.wl p ≡ false → count (grants_whole p) D ≡ 0 → KeAt S i p s U D → S.wl p ≡ suc i → 1 ≤ count (set_for p) U
  gone w n h e = either (h.K1 e) (λ x. absurd (false≢true (sym w ∙ x))) (λ x. either x (λ y. y) (λ y. absurd (omega (arith, y, n))))

  module _ (k : Known S i s U D) where
    -- an 18 is a token ..
    idle_none : waiting s.wait ≡ false → count (grants_whole p) D ≡ 0
    idle_none e =
        let old : ℕ → Bool = stale s.kind s.num s.opened in
        omega (arith, (idle_quiet e k.tokens).no_down, count_less (grants_whole p) (token_down old) (whole_token old p) D)

    -- .. and brings the page asked for
    unasked_none : locking s.kind ≡ true → requested s.wait p ≡ false → count (grants_whole p) D ≡ 0
    unasked_none l r = omega (arith, (tokens_unasked k.tokens l p r).down, count_less (grants_whole p) (brings p) (whole_brings p) D)

    -- what may be written here was written before, unless the page is held whole [K3, K6d]
    written_here : locking s.kind ≡ true → KeAt S i p s U D → 1 ≤ count (set_for p) U → (a : ℕ) → may_write a s ≡ true → page_of a ≡ p → (has (s.wr a) ≡ true) ⊎ ((S.ol a ≡ suc i) × (S.latest i ≡ s.num))
    written_here l h n a m q =
        or_yes (s.ol a) (s.wl (page_of a)) (rw l at m) (λ t. inl (k.locks.K3a a t)) (λ t. absurd (false≢true (sym (h.K6d_up n).0 ∙ (rw q at t))))

    -- what 8s name is not above the latest of an ended transaction
    over : S.latest i ≡ s.num → S.fin i ≡ true → All (λ x. Unended (S.latest i) (S.fin i) (answer_number x) → ⊥) U
    over e f = all_map (λ x. answer_number x ≤ s.num) (λ x. Unended (S.latest i) (S.fin i) (answer_number x) → ⊥) (λ x b z. either z (λ y. omega (arith, b, e, y)) (λ y. both (S.fin i) f y.1)) U k.numbers.N10a

-- nothing is written on a page not used
unused_page : (s : Station) (p : ℕ) → used_page s p ≡ false → s.opened ≡ true → (a : ℕ) → page_of a ≡ p → has (s.wr a) ≡ true → ⊥
unused_page s p n o a g w = both (has (s.wr a)) w (unused s p a n g).1

module _ (S : Server) (i p : ℕ) (U : List Up) (D : List Down) where
  still : (s : Station) → KeAt S i p s U D → KeAt S i p s (U ++ []) D
  still s h = rw (append_nil U) h

  -- the transaction is over; kept callbacks are done, and drop no page that is kept
  record Ending (d : Did) : Type 0 where
    keeping : KeDid S i p U D d
    kind : keeps d.station.kind ≡ true
    over : d.station.opened ≡ false
    none18 : count (grants_whole p) D ≡ 0

  close_ke : (d : Did) → keeps d.station.kind ≡ true → count (grants_whole p) D ≡ 0
      → Keeping i p d.station.num false none_at (d.station.wl p) S.ol (S.wl p) (S.asked p) (S.queue i).want (S.queue i).req (S.latest i) (S.fin i) (U ++ d.sent) D → KeDid S i p U D (close d)
  unfolding closed do_callback mark drop_pages
  close_ke d v n h =
      (closes Ending
      (λ r t set e f g.
      let st : Station = set_kept e.station (upd e.station.kept r NotKept) in
      record {
        keeping =
            rw (append_assoc U e.sent (Done r t (drops set st) ∷ []))
            (push_up (Done r t (drops set st)) refl (λ q. absurd (false≢true q))
            (λ q. gone S i p e.station (U ++ e.sent) D (rw g.kind at (drops_unkept set st p q)) g.none18 g.keeping)
            (λ q o. absurd (false≢true (sym g.over ∙ o))) g.keeping);
        kind = g.kind;
        over = g.over;
        none18 = g.none18;
      })
      d (record { keeping = rw v h; kind = v; over = refl; none18 = n })).keeping

  -- THE OWNER'S MOVES
  module _ (s : Station) (v : keeps s.kind ≡ true) (k : Known S i s U D) (h : KeAt S i p s U D) where
    locks : locking s.kind ≡ true
    locks = keeps_locks s.kind v

    -- who asks for a lock on the page has it not whole
    unheld : (q : ℕ) (f : ℕ → Val) → some_on q (named f s) ≡ true → eqb p q ≡ true → s.wl p ≡ false
    unheld q f m e =
        let r = any_some 8 (λ o. named f s (address q o)) m in
        let a : ℕ = address q r.0 in
        let y : may_write a s ≡ false = not_yes (may_write a s) (and_r (has (f a)) _ r.2) in
        let z : (s.ol a || s.wl (page_of a)) ≡ false = sym (may_locks s a locks) ∙ y in
        rw (eqb_yes p q e, ← of_page_lem q r.0 r.1) (or_no (s.ol a) (s.wl (page_of a)) z).1

    asked : (q : ℕ) (f : ℕ → Val) → Active s → some_on q (named f s) ≡ true → KeDid S i p U D (write_ask q f s)
    unfolding write_ask
    asked q f c m =
        rw locks
        (push_up (WriteRequest q s.num (named f s)) refl (λ e. gone S i p s U D (unheld q f m e) (idle_none S i p s U D k c.idle) h) (λ e. absurd (false≢true e)) (λ e. absurd (false≢true e)) h)

    owns_ke : Owns s (λ op d. KeDid S i p U D d)
    unfolding read_local record_read read_ask write_local write_ask drop_pages
    owns_ke =
        record {
          refused = λ op n. still s h;
          begins = λ a b. rw (append_nil U) (opens h b (λ x. ((k.tokens.S6 b).0 x).1) k.numbers.N10a);
          reads_own = λ a x b c e. still s h;
          reads_again = λ a x b c e f. still s h;
          reads_here = λ a b c e f g. still s h;
          reads_ask = λ a b c e f g. plain_up (ReadRequest a s.num) refl refl refl h;
          writes_here = λ q f b c e. rw (append_nil U) (writes h (of_page q f) (λ n a w g. written_here S i p s U D k locks h n a (may_write_lem s q (of_page q f) b e a w) g));
          writes_ask = λ q f b c e. asked q (of_page q f) c e;
          commits = λ c. plain_up (Commit (work_of s)) refl refl refl h;
          aborts = λ c.
              close_ke (does (AbortedFor 0) (undo s) (cond (locking s.kind) (Abort s.num ∷ []) [])) (rw (undo_kind s) v) (idle_none S i p s U D k c.idle)
              (rw (locks, undo_num s, undo_wl s) (shuts h));
          purges = λ q a b c e n.
              push_up (Purge q) refl (λ z. absurd (false≢true z))
              (λ z.
              let same : p ≡ q = eqb_yes p q z in
              gone S i p s U D (rw (v, ← same) at n) (unasked_none S i p s U D k locks (rw same b)) h)
              (λ z. unused_page s p (rw (eqb_yes p q z) c)) h;
        }

    pub owner_ke : (op : Op) → KeDid S i p U D (perform op s)
    owner_ke op = performs s (λ o d. KeDid S i p U D d) owns_ke op

  -- THE STATION'S MOVES: m is taken from the down line
  module _ (s : Station) (v : keeps s.kind ≡ true) where
    abbrev Took : Down → Did → Type 0
    Took m d = Known S i s U (m ∷ D) → KeAt S i p s U (m ∷ D) → is_refused d.answer ≡ false → KeDid S i p U D d

    kept_locks : locking s.kind ≡ true
    kept_locks = keeps_locks s.kind v

    -- a page brings the lock under which the owner's write is done [K7, K6d]
    wrote : (l : Lock) (a t : ℕ) (n : ℕ → ℕ) (u : ℕ → Bool) (x : ℕ → ℕ) (pg : ℕ) (y : ℕ → Val) → live s t ≡ true → s.wait ≡ ForWrite pg y → locking s.kind ≡ is_lock l → ForPage l a pg y → Took (Page l a t n u x) (does Written (write_local y (arrived l a n u x s)) [])
    unfolding write_local arrive take_lock
    wrote NoLock a t n u x pg y z w e c k h r = both (locking s.kind) kept_locks e
    wrote ObjectLock a t n u x pg y z w e c k h r =
        rw (append_nil U)
        (writes (pop_down (Page ObjectLock a t n u x) (s.wl p) refl refl (λ f. f) (λ f. absurd (false≢true f)) (λ f. inl f) h) y
        (λ g b f q. either (k.locks.K7.0 b (rw w f)) (λ y. inr (y, sym (k.numbers.N8.0 z).0 ∙ eqb_yes t s.num (and_r s.opened _ z))) (λ y. inl (k.locks.K3a b y))))
    wrote WholeLock a t n u x pg y z w e c k h r =
        let far : 1 ≤ count (set_for p) U → eqb p (page_of a) ≡ false = λ g. by_b (eqb p (page_of a)) (λ f. absurd (omega (arith, rw f at (h.K6d_up g).1))) (λ f. f) in
        let page : (b : ℕ) → has (y b) ≡ true → page_of b ≡ page_of a = λ b f. (k.sets.K11 pg (rw w (eqb_same pg))).1 b (rw w f) ∙ sym c in
        let g = pop_down (Page WholeLock a t n u x) (upd s.wl (page_of a) true p) refl refl (λ f. by_eq p (page_of a) (λ q. rw q refl) (λ q. rw q f)) (λ f. rw f refl) (λ f. by_eq p (page_of a) (λ q. inr q) (λ q. inl (rw q at f))) h in
        rw (append_nil U) (writes g y (λ q b f j. absurd (false≢true (sym (far q) ∙ (rw (← page b f, j) (eqb_same p))))))

    -- 19 for the page: the station has it whole [K1, K6]
    held_whole : (t : ℕ) → KeAt S i p s U (Deescalate p t ∷ D) → s.wl p ≡ true
    held_whole t h =
        let one : cond {A = ℕ} (eqb p p) 1 0 ≡ 1 = rw (eqb_same p) refl in
        either (h.K1 (h.K6b (omega (arith, one))).0) (λ x. x)
        (λ x. either x (λ y. absurd (omega (arith, h.K6c, one, y))) (λ y. absurd (omega (arith, y, h.K6d_down.0 (eqb_same p)))))

    own_answer : (t : ℕ) → s.opened ≡ true → answers_for t s ≡ s.num
    own_answer t o = rw (v, o) refl

    gives : (t : ℕ) → Took (Deescalate p t) (on_deescalate p t s)
    unfolding on_deescalate loosen
    gives t k h r =
        let w : s.wl p ≡ true = held_whole t h in
        let u : ℕ = answers_for t s in
        let set : ℕ → Bool = written_on p u s in
        let z : St.gives_up p t s ≡ true = rw (v, w) refl in
        rw (z, eqb_same p)
        (answers t u set
        (λ o. (own_answer t o, λ a g x. rw (v, o, eqb_same s.num, g, eqb_same p, x) refl))
        (λ a x. let z = and_l (live s u && eqb (page_of a) p) _ x in (and_r (live s u && eqb (page_of a) p) _ x, and_l s.opened _ (and_l (live s u) _ z))) h)

    -- .. for another page
    gives_other : (q t : ℕ) → eqb q p ≡ false → Took (Deescalate q t) (on_deescalate q t s)
    unfolding on_deescalate loosen
    gives_other q t n k h r =
        let u : ℕ = answers_for t s in
        let far : eqb p q ≡ false = by_eq p q (λ e. absurd (eqb_no q p n (sym (eqb_yes p q e)))) (λ e. e) in
        let g = plain_up (WrittenSet q u (written_on q u s)) n refl refl (pop_down (Deescalate q t) (s.wl p) refl n (λ f. f) (λ f. absurd (false≢true f)) (λ f. inl f) h) in
        by_b (St.gives_up q t s) (λ z. rw (z, far) g) (λ z. rw z g)

    ends_none : (m : Down) → token_down (stale s.kind s.num s.opened) m ≡ true → Known S i s U (m ∷ D) → count (grants_whole p) D ≡ 0
    ends_none m e k =
        let old : ℕ → Bool = stale s.kind s.num s.opened in
        let q : Quiet (S.kind i) s.kind s.num s.opened (S.queue i) U D = took_down m e k.tokens in
        omega (arith, q.no_down, count_less (grants_whole p) (token_down old) (whole_token old p) D)

    latest_num : (t : ℕ) → live s t ≡ true → t ≡ S.latest i → S.latest i ≡ s.num
    latest_num t e q = sym q ∙ eqb_yes t s.num (and_r s.opened _ e)

    takes_ke : Takes s Took
    unfolding record_read arrive take_lock do_callback mark drop_pages on_committed on_aborted
    takes_ke =
        record {
          refused = λ m e k h r. absurd (false≢true (sym r));
          old_page = λ a t n u x e k h r. still s (pop_down (Page NoLock a t n u x) (s.wl p) refl refl (λ f. f) (λ f. absurd (false≢true f)) (λ f. inl f) h);
          page_read = λ a t n u x e f k h r. still s (pop_down (Page NoLock a t n u x) (s.wl p) refl refl (λ g. g) (λ g. absurd (false≢true g)) (λ g. inl g) h);
          page_write = λ l a t n u x pg y e f g c k h r. wrote l a t n u x pg y e f g c k h r;
          deescalates = λ q t e k h r. by_eq q p (λ z. by_page q t z k h r) (λ z. gives_other q t z k h r);
          keeps = λ r t set e f k h z. plain_up (Busy r t) refl refl refl (pop_down (Callback r t set) (s.wl p) refl refl (λ g. g) (λ g. absurd (false≢true g)) (λ g. inl g) h);
          dones = λ r t set e f k h z.
              let g = pop_down (Callback r t set) (s.wl p) refl refl (λ g. g) (λ g. absurd (false≢true g)) (λ g. inl g) h in
              push_up (Done r t (drops set s)) refl (λ q. absurd (false≢true q))
              (λ q. gone S i p s U D (rw v at (drops_unkept set s p q)) (omega (arith, unasked_none S i p s U _ k kept_locks (drops_unasked set s p q))) g)
              (λ q. unused_page s p (drops_unused set s p q)) g;
          commits = λ t n e f k h r.
              close_ke _ v (ends_none (Committed t n) refl k)
              (rw (append_nil U) (took_end (Committed t n) refl refl (over S i p s U _ k (latest_num t e k.numbers.N8.0.0) k.numbers.N8.0.1) h));
          aborts = λ t c e f k h r.
              close_ke _ (rw (undo_kind s) v) (ends_none (Aborted t c) refl k)
              (rw (append_nil U, undo_num s, undo_wl s) (took_end (Aborted t c) refl refl (over S i p s U _ k (latest_num t e k.numbers.N8.0.0) k.numbers.N8.0.1) h));
          invalid_ends = λ d e f g k h r. both (locking s.kind) kept_locks e;
          invalid = λ d e f k h r. both (locking s.kind) kept_locks e;
        }
      where
        by_page : (q t : ℕ) → eqb q p ≡ true → Took (Deescalate q t) (on_deescalate q t s)
        by_page q t z = rw (eqb_yes q p z) (gives t)

    pub station_ke : (m : Down) → Known S i s U (m ∷ D) → KeAt S i p s U (m ∷ D) → is_refused (station_step m s).answer ≡ false → KeDid S i p U D (station_step m s)
    station_ke m k h r = takes s Took takes_ke m k h r
