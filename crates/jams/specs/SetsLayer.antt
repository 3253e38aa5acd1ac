-- The layer of sets: what a 2, or the waiter that it became, names is what the owner waits to write and has no lock on yet. While the
-- request is out, locks only come (by a 19), and what is to be written stays.
use Rattle.std.specs.Prelude.{◌≡◌, true, false, ◌&&◌, ◌||◌, cond, List, [], ◌∷◌, ◌++◌, ◌⊎◌, eqb}
use Rattle.std.proofs.Math.Path.{refl}
use Rattle.std.proofs.Common.{sym, ap, ◌∙◌, arith}
use Rattle.std.proofs.Math.Bool.{Bool}
use Rattle.std.proofs.lemmas.Bool.{false≢true}
use Rattle.std.proofs.Math.Logic.{inl, inr}
use Prim.Native.Nat.{ℕ, ◌<◌}
use Rattle.sets.specs.Base.{upd, snoc, Val, has}
use Rattle.sets.specs.Laws.{by_b, by_eq, or_yes}
use Rattle.sets.proofs.Laws.{eqb_same, eqb_yes, and_l, and_r, not_yes, any_some}
use Rattle.line.specs.All.{All, all_map}
use Rattle.line.specs.Messages.{page_of, address, locking, Work, Up, ReadRequest, WriteRequest, Commit, Abort, Purge, Busy, Done, WrittenSet, Down, last_number}
use Rattle.line.specs.Station as S
use Rattle.line.specs.Station.{Station, Did, does, did_station, set_kept, Wait, Idle, ForRead, ForWrite, ForCommit, waiting, for_write, writes_to, some_on, lowest_on, may_write, named, of_page, live, work_of, mark, drop_pages, record_read, write_local, do_callback, closed, close, read_local, read_ask, write_ask, arrive, take_lock, on_deescalate, on_committed, on_aborted, station_step}
use Rattle.line.specs.Server.{Server, Serving, Waiter, no_waiter, Want, NoWant, WantRead, WantWrite, WantCommit, is_want, notice, finish, join, leave, send_page, serve_now, join_read, join_write, join_commit, commit_now, abort, write, archive, install, unlist, mark_busy, answered, loosen, start, ask, serve_read, call, grant_page, grant_object, install_waiter}
use Rattle.line.specs.Line.{World, Op, perform, carry_up, carry_down}
use Rattle.line.specs.Runs.{tell_keeps}
use Rattle.truth.specs.Clauses.{stale, token_up, Tokens}
use Rattle.truth.specs.Frame.{Active, Owns, Takes, Accepts}
use Rattle.truth.proofs.Frame.{append_nil, all_snoc, count_none, if_serving, installs, noticed_queue, performs, closes, takes, accepts}
use Rattle.truth.specs.Inv.{Acts, Over}
use Rattle.truth.proofs.Tokens.{idle_quiet, idle_page_write, of_page_lem}
use Rattle.jams.specs.Clauses.{NamesSet, NamesUp, Sets, SetsAt, SetsOf, Orderly}
use Rattle.line.specs.Asks.{Asks}

-- WHAT NO WRITE IS OUT FOR

module _ (w : Wait) (n : (p : ℕ) → writes_to w p ≡ false) (ol : ℕ → Bool) where
  none_named : (p : ℕ) (set : ℕ → Bool) → NamesSet w ol p set
  none_named p set e = absurd (false≢true (sym (n p) ∙ e))

  none_up : (m : Up) → NamesUp w ol m
  none_up (ReadRequest a t) = tt
  none_up (WriteRequest p t set) = none_named p set
  none_up (Commit k) = tt
  none_up (Abort t) = tt
  none_up (Purge p) = tt
  none_up (Busy r t) = tt
  none_up (Done r t d) = tt
  none_up (WrittenSet p t set) = tt

  all_none : (U : List Up) → All (NamesUp w ol) U
  all_none [] = tt
  all_none (m ∷ U) = (none_up m, all_none U)

  unasked : (q : Waiter) (U : List Up) → Sets w ol q U
  unasked q U = record { S8_up = all_none U; K11 = λ p e. absurd (false≢true (sym (n p) ∙ e)); S8_waiter = λ e. none_named (page_of q.req) q.writes }

-- A 2 IS A TOKEN
quiet_up : (w : Wait) (ol : ℕ → Bool) (old : ℕ → Bool) (m : Up) → token_up old m ≡ false → NamesUp w ol m
quiet_up w ol old (ReadRequest a t) e = tt
quiet_up w ol old (WriteRequest p t set) e = absurd (false≢true (sym e))
quiet_up w ol old (Commit k) e = tt
quiet_up w ol old (Abort t) e = tt
quiet_up w ol old (Purge p) e = tt
quiet_up w ol old (Busy r t) e = tt
quiet_up w ol old (Done r t d) e = tt
quiet_up w ol old (WrittenSet p t set) e = tt

-- MORE LOCKS
more_set : (w : Wait) (ol ol' : ℕ → Bool) → ((b : ℕ) → ol b ≡ true → ol' b ≡ true) → (p : ℕ) (set : ℕ → Bool) → NamesSet w ol p set → NamesSet w ol' p set
more_set w ol ol' y p set h e = let k = h e in (k.0, λ b f. by (k.1 b f) (y b))
  where
    by : {A B C : Type 0} → A ⊎ B → (B → C) → A ⊎ C
    by (inl a) f = inl a
    by (inr b) f = inr (f b)

more_up : (w : Wait) (ol ol' : ℕ → Bool) → ((b : ℕ) → ol b ≡ true → ol' b ≡ true) → (m : Up) → NamesUp w ol m → NamesUp w ol' m
more_up w ol ol' y (ReadRequest a t) h = tt
more_up w ol ol' y (WriteRequest p t set) h = more_set w ol ol' y p set h
more_up w ol ol' y (Commit k) h = tt
more_up w ol ol' y (Abort t) h = tt
more_up w ol ol' y (Purge p) h = tt
more_up w ol ol' y (Busy r t) h = tt
more_up w ol ol' y (Done r t d) h = tt
more_up w ol ol' y (WrittenSet p t set) h = tt

module _ {w : Wait} {ol : ℕ → Bool} {q : Waiter} {U : List Up} (h : Sets w ol q U) where
  more_locks : (ol' : ℕ → Bool) → ((b : ℕ) → ol b ≡ true → ol' b ≡ true) → Sets w ol' q U
  more_locks ol' y =
      record {
        S8_up = all_map (NamesUp w ol) (NamesUp w ol') (more_up w ol ol' y) U h.S8_up;
        K11 = h.K11;
        S8_waiter = λ e. more_set w ol ol' y (page_of q.req) q.writes (h.S8_waiter e);
      }

  -- a message that is no 2
  plain : (m : Up) → NamesUp w ol m → Sets w ol q (snoc U m)
  plain m k = record { S8_up = all_snoc (NamesUp w ol) U m h.S8_up k; K11 = h.K11; S8_waiter = h.S8_waiter }

  still : Sets w ol q (U ++ [])
  still = rw (append_nil U) h

-- a locking station writes under its locks
pub may_locks : (s : Station) (a : ℕ) → locking s.kind ≡ true → may_write a s ≡ (s.ol a || s.wl (page_of a))
may_locks s a e = rw e refl

-- THE STATION'S MOVES

abbrev Did8 : Waiter → List Up → Did → Type 0
Did8 q U d = Sets d.station.wait d.station.ol q (U ++ d.sent)

-- the end of a transaction leaves no wait
closed_idle : (d : Did) → (close d).station.wait ≡ Idle
unfolding closed do_callback drop_pages mark
closed_idle d = closes (λ k. k.station.wait ≡ Idle) (λ r t set k e h. h) d refl

module _ (q : Waiter) (U : List Up) where
  ends : (d : Did) → Did8 q U (close d)
  ends d = rw (closed_idle d) (unasked Idle (λ p. refl) _ q _)

  idle : (s : Station) → waiting s.wait ≡ false → (l : List Up) → Sets s.wait s.ol q (U ++ l)
  idle s e l = unasked s.wait (λ p. idle_page_write s.wait p e) s.ol q (U ++ l)

  module _ {skind latest : ℕ} {fin : Bool} {D : List Down} (s : Station) (k : Tokens skind s.kind s.num s.opened s.rd s.wr s.wait q latest fin U D) (h : Sets s.wait s.ol q U) where
    -- a set is asked for
    module _ (p : ℕ) (f : ℕ → Val) (b : Asks p f) (c : Active s) (n : some_on p (named f s) ≡ true) where
      -- what is asked for is written, and what is to be written is asked for or locked
      names_asked : locking s.kind ≡ true → NamesSet (ForWrite p f) s.ol p (named f s)
      names_asked l e = (λ a g z. and_l (has (f a)) _ z, λ a z. by_b (may_write a s) (λ m. inr (locked_by a z m)) (λ m. inl (rw (z, m) refl)))
        where
          -- the page is not the station's own
          unheld : s.wl p ≡ false
          unheld =
              let r = any_some 8 (λ o. named f s (address p o)) n in
              let y : may_write (address p r.0) s ≡ false = not_yes (may_write (address p r.0) s) (and_r (has (f (address p r.0))) _ r.2) in
              let x : (s.ol (address p r.0) || s.wl (page_of (address p r.0))) ≡ false = sym (may_locks s (address p r.0) l) ∙ y in
              by_b (s.wl p) (λ g. absurd (false≢true (sym x ∙ either_true (s.ol (address p r.0)) (s.wl (page_of (address p r.0))) (rw (of_page_lem p r.0 r.1) g)))) (λ g. g)
            where
              either_true : (x y : Bool) → y ≡ true → (x || y) ≡ true
              either_true true y g = refl
              either_true false y g = g

          locked_by : (a : ℕ) → has (f a) ≡ true → may_write a s ≡ true → s.ol a ≡ true
          locked_by a z m =
              let x : (s.ol a || s.wl (page_of a)) ≡ true = sym (may_locks s a l) ∙ m in
              or_yes (s.ol a) (s.wl (page_of a)) x (λ g. g) (λ g. absurd (false≢true (sym unheld ∙ (rw (b.page_only_lem a z) at g))))

      asked : Did8 q U (write_ask p f s)
      unfolding write_ask
      asked = by_kind (locking s.kind) refl
        where
          old : ℕ → Bool
          old = stale s.kind s.num s.opened

          one_page : (r : ℕ) → eqb r p ≡ true → (some_on r (λ a. has (f a)) ≡ true) × ((a : ℕ) → has (f a) ≡ true → page_of a ≡ r)
          one_page r e = rw (eqb_yes r p e) (b.some_written, b.page_only_lem)

          none : is_want q.want ≡ false
          none = rw (idle_quiet c.idle k).empty refl

          at_once : (m : Up) → NamesUp (ForWrite p f) s.ol m → Sets (ForWrite p f) s.ol q (snoc U m)
          at_once m g =
              record {
                S8_up = all_snoc (NamesUp (ForWrite p f) s.ol) U m (all_map (λ m. token_up old m ≡ false) (NamesUp (ForWrite p f) s.ol) (quiet_up (ForWrite p f) s.ol old) U (count_none (token_up old) U (idle_quiet c.idle k).no_up)) g;
                K11 = one_page;
                S8_waiter = λ e. absurd (false≢true (sym none ∙ ap is_want e));
              }

          by_kind : (x : Bool) → locking s.kind ≡ x → Sets (ForWrite p f) s.ol q (U ++ (cond x (WriteRequest p s.num (named f s)) (ReadRequest (lowest_on p (named f s)) s.num) ∷ []))
          by_kind true e = at_once (WriteRequest p s.num (named f s)) (names_asked e)
          by_kind false e = at_once (ReadRequest (lowest_on p (named f s)) s.num) tt

    owns : Owns s (λ op d. Did8 q U d)
    unfolding read_local record_read read_ask write_local drop_pages
    owns =
        record {
          refused = λ op n. still h;
          begins = λ e o. still h;
          reads_own = λ a v b c e. still h;
          reads_again = λ a v b c e f. still h;
          reads_here = λ a b c e f g. still h;
          reads_ask = λ a b c e f g. unasked (ForRead a) (λ p. refl) s.ol q _;
          writes_here = λ p f b c e. still h;
          writes_ask = λ p f b c e. asked p (of_page p f) b c e;
          commits = λ c. unasked ForCommit (λ p. refl) s.ol q _;
          aborts = λ c. ends _;
          purges = λ p b r n e k. plain h (Purge p) tt;
        }

    owner_sets : (op : Op) → Did8 q U (perform op s)
    owner_sets op = performs s (λ o d. Did8 q U d) owns op

  module _ (s : Station) (h : Sets s.wait s.ol q U) where
    takes_sets : Takes s (λ m d. Did8 q U d)
    unfolding record_read write_local on_deescalate S.loosen do_callback mark drop_pages on_committed on_aborted
    takes_sets =
        record {
          refused = λ m e. still h;
          old_page = λ a t v u x e. still h;
          page_read = λ a t v u x e f. unasked Idle (λ p. refl) _ q _;
          page_write = λ l a t v u x p y e f o c. unasked Idle (λ r. refl) _ q _;
          deescalates = λ p t k.
              let u : ℕ = S.answers_for t s in
              by_b (S.gives_up p t s)
              (λ e. rw e (plain (more_locks h (λ b. s.ol b || S.written_on p u s b) (λ b g. rw g refl)) (WrittenSet p u _) tt))
              (λ e. rw e (plain h (WrittenSet p u _) tt));
          keeps = λ r t set k e. plain h (Busy r t) tt;
          dones = λ r t set k e. plain h (Done r t _) tt;
          commits = λ t n e f. ends _;
          aborts = λ t c e f. ends _;
          invalid_ends = λ d k e f. ends _;
          invalid = λ d k e. still h;
        }

    station_sets : (m : Down) → Did8 q U (station_step m s)
    station_sets m = takes s (λ n d. Did8 q U d) takes_sets m

-- THE SERVER

-- an entry that is no write, or names what it named
record Names (v w : Waiter) : Type 0 where
  want : v.want ≡ WantWrite → w.want ≡ WantWrite
  req : v.want ≡ WantWrite → v.req ≡ w.req
  writes : v.want ≡ WantWrite → v.writes ≡ w.writes

same_names : (v : Waiter) → Names v v
same_names v = record { want = λ e. e; req = λ e. refl; writes = λ e. refl }

abbrev is_write : Want → Bool
is_write NoWant = false
is_write WantRead = false
is_write WantWrite = true
is_write WantCommit = false

no_names : (v w : Waiter) → is_write v.want ≡ false → Names v w
no_names v w e = record { want = λ f. absurd (false≢true (sym e ∙ ap is_write f)); req = λ f. absurd (false≢true (sym e ∙ ap is_write f)); writes = λ f. absurd (false≢true (sym e ∙ ap is_write f)) }

-- the waiting list changes at i
upd_names : (queue : ℕ → Waiter) (i : ℕ) (v : Waiter) → Names v (queue i) → (j : ℕ) → Names (upd queue i v j) (queue j)
upd_names queue i v n j = by_eq j i (λ e. rw (e, eqb_yes j i e) n) (λ e. rw e (same_names (queue j)))

renamed : {w : Wait} {ol : ℕ → Bool} {v q : Waiter} {U : List Up} → Names v q → Sets w ol q U → Sets w ol v U
renamed n h = record { S8_up = h.S8_up; K11 = h.K11; S8_waiter = λ e. rw (n.req e, n.writes e) (h.S8_waiter (n.want e)) }

module _ (t : ℕ → Station) (u : ℕ → List Up) where
  abbrev In8 : Serving → Type 0
  In8 x = (j : ℕ) → j < 8 → SetsAt x.server t u j

  on : (x y : Serving) → ((j : ℕ) → Names (y.server.queue j) (x.server.queue j)) → In8 x → In8 y
  on x y n h j b = renamed (n j) (h j b)

  left : (i : ℕ) (x : Serving) (j : ℕ) → Names (upd x.server.queue i no_waiter j) (x.server.queue j)
  left i x = upd_names x.server.queue i no_waiter (no_names no_waiter (x.server.queue i) refl)

  aborted : (i c : ℕ) (x : Serving) → In8 x → In8 (abort i c x)
  unfolding abort finish leave
  aborted i c x h = on x (abort i c x) (left i x) h

  installed : (i : ℕ) (k : Work) (x : Serving) → In8 x → In8 (install i k x)
  unfolding finish archive write leave
  installed i k x h = installs In8 i k (λ j y e g. g) x (λ j b. renamed (left i x j) (h j b))

  committed : (i : ℕ) (k : Work) (x : Serving) → In8 x → In8 (commit_now i k x)
  unfolding commit_now
  committed i k x h = if_serving In8 (eqb x.server.last last_number) {x = abort i 4 x} {y = install i k x} (λ e. aborted i 4 x h) (λ e. installed i k x h)

  acts : Acts In8 In8
  unfolding ask serve_read send_page leave call grant_object grant_page install_waiter
  acts =
      record {
        aborts = λ i c x b e h. aborted i c x h;
        asks = λ i g p x b e f h. h;
        reads = λ i x b e c h. on x (serve_read i x) (left i x) h;
        calls = λ i x b e f n c h. on x (call i x) (upd_names x.server.queue i _ (record { want = λ z. z; req = λ z. refl; writes = λ z. refl })) h;
        objects = λ i x b e c h. on x (grant_object i x) (left i x) h;
        pages = λ i x b e c f h. on x (grant_page i x) (left i x) h;
        installs = λ i x b e f c h. installed i (x.server.queue i).work x h;
      }

-- ACCEPT of m, the head of up line i
module _ (i : ℕ) (l : List Up) (w : World) (b : i < 8) (h : Orderly w) where
  abbrev Accepted : Up → Serving → Type 0
  Accepted m x = w.up i ≡ m ∷ l → In8 w.station (upd w.up i l) x

  -- without its head
  popped : (m : Up) → Accepted m (start w.server)
  popped m q j c =
      by_eq j i
      (λ e.
      let g = rw q at (h.sets i b) in
      rw (e, eqb_yes j i e) (record { S8_up = g.S8_up.1; K11 = g.K11; S8_waiter = g.S8_waiter }))
      (λ e. rw e (h.sets j c))

  noted : (T : ℕ) (m : Up) → Accepted m (notice i T (start w.server))
  noted T m q = rw (noticed_queue i T (start w.server)) (popped m q)

  joined : (T : ℕ) (m : Up) (v : Waiter) → is_write v.want ≡ false → Accepted m (join i v (notice i T (start w.server)))
  unfolding join
  joined T m v e q =
      let x : Serving = notice i T (start w.server) in
      on w.station (upd w.up i l) x (join i v x) (upd_names x.server.queue i v (no_names v (x.server.queue i) e)) (noted T m q)

  -- what the 2 names its waiter names
  write_joined : (p T : ℕ) (set : ℕ → Bool) → Accepted (WriteRequest p T set) (join_write i p set (notice i T (start w.server)))
  unfolding join_write join
  write_joined p T set q j c =
      by_eq j i
      (λ e.
      let g = rw q at (h.sets i b) in
      let same : page_of (address p 0) ≡ p = of_page_lem p 0 (omega arith) in
      rw (e, eqb_yes j i e)
      (record {
        S8_up = g.S8_up.1;
        K11 = g.K11;
        S8_waiter = λ z.
            rw same
            (λ y.
            let k = g.S8_up.0 y in
            (λ a f s. k.0 a f (and_r (eqb (page_of a) p) _ s), λ a f. on_it a ((g.K11 p y).1 a f) (k.1 a f)));
      }))
      (λ e. rw e (rw e at (noted T (WriteRequest p T set) q j c)))
    where
      on_it : (a : ℕ) → page_of a ≡ p → (set a ≡ true) ⊎ ((w.station i).ol a ≡ true) → ((eqb (page_of a) p && set a) ≡ true) ⊎ ((w.station i).ol a ≡ true)
      on_it a f (inl y) = inl (rw (f, eqb_same p, y) refl)
      on_it a f (inr y) = inr y

  accepts_sets : Accepts i (start w.server) Accepted
  unfolding join_read join_commit serve_now send_page finish unlist mark_busy answered loosen
  accepts_sets =
      let x : Serving = start w.server in
      let t = w.station in
      let u = upd w.up i l in
      record {
        read_waits = λ a T n e. joined T (ReadRequest a T) _ refl;
        read_now = λ a T n e. noted T (ReadRequest a T);
        write_waits = λ p T set n e. write_joined p T set;
        commit_now_lem = λ k n f e q. committed t u i k (notice i k.transaction x) (noted k.transaction (Commit k) q);
        commit_waits = λ k n e. joined k.transaction (Commit k) _ refl;
        aborts = λ T n e. noted T (Abort T);
        purges = λ p e. popped (Purge p);
        busy = λ r T e q. on t u x (mark_busy i r x) (upd_names x.server.queue r _ (record { want = λ z. z; req = λ z. refl; writes = λ z. refl })) (popped (Busy r T) q);
        busy_late = λ r T e. popped (Busy r T);
        dones = λ r T d e q. on t u x (answered i r (unlist i d x)) (upd_names x.server.queue r _ (record { want = λ z. z; req = λ z. refl; writes = λ z. refl })) (popped (Done r T d) q);
        done_late = λ r T d e. popped (Done r T d);
        loosens = λ p T set e c. popped (WrittenSet p T set);
        loosens_new = λ p T set e k r. noted T (WrittenSet p T set);
        loosens_late = λ p T set e. popped (WrittenSet p T set);
      }

-- THE LAYER

-- of all stations
abbrev AllSets : Server → (ℕ → Station) → (ℕ → List Up) → (ℕ → List Down) → Type 0
AllSets s t u d = (j : ℕ) → j < 8 → SetsAt s t u j

pub sets_layer : Over Orderly SetsOf
unfolding carry_up carry_down
sets_layer =
    record {
      begins = λ kinds i b. unasked Idle (λ p. refl) _ _ [];
      owner = λ i op w b h.
          tell_keeps AllSets i op (perform op (w.station i)).answer (carry_up i (perform op (w.station i)) w)
          (λ j c. by_eq j i (λ e. rw (e, eqb_yes j i e) (owner_sets (w.server.queue i) (w.up i) (w.station i) (h.inv.tokens i) (h.sets i b) op)) (λ e. rw e (h.sets j c)));
      station = λ i m l w b q n h.
          tell_keeps AllSets i (w.asked i) (station_step m (w.station i)).answer _
          (λ j c. by_eq j i (λ e. rw (e, eqb_yes j i e) (station_sets (w.server.queue i) (w.up i) (w.station i) (h.sets i b) m)) (λ e. rw e (h.sets j c)));
      accepted = λ i m l w b q n h. accepts i (start w.server) (Accepted i l w b h) (accepts_sets i l w b h) m n q;
      acts = λ w.
          let k = acts w.station w.up in
          record {
            aborts = λ i c x b e h. k.aborts i c x b e h.sets;
            asks = λ i g p x b e f h. k.asks i g p x b e f h.sets;
            reads = λ i x b e c h. k.reads i x b e c h.sets;
            calls = λ i x b e f n c h. k.calls i x b e f n c h.sets;
            objects = λ i x b e c h. k.objects i x b e c h.sets;
            pages = λ i x b e c f h. k.pages i x b e c f h.sets;
            installs = λ i x b e f c h. k.installs i x b e f c h.sets;
          };
    }
