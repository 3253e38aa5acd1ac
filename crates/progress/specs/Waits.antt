-- P1 is kept by every move: what an owner waits for stays under way or at the server until it comes.
use Rattle.std.specs.Prelude.{◌≡◌, true, false, not, ◌&&◌, eqb}
use Rattle.std.proofs.Math.Path.{refl, ap}
use Rattle.std.proofs.Common.{sym, arith}
use Rattle.std.proofs.Math.Bool.{Bool, cond}
use Rattle.std.proofs.lemmas.Bool.{false≢true}
use mathlib.Core.List.{List, [], ◌∷◌, ◌++◌}
use Prim.Native.Nat.{ℕ, ◌+◌, ◌≤◌, ◌<◌}
use Rattle.sets.specs.Base.{upd, snoc, nowhere, has, Val}
use Rattle.sets.specs.Laws.{by_b, by_eq}
use Rattle.sets.proofs.Laws.{eqb_same, eqb_yes, and_l}
use Rattle.line.specs.Messages.{page_of, last_number, locking, Work, Up, ReadRequest, WriteRequest, Commit, Abort, Purge, Busy, Done, WrittenSet, NoLock, ObjectLock, WholeLock, Down, Page, Deescalate, Callback, Committed, Aborted, Invalidate, Sent, To}
use Rattle.line.specs.Station.{Station, Did, waiting, live, ended, drop_pages, mark, record_read, write_local, do_callback, closed, close, read_local, read_ask, write_ask, work_of, on_deescalate, loosen, on_committed, on_aborted, named, lowest_on, of_page, gives_up}
use Rattle.line.specs.Server.{Serving, send, values_on, Waiter, Want, WantRead, is_want, notice, finish, join, leave, send_page, abort, write, archive, install, serve_now, join_read, join_write, join_commit, commit_now, unlist, mark_busy, answered, heeded, loosen as loosened, ask, serve_read, calls_from, call, grant_page, grant_object, install_waiter, start, ByCommit, ByMessage}
use Rattle.line.specs.Line.{World, carry_up, carry_down, sent_to, is_refused}
use Rattle.line.specs.Runs.{Of, tell_keeps}
use Rattle.line.specs.Truth.{count}
use Rattle.truth.specs.Clauses.{stale, token_up, token_down}
use Rattle.truth.specs.Inv.{Over}
use Rattle.truth.specs.Frame.{Owns, Takes, Accepts, Active}
use Rattle.truth.proofs.Frame.{append_nil, count_snoc, send_own, if_serving, noticed_queue, noticed_own, noticed_sent, performs, closes, takes, accepts, installs}
use Rattle.truth.specs.Tokens.{both}
use Rattle.truth.proofs.Tokens.{and_no}
use Rattle.progress.specs.Clauses.{P1, P1At, P1Of, Moving}
use Rattle.progress.specs.Lines.{more, one_more, sent_more, sent_one}

-- THE STATION

-- a transaction of an open station is not stale
hot : (kind num : ℕ) (opened : Bool) → opened ≡ true → stale kind num opened num ≡ false
hot kind num opened e = rw (e, eqb_same num) (and_no (not (locking kind)) false refl)

-- what has ended is stale
ended_stale : (s : Station) (t : ℕ) → ended s t ≡ true → stale s.kind s.num s.opened t ≡ true
ended_stale s t e = and_l (not (locking s.kind) && not (live s t)) _ e

-- who has closed waits for nothing
close_idle : (d : Did) → waiting (close d).station.wait ≡ false
unfolding closed do_callback mark drop_pages
close_idle d = closes (λ c. waiting c.station.wait ≡ false) (λ r t set c e h. h) d refl

module _ (v : Want) (U : List Up) (D : List Down) where
  abbrev WaitsDid : Did → Type 0
  WaitsDid d = P1 d.station.kind d.station.num d.station.opened d.station.wait v (U ++ d.sent) D

  closing : (d : Did) → WaitsDid (close d)
  closing d = λ q. both (waiting (close d).station.wait) q (close_idle d)

  module _ (s : Station) where
    abbrev token : Up → Bool
    token = token_up (stale s.kind s.num s.opened)

    abbrev Before : List Down → Type 0
    Before E = P1 s.kind s.num s.opened s.wait v U E

    -- beside the token something is sent, or nothing
    beside : (l : List Up) → Before D → P1 s.kind s.num s.opened s.wait v (U ++ l) D
    beside l h = λ q. omega (arith, h q, more token U l)

    -- the token is sent
    asks : (m : Up) → token m ≡ true → 1 ≤ count token (snoc U m)
    asks m e = one_more token U m e

    asks_either : (p : ℕ) (f : ℕ → Val) → Active s → 1 ≤ count token (snoc U (cond (locking s.kind) (WriteRequest p s.num (named f s)) (ReadRequest (lowest_on p (named f s)) s.num))) + cond (is_want v) 1 0 + count (token_down (stale s.kind s.num s.opened)) D
    asks_either p f c =
        let m : Up = cond (locking s.kind) (WriteRequest p s.num (named f s)) (ReadRequest (lowest_on p (named f s)) s.num) in
        omega (arith, asks m (each (locking s.kind)))
      where
        each : (b : Bool) → token (cond b (WriteRequest p s.num (named f s)) (ReadRequest (lowest_on p (named f s)) s.num)) ≡ true
        each true = refl
        each false = rw (hot s.kind s.num s.opened c.opened) refl

    owns_waits : Before D → Owns s (λ op d. WaitsDid d)
    unfolding read_local record_read read_ask write_local write_ask drop_pages
    owns_waits h =
        record {
          refused = λ op n. beside [] h;
          begins = λ e o q. both (waiting s.wait) q e;
          reads_own = λ a x b c e. beside [] h;
          reads_again = λ a x b c e f. beside [] h;
          reads_here = λ a b c e f g. beside [] h;
          reads_ask = λ a b c e f g q. omega (arith, asks (ReadRequest a s.num) (rw (hot s.kind s.num s.opened c.opened) refl));
          writes_here = λ p x b c e. beside [] h;
          writes_ask = λ p x b c e q. asks_either p (of_page p x) c;
          commits = λ c q. omega (arith, asks (Commit (work_of s)) refl);
          aborts = λ c. closing _;
          purges = λ p b r n e k. beside (Purge p ∷ []) h;
        }

    -- m is taken from the down line, and is not the token
    abbrev Took : Down → Did → Type 0
    Took m d = is_refused d.answer ≡ false → Before (m ∷ D) → WaitsDid d

    took : (m : Down) (l : List Up) → token_down (stale s.kind s.num s.opened) m ≡ false → Before (m ∷ D) → P1 s.kind s.num s.opened s.wait v (U ++ l) D
    took m l e h = λ q. omega (arith, rw e at (h q), more token U l)

    takes_waits : Takes s Took
    unfolding record_read write_local on_deescalate loosen do_callback mark drop_pages on_committed on_aborted
    takes_waits =
        record {
          refused = λ m e n h. absurd (false≢true (sym n));
          old_page = λ a t x y z e n h. took (Page NoLock a t x y z) [] (rw (ended_stale s t e) refl) h;
          page_read = λ a t x y z e f n h q. absurd (false≢true q);
          page_write = λ l a t x y z p k e f g i n h q. absurd (false≢true q);
          deescalates = λ p t e n h.
              let g = took (Deescalate p t) (WrittenSet p _ _ ∷ []) refl h in
              by_b (gives_up p t s) (λ z. rw z g) (λ z. rw z g);
          keeps = λ r t set e f n h. took (Callback r t set) (Busy r t ∷ []) refl h;
          dones = λ r t set e f n h. took (Callback r t set) (Done r t _ ∷ []) refl h;
          commits = λ t n e f k h. closing _;
          aborts = λ t c e f n h. closing _;
          invalid_ends = λ d e f g n h. closing _;
          invalid = λ d e f n h. took (Invalidate d) [] refl h;
        }

-- THE SERVER, in a step from stations t, up lines u and down lines d
module _ (t : ℕ → Station) (u : ℕ → List Up) (d : ℕ → List Down) (j : ℕ) where
  abbrev WaitsIn : Serving → Type 0
  WaitsIn x = P1At x.server t u (λ k. d k ++ sent_to k x.sent) j

  abbrev old : ℕ → Bool
  old = stale (t j).kind (t j).num (t j).opened

  abbrev With : Want → List Sent → Type 0
  With v l = P1 (t j).kind (t j).num (t j).opened (t j).wait v (u j) (d j ++ sent_to j l)

  -- more is sent, and the entry stays
  further : (v : Want) (l k : List Sent) → With v l → With v (l ++ k)
  further v l k h = λ q. omega (arith, h q, sent_more (token_down old) j (d j) l k)

  sends : (x y : Serving) (l : List Sent) → (y.server.queue j).want ≡ (x.server.queue j).want → y.sent ≡ x.sent ++ l → WaitsIn x → WaitsIn y
  sends x y l e f h = rw (e, f) (further (x.server.queue j).want x.sent l h)

  -- station i gets its token, whatever it had
  gives : (i : ℕ) (m : Down) (x y : Serving) → (eqb j i ≡ false → (y.server.queue j).want ≡ (x.server.queue j).want) → y.sent ≡ snoc x.sent (To i m) → (eqb j i ≡ true → token_down old m ≡ true) → (eqb j i ≡ false → WaitsIn x) → WaitsIn y
  gives i m x y e f g h =
      by_eq j i
      (λ k q. let z : y.sent ≡ snoc x.sent (To j m) = rw (eqb_yes j i k) f in rw z (omega (arith, sent_one (token_down old) j (d j) x.sent m (g k))))
      (λ k. sends x y (To i m ∷ []) (e k) f (h k))

  abort_waits : (i c : ℕ) (x : Serving) → (eqb j i ≡ false → WaitsIn x) → WaitsIn (abort i c x)
  unfolding abort finish leave
  abort_waits i c x h = gives i (Aborted (x.server.latest i) c) x (abort i c x) (λ e. rw e refl) refl (λ e. refl) h

  install_waits : (i : ℕ) (k : Work) (x : Serving) → (eqb j i ≡ false → WaitsIn x) → WaitsIn (install i k x)
  unfolding finish archive write leave
  install_waits i k x h =
      let y : Serving = finish i ByCommit (archive i k (write k (leave i x))) in
      let m : Down = Committed k.transaction y.server.last in
      installs WaitsIn i k (λ g z e. further (z.server.queue j).want z.sent (To g (Invalidate (λ a. has (k.writes a))) ∷ [])) x (gives i m x (send y i m) (λ e. rw e refl) refl (λ e. refl) h)

  commit_waits : (i : ℕ) (k : Work) (x : Serving) → (eqb j i ≡ false → WaitsIn x) → WaitsIn (commit_now i k x)
  unfolding commit_now
  commit_waits i k x h = if_serving WaitsIn (eqb x.server.last last_number) (λ e. abort_waits i 4 x h) (λ e. install_waits i k x h)

  ask_waits : (g p : ℕ) (x : Serving) → WaitsIn x → WaitsIn (ask g p x)
  unfolding ask
  ask_waits g p x h = sends x (ask g p x) (To g (Deescalate p (x.server.whole_for p)) ∷ []) refl refl h

  call_waits : (i : ℕ) (x : Serving) → WaitsIn x → WaitsIn (call i x)
  unfolding call
  call_waits i x h = sends x (call i x) (calls_from 8 0 x.server i) (by_eq j i (λ e. rw (e, eqb_yes j i e) refl) (λ e. rw e refl)) refl h

  read_waits : (i : ℕ) (x : Serving) → (eqb j i ≡ true → locking (t j).kind ≡ true) → (eqb j i ≡ false → WaitsIn x) → WaitsIn (serve_read i x)
  unfolding serve_read send_page leave
  read_waits i x k h = gives i (Page NoLock _ _ _ _ _) x (serve_read i x) (λ e. rw e refl) refl (λ e. rw (k e) refl) h

  object_waits : (i : ℕ) (x : Serving) → (eqb j i ≡ false → WaitsIn x) → WaitsIn (grant_object i x)
  unfolding grant_object send_page leave
  object_waits i x h = gives i (Page ObjectLock _ _ _ _ _) x (grant_object i x) (λ e. rw e refl) refl (λ e. refl) h

  whole_waits : (i : ℕ) (x : Serving) → (eqb j i ≡ false → WaitsIn x) → WaitsIn (grant_page i x)
  unfolding grant_page send_page leave
  whole_waits i x h = gives i (Page WholeLock _ _ _ _ _) x (grant_page i x) (λ e. rw e refl) refl (λ e. refl) h

-- the station's kind, where its read waits
module _ (w : World) (x : Serving) where
  reads_lock : (i : ℕ) → i < 8 → Moving (carry_down x w) → (x.server.queue i).want ≡ WantRead → locking (w.station i).kind ≡ true
  unfolding carry_down
  reads_lock i b h e = rw (← (h.inv.tokens i).kinds) ((h.inv.apart.waiting.entry i b).reads_lock e)

-- ACCEPT of m, the head of up line i
module _ (i : ℕ) (l : List Up) (w : World) (h : Of P1Of w) where
  abbrev In : ℕ → Serving → Type 0
  In j x = WaitsIn w.station (upd w.up i l) w.down j x

  abbrev Accepted : Up → Serving → Type 0
  Accepted m x = w.up i ≡ m ∷ l → (j : ℕ) → j < 8 → In j x

  -- another station, or a message that is no token
  start_far : (j : ℕ) → j < 8 → eqb j i ≡ false → In j (start w.server)
  start_far j b e = rw (e, append_nil (w.down j)) (h j b)

  lost_head : (m : Up) → ((f : ℕ → Bool) → token_up f m ≡ false) → Accepted m (start w.server)
  lost_head m n q j b =
      by_eq j i
      (λ e.
      let z : w.up j ≡ m ∷ l = rw (eqb_yes j i e) q in
      let g : P1 (w.station j).kind (w.station j).num (w.station j).opened (w.station j).wait (w.server.queue j).want (m ∷ l) (w.down j) = rw z at (h j b) in
      rw (e, append_nil (w.down j)) (λ y. omega (arith, rw (n (stale (w.station j).kind (w.station j).num (w.station j).opened)) at (g y))))
      (λ e. start_far j b e)

  -- it is noticed, and its station gets an entry
  noticed_far : (T j : ℕ) → j < 8 → eqb j i ≡ false → In j (notice i T (start w.server))
  noticed_far T j b e = sends w.station (upd w.up i l) w.down j (start w.server) (notice i T (start w.server)) [] (rw (noticed_queue i T (start w.server)) refl) (noticed_sent i T (start w.server)) (start_far j b e)

  joined : (T : ℕ) (v : Waiter) → is_want v.want ≡ true → (j : ℕ) → j < 8 → In j (join i v (notice i T (start w.server)))
  unfolding join
  joined T v e j b = by_eq j i (λ f q. rw (f, e) (omega arith)) (λ f. rw f (rw f at (noticed_far T j b f)))

  -- a 1 of a validating station becomes the 16, as stale as it was
  read_now : (a T : ℕ) → w.up i ≡ ReadRequest a T ∷ l → (j : ℕ) → j < 8 → In j (serve_now i a (notice i T (start w.server)))
  unfolding serve_now send_page
  read_now a T q j b =
      let x : Serving = start w.server in
      let y : Serving = notice i T x in
      let m : Down = Page NoLock a (y.server.latest i) (values_on (page_of a) y.server.ver) nowhere (values_on (page_of a) y.server.val) in
      by_eq j i
      (λ e.
      let o : ℕ → Bool = stale (w.station i).kind (w.station i).num (w.station i).opened in
      let g : P1 (w.station i).kind (w.station i).num (w.station i).opened (w.station i).wait (w.server.queue i).want (ReadRequest a T ∷ l) (w.down i) = rw q at (h i (rw (eqb_yes j i e) at b)) in
      let c : cond {A = ℕ} (not (o (y.server.latest i))) 1 0 ≡ cond (not (o T)) 1 0 = ap (λ n. cond (not (o n)) 1 0) (noticed_own i T x) in
      rw (eqb_yes j i e, eqb_same i, send_own i (w.down i) y.sent m, noticed_queue i T x, noticed_sent i T x, append_nil (w.down i)) (λ k. omega (arith, g k, count_snoc (token_down o) (w.down i) m)))
      (λ e. sends w.station (upd w.up i l) w.down j y (serve_now i a y) (To i m ∷ []) refl refl (noticed_far T j b e))

  accepts_waits : Accepts i (start w.server) Accepted
  unfolding join_read join_write join_commit finish unlist mark_busy answered loosened
  accepts_waits =
      let x : Serving = start w.server in
      let t = w.station in
      let u = upd w.up i l in
      let d = w.down in
      record {
        read_waits = λ a T n e q. joined T _ refl;
        read_now = λ a T n e q. read_now a T q;
        write_waits = λ p T set n e q. joined T _ refl;
        commit_now_lem = λ k n f e q j b. commit_waits t u d j i k (notice i k.transaction x) (noticed_far k.transaction j b);
        commit_waits = λ k n e q. joined k.transaction _ refl;
        aborts = λ T n e q j b. sends t u d j x (finish i ByMessage (notice i T x)) [] (rw (noticed_queue i T x) refl) (noticed_sent i T x) (lost_head (Abort T) (λ f. refl) q j b);
        purges = λ p e q. lost_head (Purge p) (λ f. refl) q;
        busy = λ k T e q j b. sends t u d j x (mark_busy i k x) [] (by_eq j k (λ f. rw (f, eqb_yes j k f) refl) (λ f. rw f refl)) refl (lost_head (Busy k T) (λ f. refl) q j b);
        busy_late = λ k T e q. lost_head (Busy k T) (λ f. refl) q;
        dones = λ k T p e q j b. sends t u d j x (answered i k (unlist i p x)) [] (by_eq j k (λ f. rw (f, eqb_yes j k f) refl) (λ f. rw f refl)) refl (lost_head (Done k T p) (λ f. refl) q j b);
        done_late = λ k T p e q. lost_head (Done k T p) (λ f. refl) q;
        loosens = λ p T set e c q. lost_head (WrittenSet p T set) (λ f. refl) q;
        loosens_new = λ p T set e k r q j b. sends t u d j x (loosened i p (heeded (notice i T x).server i T set) (notice i T x)) [] (rw (noticed_queue i T x) refl) (noticed_sent i T x) (lost_head (WrittenSet p T set) (λ f. refl) q j b);
        loosens_late = λ p T set e q. lost_head (WrittenSet p T set) (λ f. refl) q;
      }

-- THE LAYER
pub waits_layer : Over Moving (Of P1Of)
unfolding carry_up carry_down install_waiter
waits_layer =
    record {
      begins = λ kinds i b q. absurd (false≢true q);
      owner = λ i op w b h.
          tell_keeps P1Of i op _ _
          (λ j c. by_eq j i
          (λ e. rw (e, eqb_yes j i e) (performs (w.station i) (λ o d. WaitsDid (w.server.queue i).want (w.up i) (w.down i) d) (owns_waits (w.server.queue i).want (w.up i) (w.down i) (w.station i) (h.P1 i b)) op))
          (λ e. rw e (h.P1 j c)));
      station = λ i m l w b q n h.
          tell_keeps P1Of i (w.asked i) _ _
          (λ j c. by_eq j i
          (λ e. rw (e, eqb_yes j i e) (takes (w.station i) (Took (w.server.queue i).want (w.up i) l (w.station i)) (takes_waits (w.server.queue i).want (w.up i) l (w.station i)) m n (rw q at (h.P1 i b))))
          (λ e. rw e (h.P1 j c)));
      accepted = λ i m l w b q n h. accepts i (start w.server) (Accepted i l w h.P1) (accepts_waits i l w h.P1) m n q;
      acts = λ w.
          let t = w.station in
          let u = w.up in
          let d = w.down in
          record {
            aborts = λ i c x b e h j f. abort_waits t u d j i c x (λ k. h.P1 j f);
            asks = λ i g p x b e n h j f. ask_waits t u d j g p x (h.P1 j f);
            reads = λ i x b e c h j f. read_waits t u d j i x (λ k. rw (eqb_yes j i k) (reads_lock w x i b h e)) (λ k. h.P1 j f);
            calls = λ i x b e g n c h j f. call_waits t u d j i x (h.P1 j f);
            objects = λ i x b e c h j f. object_waits t u d j i x (λ k. h.P1 j f);
            pages = λ i x b e c g h j f. whole_waits t u d j i x (λ k. h.P1 j f);
            installs = λ i x b e f c h j g. install_waits t u d j i (x.server.queue i).work x (λ k. h.P1 j g);
          };
    }
