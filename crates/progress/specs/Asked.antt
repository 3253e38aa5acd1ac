-- P5 is kept by every move: a 19 becomes its 8, and the 8 that answers it ends the whole lock.
use Rattle.std.specs.Prelude.{◌≡◌, Bool, not, ◌&&◌, ◌||◌, cond, ltb}
use Rattle.std.proofs.Math.Path.{refl}
use Rattle.std.proofs.Common.{sym, subst, ◌∙◌}
use Rattle.std.proofs.Math.Bool.{true, false}
use Rattle.std.proofs.lemmas.Bool.{false≢true}
use mathlib.Core.List.{List, [], ◌∷◌, ◌++◌}
use Prim.Native.Nat.{ℕ, suc, ◌≤◌, ◌<◌}
use native.Mathlib.Omega.{arith}
use Rattle.std.proofs.Math.Dec.{eqb}
use Rattle.sets.specs.Base.{upd, snoc, has}
use Rattle.sets.specs.Laws.{by_b, by_eq}
use Rattle.sets.proofs.Laws.{eqb_same, eqb_yes, eqb_no, ltb_no, and_l, and_r}
use Rattle.line.specs.Messages.{page_of, last_number, locking, keeps, Work, Up, ReadRequest, WriteRequest, Commit, Abort, Purge, Busy, Done, WrittenSet, NoLock, ObjectLock, WholeLock, Down, Page, Deescalate, Callback, Committed, Aborted, Invalidate, Sent, To}
use Rattle.line.specs.Station.{Station, Did, answers_for, written_on, on_deescalate, station_step}
use Rattle.line.specs.Server.{Server, Serving, send, Waiter, bad_number, notice, finish, join, leave, send_page, abort, write, archive, install, serve_now, join_read, join_write, join_commit, commit_now, unlist, mark_busy, answered, open_ask, heeded, unlocks, loosen as loosened, ask, serve_read, calls_from, call, grant_page, grant_object, install_waiter, start, End, ByCommit, ByMessage}
use Rattle.line.specs.Line.{World, perform, carry_up, carry_down, sent_to, is_refused}
use Rattle.line.specs.Apart.{Apart, WholeHolder, Renews, left_whole, or_l, or_r, good_number}
use Rattle.line.specs.Runs.{Of, tell_keeps}
use Rattle.truth.specs.Inv.{Over}
use Rattle.truth.proofs.Inv.{heard_good}
use Rattle.truth.specs.Frame.{Takes, Accepts}
use Rattle.truth.proofs.Frame.{append_nil, count_snoc, if_serving, noticed_kind, noticed_sent, takes, accepts, installs}
use Rattle.progress.specs.Clauses.{ask_is, set_is, asks_out, asked_for, P5At, P5Of, Moving}
use Rattle.progress.specs.Lines.{more, sent_more, sent_one}

-- THE STATION: a 19 that is taken becomes an 8
module _ (p t : ℕ) (U : List Up) (D : List Down) (s : Station) where
  -- whether the station keeps the page
  abbrev kept : Bool
  kept = keeps s.kind

  abbrev Took : Down → Did → Type 0
  Took m d = is_refused d.answer ≡ false → asks_out kept p t U (m ∷ D) ≤ asks_out kept p t (U ++ d.sent) D

  -- a 19 and the 8 that answers it count alike
  alike_8 : (q u : ℕ) → ask_is kept p t (Deescalate q u) ≡ set_is kept p t (WrittenSet q (answers_for u s) (written_on q (answers_for u s) s))
  alike_8 q u = by_b kept (λ e. rw e refl) (λ e. rw e refl)

  -- no 19
  past : (m : Down) (l : List Up) → ask_is kept p t m ≡ false → asks_out kept p t U (m ∷ D) ≤ asks_out kept p t (U ++ l) D
  past m l e = rw e (omega (arith, more (set_is kept p t) U l))

  takes_asked : Takes s Took
  unfolding on_deescalate
  takes_asked =
      record {
        refused = λ m e n. absurd (false≢true (sym n));
        old_page = λ a u x y z e n. past (Page NoLock a u x y z) [] refl;
        page_read = λ a u x y z e f n. past (Page NoLock a u x y z) [] refl;
        page_write = λ l a u x y z q k e f g c n. past (Page l a u x y z) [] refl;
        deescalates = λ q u e n. rw (alike_8 q u) (omega (arith, count_snoc (set_is kept p t) U (WrittenSet q (answers_for u s) (written_on q (answers_for u s) s))));
        keeps = λ r u set e f n. past (Callback r u set) (Busy r u ∷ []) refl;
        dones = λ r u set e f n. past (Callback r u set) _ refl;
        commits = λ u n e f k. past (Committed u n) _ refl;
        aborts = λ u c e f n. past (Aborted u c) _ refl;
        invalid_ends = λ d e f g n. past (Invalidate d) _ refl;
        invalid = λ d e f n. past (Invalidate d) [] refl;
      }

-- what is held and asked for at a page, and what counts of station h: what is held and asked for afterwards was so before
abbrev Less : ℕ → ℕ → ℕ → Bool → Bool → ℕ → ℕ → Type 0
Less h wl wl' asked asked' latest latest' = wl' ≡ suc h → asked' ≡ true → (wl ≡ suc h) × (asked ≡ true) × (latest' ≡ latest)

alike : (h wl : ℕ) (asked : Bool) (latest : ℕ) → Less h wl wl asked asked latest latest
alike h wl asked latest e f = (e, f, refl)

-- an end frees the station's locks, but those that it keeps
ended : (k i h wl : ℕ) (asked : Bool) (latest : ℕ) → Less h wl (cond (unlocks k i wl) 0 wl) asked (not (unlocks k i wl) && asked) latest latest
ended k i h wl asked latest e f = ((left_whole k wl i h e).0, and_r (not (unlocks k i wl)) _ f, refl)

-- the lock of page q is given or loosened, and not asked for
changed : (p q h wl new : ℕ) (asked : Bool) (latest : ℕ) → Less h wl (cond (eqb p q) new wl) asked (cond (eqb p q) false asked) latest latest
changed p q h wl new asked latest = by_eq p q (λ k e f. absurd (false≢true (rw k at f))) (λ k. rw k (alike h wl asked latest))

-- THE SERVER, in a step from up lines u and down lines d
module _ (u : ℕ → List Up) (d : ℕ → List Down) (p h : ℕ) where
  abbrev AskedIn : Serving → Type 0
  AskedIn x = P5At x.server u (λ k. d k ++ sent_to k x.sent) p h

  abbrev Fewer : Server → Server → Type 0
  Fewer s s' = Less h (s.wl p) (s'.wl p) (s.asked p) (s'.asked p) (asked_for (s.kind h) (s.latest h)) (asked_for (s'.kind h) (s'.latest h))

  abbrev With : Bool → ℕ → Bool → ℕ → List Sent → Type 0
  With k wl asked latest l = wl ≡ suc h → asked ≡ true → 1 ≤ asks_out k p latest (u h) (d h ++ sent_to h l)

  -- what counts of station h
  abbrev due : Server → ℕ
  due s = asked_for (s.kind h) (s.latest h)

  -- more is sent
  further : (k : Bool) (wl : ℕ) (asked : Bool) (latest : ℕ) (l m : List Sent) → With k wl asked latest l → With k wl asked latest (l ++ m)
  further k wl asked latest l m g = λ a b. omega (arith, g a b, sent_more (ask_is k p latest) h (d h) l m)

  stays : (x y : Serving) (l : List Sent) → x.server.kind ≡ y.server.kind → Fewer x.server y.server → y.sent ≡ x.sent ++ l → AskedIn x → AskedIn y
  stays x y l c e f g =
      λ a b.
      let z = e a b in
      rw (f, z.2, ← c) (further (keeps (x.server.kind h)) (x.server.wl p) (x.server.asked p) (due x.server) x.sent l g z.0 z.1)

  -- ENDS

  abort_asked : (i c : ℕ) (x : Serving) → AskedIn x → AskedIn (abort i c x)
  unfolding abort finish leave
  abort_asked i c x = stays x (abort i c x) (To i (Aborted (x.server.latest i) c) ∷ []) refl (ended (x.server.kind i) i h (x.server.wl p) (x.server.asked p) (due x.server)) refl

  end_asked : (i : ℕ) (e : End) (x : Serving) → AskedIn x → AskedIn (finish i e x)
  unfolding finish
  end_asked i e x = stays x (finish i e x) [] refl (ended (x.server.kind i) i h (x.server.wl p) (x.server.asked p) (due x.server)) (sym (append_nil x.sent))

  install_asked : (i : ℕ) (k : Work) (x : Serving) → AskedIn x → AskedIn (install i k x)
  unfolding finish archive write leave
  install_asked i k x g =
      let y : Serving = finish i ByCommit (archive i k (write k (leave i x))) in
      let m : Down = Committed k.transaction y.server.last in
      installs AskedIn i k (λ j z e. further (keeps (z.server.kind h)) (z.server.wl p) (z.server.asked p) (due z.server) z.sent (To j (Invalidate (λ a. has (k.writes a))) ∷ [])) x
      (stays x (send y i m) (To i m ∷ []) refl (ended (x.server.kind i) i h (x.server.wl p) (x.server.asked p) (due x.server)) refl g)

  commit_asked : (i : ℕ) (k : Work) (x : Serving) → AskedIn x → AskedIn (commit_now i k x)
  unfolding commit_now
  commit_asked i k x g = if_serving AskedIn (eqb x.server.last last_number) (λ e. abort_asked i 4 x g) (λ e. install_asked i k x g)

  -- 19: the token; it names what counts of its station
  ask_asked : (k q : ℕ) (x : Serving) → x.server.wl q ≡ suc k → (keeps (x.server.kind k) ≡ false → x.server.whole_for q ≡ x.server.latest k) → AskedIn x → AskedIn (ask k q x)
  unfolding ask
  ask_asked k q x w n g =
      let s : Server = x.server in
      let m : Down = Deescalate q (s.whole_for q) in
      let more : With (keeps (s.kind h)) (s.wl p) (s.asked p) (due s) (snoc x.sent (To k m)) = further (keeps (s.kind h)) (s.wl p) (s.asked p) (due s) x.sent (To k m ∷ []) g in
      by_eq p q
      (λ e a b.
      let v : s.wl p ≡ suc k = rw (eqb_yes p q e) w in
      let z : k ≡ h = held v a in
      let o : ask_is (keeps (s.kind h)) p (due s) (Deescalate q (s.whole_for q)) ≡ true =
      by_b (keeps (s.kind h)) (λ y. rw (y, ← eqb_yes p q e, eqb_same p) refl) (λ y. rw (y, ← eqb_yes p q e, eqb_same p, named (rw z at n) y (eqb_yes p q e), eqb_same (s.latest h)) refl) in
      rw z (omega (arith, sent_one (ask_is (keeps (s.kind h)) p (due s)) h (d h) x.sent (Deescalate q (s.whole_for q)) o)))
      (λ e. rw e more)
    where
      held : {n k j : ℕ} → n ≡ suc k → n ≡ suc j → k ≡ j
      held a b = omega arith

      named : (keeps (x.server.kind h) ≡ false → x.server.whole_for q ≡ x.server.latest h) → keeps (x.server.kind h) ≡ false → p ≡ q → x.server.whole_for p ≡ x.server.latest h
      named f y e = rw e (f y)

  -- the other actions
  read_asked : (i : ℕ) (x : Serving) → AskedIn x → AskedIn (serve_read i x)
  unfolding serve_read send_page leave
  read_asked i x = stays x (serve_read i x) (To i (Page NoLock _ _ _ _ _) ∷ []) refl (alike h (x.server.wl p) (x.server.asked p) (due x.server)) refl

  object_asked : (i : ℕ) (x : Serving) → AskedIn x → AskedIn (grant_object i x)
  unfolding grant_object send_page leave
  object_asked i x = stays x (grant_object i x) (To i (Page ObjectLock _ _ _ _ _) ∷ []) refl (alike h (x.server.wl p) (x.server.asked p) (due x.server)) refl

  whole_asked : (i : ℕ) (x : Serving) → AskedIn x → AskedIn (grant_page i x)
  unfolding grant_page send_page leave
  whole_asked i x =
      stays x (grant_page i x) (To i (Page WholeLock _ _ _ _ _) ∷ []) refl
      (changed p (page_of (x.server.queue i).req) h (x.server.wl p) (suc i) (x.server.asked p) (due x.server)) refl

  call_asked : (i : ℕ) (x : Serving) → AskedIn x → AskedIn (call i x)
  unfolding call
  call_asked i x = stays x (call i x) (calls_from 8 0 x.server i) refl (alike h (x.server.wl p) (x.server.asked p) (due x.server)) refl

  loosen_asked : (i q : ℕ) (set : ℕ → Bool) (x : Serving) → AskedIn x → AskedIn (loosened i q set x)
  unfolding loosened
  loosen_asked i q set x = stays x (loosened i q set x) [] refl (changed p q h (x.server.wl p) 0 (x.server.asked p) (due x.server)) (sym (append_nil x.sent))

-- ACCEPT of m, the head of up line i

-- a number that is accepted of a station with a lock is its latest
same_number : (s : Server) (i T : ℕ) → bad_number s i T ≡ false → s.fin i ≡ false → locking (s.kind i) ≡ true → T ≡ s.latest i
same_number s i T n f k =
    let a : Bool = ltb T (s.latest i) || (eqb T (s.latest i) && s.fin i) in
    let b : Bool = ltb (s.latest i) T && not (s.fin i) && locking (s.kind i) in
    let z : ltb (s.latest i) T ≡ false = above (ltb (s.latest i) T) (rw (f, k) at (or_r a b (or_l (a || b) _ n))) in
    omega (arith, (good_number s i T n).next, ltb_no (s.latest i) T z)
  where
    above : (c : Bool) → (c && true && true) ≡ false → c ≡ false
    above true e = e
    above false e = refl

module _ (i : ℕ) (l : List Up) (w : World) (h : Of P5Of w) (k : Apart w.server) (good : (T : ℕ) → keeps (w.server.kind i) ≡ true → Renews (w.server.kind i) (w.server.latest i) T (w.server.fin i) → bad_number w.server i T ≡ false) where
  abbrev In : ℕ → ℕ → Serving → Type 0
  In p g x = AskedIn (upd w.up i l) w.down p g x

  abbrev Accepted : Up → Serving → Type 0
  Accepted m x = w.up i ≡ m ∷ l → (p g : ℕ) → p < 32 → g < 8 → In p g x

  -- a message that is not the 8 awaited
  lost : (m : Up) → w.up i ≡ m ∷ l → (p g : ℕ) → p < 32 → g < 8 → (eqb g i ≡ true → w.server.wl p ≡ suc g → w.server.asked p ≡ true → set_is (keeps (w.server.kind g)) p (asked_for (w.server.kind g) (w.server.latest g)) m ≡ false) → In p g (start w.server)
  lost m q p g b c n =
      rw (append_nil (w.down g))
      (by_eq g i
      (λ e a f.
      let z : w.up g ≡ m ∷ l = rw (eqb_yes g i e) q in
      rw e (omega (arith, rw (z, n e a f) at (h p g b c a f))))
      (λ e. rw e (h p g b c)))

  -- no 8
  lost_head : (m : Up) → ((k : Bool) (p t : ℕ) → set_is k p t m ≡ false) → Accepted m (start w.server)
  lost_head m n q p g b c = lost m q p g b c (λ e a f. n (keeps (w.server.kind g)) p (asked_for (w.server.kind g) (w.server.latest g)))

  -- its number is noticed: that of a holder is not new
  fewer : (p g T : ℕ) → bad_number w.server i T ≡ false → Fewer (upd w.up i l) w.down p g w.server (notice i T (start w.server)).server
  unfolding notice
  fewer p g T f =
      let s : Server = w.server in
      by_eq T (s.latest i) (λ e. rw e (alike g (s.wl p) (s.asked p) (asked_for (s.kind g) (s.latest g))))
      (λ e. rw e
      (λ a b. (
        a,
        b,
        by_eq g i
            (λ z.
            let o : WholeHolder s.kind s.fin i = rw (eqb_yes g i z) at (k.locks.whole_open g p a) in
            rw (z, eqb_yes g i z) (by_b (keeps (s.kind i)) (λ y. rw y refl) (λ y. rw y (same_number s i T f (o.unfinished y) o.locks))))
            (λ z. rw z refl),
      )))

  noticed : (m : Up) (T : ℕ) → ((k : Bool) (p t : ℕ) → set_is k p t m ≡ false) → bad_number w.server i T ≡ false → Accepted m (notice i T (start w.server))
  noticed m T n f q p g b c =
      let x : Serving = start w.server in
      stays (upd w.up i l) w.down p g x (notice i T x) [] (sym (noticed_kind i T x)) (fewer p g T f) (noticed_sent i T x) (lost_head m n q p g b c)

  joined : (m : Up) (T : ℕ) (v : Waiter) → ((k : Bool) (p t : ℕ) → set_is k p t m ≡ false) → bad_number w.server i T ≡ false → Accepted m (join i v (notice i T (start w.server)))
  unfolding join
  joined m T v n f = noticed m T n f

  -- the 8: it ends what it answers; one that answers nothing is not the token
  loose : (q T : ℕ) (said set : ℕ → Bool) → Accepted (WrittenSet q T said) (loosened i q set (start w.server))
  unfolding loosened
  loose q T said set e p g b c =
      by_eq p q
      (λ f. rw f (λ y z. absurd (false≢true z)))
      (λ f.
      let n : eqb q p ≡ false = by_eq q p (λ y. absurd (eqb_no p q f (sym (eqb_yes q p y)))) (λ y. y) in
      loosen_asked (upd w.up i l) w.down p g i q set (start w.server) (lost (WrittenSet q T said) e p g b c (λ y z v. rw n refl)))

  -- .. also where it brings a new number
  loose_new : (q T : ℕ) (said set : ℕ → Bool) → bad_number w.server i T ≡ false → Accepted (WrittenSet q T said) (loosened i q set (notice i T (start w.server)))
  unfolding loosened
  loose_new q T said set v e p g b c =
      by_eq p q
      (λ f. rw f (λ y z. absurd (false≢true z)))
      (λ f.
      let n : eqb q p ≡ false = by_eq q p (λ y. absurd (eqb_no p q f (sym (eqb_yes q p y)))) (λ y. y) in
      let x : Serving = start w.server in
      loosen_asked (upd w.up i l) w.down p g i q set (notice i T x)
      (stays (upd w.up i l) w.down p g x (notice i T x) [] (sym (noticed_kind i T x)) (fewer p g T v) (noticed_sent i T x) (lost (WrittenSet q T said) e p g b c (λ y z v. rw n refl))))

  late : (q T : ℕ) (set : ℕ → Bool) → open_ask w.server i q T ≡ false → Accepted (WrittenSet q T set) (start w.server)
  late q T set n e p g b c =
      let s : Server = w.server in
      lost (WrittenSet q T set) e p g b c
      (λ y z v.
      by_b (set_is (keeps (s.kind g)) p (asked_for (s.kind g) (s.latest g)) (WrittenSet q T set))
      (λ t.
      let o : WholeHolder s.kind s.fin g = k.locks.whole_open g p z in
      let a : open_ask s g q T ≡ true =
      by_b (keeps (s.kind g)) (λ f. rw (eqb_yes q p (and_l (eqb q p) _ t), z, eqb_same (suc g), v, f) refl)
      (λ f. let t' : (eqb q p && eqb T (s.latest g)) ≡ true = rw f at t in rw (eqb_yes q p (and_l (eqb q p) _ t), z, eqb_same (suc g), v, f, o.unfinished f, and_r (eqb q p) _ t') refl) in
      absurd (false≢true (sym n ∙ (rw (← eqb_yes g i y) a))))
      (λ t. t))

  accepts_asked : Accepts i (start w.server) Accepted
  unfolding join_read join_write join_commit serve_now send_page unlist mark_busy answered
  accepts_asked =
      let x : Serving = start w.server in
      let u = upd w.up i l in
      let d = w.down in
      record {
        read_waits = λ a T n e. joined (ReadRequest a T) T _ (λ k p t. refl) n;
        read_now = λ a T n e q p g b c.
            let y : Serving = notice i T x in
            further u d p g (keeps (y.server.kind g)) (y.server.wl p) (y.server.asked p) (asked_for (y.server.kind g) (y.server.latest g)) y.sent (To i (Page NoLock _ _ _ _ _) ∷ []) (noticed (ReadRequest a T) T (λ k p t. refl) n q p g b c);
        write_waits = λ p T set n e. joined (WriteRequest p T set) T _ (λ k p t. refl) n;
        commit_now_lem = λ v n f e q p g b c. commit_asked u d p g i v (notice i v.transaction x) (noticed (Commit v) v.transaction (λ k p t. refl) n q p g b c);
        commit_waits = λ v n e. joined (Commit v) v.transaction _ (λ k p t. refl) n;
        aborts = λ T n e q p g b c. end_asked u d p g i ByMessage (notice i T x) (noticed (Abort T) T (λ k p t. refl) n q p g b c);
        purges = λ p e. lost_head (Purge p) (λ k p t. refl);
        busy = λ r T e. lost_head (Busy r T) (λ k p t. refl);
        busy_late = λ r T e. lost_head (Busy r T) (λ k p t. refl);
        dones = λ r T v e. lost_head (Done r T v) (λ k p t. refl);
        done_late = λ r T v e. lost_head (Done r T v) (λ k p t. refl);
        loosens = λ q T set e c. loose q T set (heeded w.server i T set);
        loosens_new = λ q T set e a r. loose_new q T set (heeded (notice i T x).server i T set) (good T a r);
        loosens_late = λ q T set e. late q T set e;
      }

-- THE LAYER
pub asked_layer : Over Moving (Of P5Of)
unfolding carry_up carry_down install_waiter
asked_layer =
    record {
      begins = λ kinds p g b c e f. absurd (false≢true f);
      owner = λ i op w b h.
          tell_keeps P5Of i op _ _
          (λ p g c e y z.
          by_eq g i (λ f. rw (f, eqb_yes g i f) (omega (arith, h.P5 p i c b (rw (eqb_yes g i f) at y) z, more (set_is (keeps (w.server.kind i)) p (asked_for (w.server.kind i) (w.server.latest i))) (w.up i) (perform op (w.station i)).sent))) (λ f. rw f (h.P5 p g c e y z)));
      station = λ i m l w b q n h.
          tell_keeps P5Of i (w.asked i) _ _
          (λ p g c e y z.
          by_eq g i
          (λ f.
          let s : Station = w.station i in
          let t : ℕ = asked_for (w.server.kind i) (w.server.latest i) in
          let k : asks_out (keeps s.kind) p t (w.up i) (m ∷ l) ≤ asks_out (keeps s.kind) p t (w.up i ++ (station_step m s).sent) l = takes s (Took p t (w.up i) l s) (takes_asked p t (w.up i) l s) m n in
          let same : w.server.kind i ≡ s.kind = (h.inv.tokens i).kinds in
          let k' : asks_out (keeps (w.server.kind i)) p t (w.up i) (m ∷ l) ≤ asks_out (keeps (w.server.kind i)) p t (w.up i ++ (station_step m s).sent) l = subst (λ (n : ℕ). asks_out (keeps n) p t (w.up i) (m ∷ l) ≤ asks_out (keeps n) p t (w.up i ++ (station_step m s).sent) l) (sym same) k in
          rw (f, eqb_yes g i f) (omega (arith, rw q at (h.P5 p i c b (rw (eqb_yes g i f) at y) z), k')))
          (λ f. rw f (h.P5 p g c e y z)));
      accepted = λ i m l w b q n h. accepts i (start w.server) (Accepted i l w h.P5 h.inv.apart (heard_good w h.inv i b)) (accepts_asked i l w h.P5 h.inv.apart (heard_good w h.inv i b)) m n q;
      acts = λ w.
          let u = w.up in
          let d = w.down in
          record {
            aborts = λ i c x b e h p g f k. abort_asked u d p g i c x (h.P5 p g f k);
            asks = λ i j q x b e n h p g f k. ask_asked u d p g j q x e.held (h.inv.apart.locks.given j q e.held).latest_is (h.P5 p g f k);
            reads = λ i x b e c h p g f k. read_asked u d p g i x (h.P5 p g f k);
            calls = λ i x b e a n c h p g f k. call_asked u d p g i x (h.P5 p g f k);
            objects = λ i x b e c h p g f k. object_asked u d p g i x (h.P5 p g f k);
            pages = λ i x b e c a h p g f k. whole_asked u d p g i x (h.P5 p g f k);
            installs = λ i x b e a c h p g f k. install_asked u d p g i (x.server.queue i).work x (h.P5 p g f k);
          };
    }
