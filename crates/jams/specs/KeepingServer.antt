-- The server's actions and what station j, of kind 2, keeps of page p, under a server's step: t are the stations, u the up lines, d the
-- down lines before the step.
use Rattle.std.specs.Prelude.{◌≡◌, Bool, List, ◌∷◌, ◌++◌, ◌≢◌}
use Rattle.std.proofs.Math.Path.{refl, ap}
use Rattle.std.proofs.Common.{sym, ◌∙◌, arith}
use Rattle.std.proofs.Math.Bool.{true, false, cond}
use Rattle.std.proofs.lemmas.Bool.{false≢true}
use Rattle.std.proofs.Math.Logic.{inl}
use Prim.Native.Nat.{ℕ, suc, ◌≤◌, ◌<◌}
use Rattle.std.proofs.Math.Dec.{eqb}
use Rattle.sets.specs.Base.{upd, upd2, snoc, has}
use Rattle.sets.specs.Laws.{by_b, by_eq}
use Rattle.sets.proofs.Laws.{eqb_yes, eqb_no}
use Rattle.line.specs.Messages.{page_of, last_number, keeps, Work, Up, WrittenSet, Lock, NoLock, ObjectLock, WholeLock, Down, Page, Deescalate, Callback, Committed, Aborted, Invalidate}
use Rattle.line.specs.Station.{Station}
use Rattle.line.specs.Server.{Server, Serving, on_server, send, set_listed, set_ol, set_queue, values_on, unavailable, Waiter, waiter_pend, waiter_called, NoWant, WantWrite, waits, bad_number, notice, finish, join, leave, send_page, abort, write, archive, install, commit_now, mark_busy, answered, loosen, ask, serve_read, concerned, call, grant_object, grant_page, End, ByCommit, ByCause, ByMessage}
use Rattle.line.specs.Apart.{GoodNumber, good_number}
use Rattle.line.specs.Line.{sent_to}
use Rattle.line.specs.Truth.{count}
use Rattle.truth.specs.Clauses.{dropped}
use Rattle.truth.proofs.Frame.{if_serving, installs, call_own, call_far, noticed_latest, noticed_fin, noticed_kind, noticed_queue, noticed_ol, noticed_wl, noticed_sent}
use Rattle.truth.proofs.CallbacksServer.{send_to, send_past}
use Rattle.truth.proofs.ExclusionFields.{eqb_off}
use Rattle.truth.specs.GoalsLists.{either}
use Rattle.jams.specs.Freed.{freed_fore, released_back, released_not, kept_not}
use Rattle.jams.specs.Clauses.{is_end, grants_whole, asks_lock, ask_for, set_for, Unended, KeepingAt}
use Rattle.jams.specs.Deescalation.{is_write}
use Rattle.jams.specs.DeescalationServer.{noticed_asked}
use Rattle.jams.specs.Keeping.{pop_up, push_down, waits_for, others, renumbers, finishes, asks, grants, loosens}

abbrev pub KeIn : (ℕ → Station) → (ℕ → List Up) → (ℕ → List Down) → ℕ → ℕ → Serving → Type 0
KeIn t u d j p x = KeepingAt x.server t u (λ k. d k ++ sent_to k x.sent) j p

module _ (t : ℕ → Station) (u : ℕ → List Up) (d : ℕ → List Down) (j p : ℕ) where
  pub send_ke : (i : ℕ) (m : Down) (x : Serving) → ask_for p m ≡ false → grants_whole p m ≡ false → KeIn t u d j p x → KeIn t u d j p (send x i m)
  send_ke i m x e g h = by_eq j i (λ q. rw (send_to i j (d j) x.sent m q) (push_down m e g h)) (λ q. rw (send_past i j (d j) x.sent m q) h)

  pub leave_ke : (i : ℕ) (x : Serving) → KeIn t u d j p x → KeIn t u d j p (leave i x)
  unfolding leave
  leave_ke i x h = by_eq j i (λ e. rw e (waits_for h NoWant 0 (λ q. absurd (false≢true (ap is_write q))))) (λ e. rw e h)

  -- another's transaction ends
  ended_other : (i : ℕ) (n : End) (x : Serving) → eqb j i ≡ false → KeIn t u d j p x → KeIn t u d j p (finish i n x)
  unfolding finish
  ended_other i n x e h =
      let s : Server = x.server in
      rw e
      (others h _ _ _ (released_back (s.kind i) i j s.wl p)
      (λ w a. rw (released_not (s.kind i) i j s.wl p e w) (w, a))
      (λ w a g q. freed_fore i j s.ol a e q))

  -- a transaction ends, and its station is told: the page stays
  ended_ke : (i : ℕ) (n : End) (m : Down) (x : Serving) → is_end m ≡ true → ask_for p m ≡ false → grants_whole p m ≡ false → keeps (x.server.kind j) ≡ true → KeIn t u d j p x → KeIn t u d j p (send (finish i n x) i m)
  unfolding finish
  ended_ke i n m x e f g v h =
      let s : Server = x.server in
      by_eq j i
      (λ q. rw (send_to i j (d j) x.sent m q, q, kept_not (s.kind i) i (s.wl p) (rw (eqb_yes j i q) at v)) (finishes h _ m e f g))
      (λ q. rw (send_past i j (d j) x.sent m q) (ended_other i n x q h))

  left_kept : (i : ℕ) (x : Serving) → keeps (x.server.kind j) ≡ true → keeps ((leave i x).server.kind j) ≡ true
  unfolding leave
  left_kept i x v = v

  pub abort_ke : (i c : ℕ) (x : Serving) → keeps (x.server.kind j) ≡ true → KeIn t u d j p x → KeIn t u d j p (abort i c x)
  unfolding abort
  abort_ke i c x v h = ended_ke i (ByCause c) (Aborted _ c) (leave i x) refl refl refl (left_kept i x v) (leave_ke i x h)

  pub install_ke : (i : ℕ) (w : Work) (x : Serving) → keeps (x.server.kind j) ≡ true → KeIn t u d j p x → KeIn t u d j p (install i w x)
  unfolding archive write
  install_ke i w x v h =
      installs (KeIn t u d j p) i w
      (λ k y e g. send_ke k (Invalidate (λ a. has (w.writes a))) y refl refl g)
      x (ended_ke i ByCommit (Committed w.transaction _) (archive i w (write w (leave i x))) refl refl refl (left_kept i x v) (leave_ke i x h))

  pub commit_ke : (i : ℕ) (w : Work) (x : Serving) → keeps (x.server.kind j) ≡ true → KeIn t u d j p x → KeIn t u d j p (commit_now i w x)
  unfolding commit_now
  commit_ke i w x v h = if_serving (KeIn t u d j p) (eqb x.server.last last_number) (λ e. abort_ke i 4 x v h) (λ e. install_ke i w x v h)

  pub join_ke : (i : ℕ) (q : Waiter) (x : Serving) → (eqb j i ≡ true → q.want ≡ WantWrite → page_of q.req ≡ p → x.server.wl p ≢ suc j) → KeIn t u d j p x → KeIn t u d j p (join i q x)
  unfolding join
  join_ke i q x n h = by_eq j i (λ e. rw e (waits_for h q.want q.req (n e))) (λ e. rw e h)

  -- a number that is not above the station's
  later : (T L : ℕ) (F : Bool) → L < T → (v : ℕ) → Unended T false v → Unended L F v
  later T L F b v x = either x (λ y. inl (omega (arith, y))) (λ y. inl (omega (arith, y.0)))

  pub notice_ke : (i T : ℕ) (x : Serving) → bad_number x.server i T ≡ false → (eqb j i ≡ true → T ≤ (t j).num) → KeIn t u d j p x → KeIn t u d j p (notice i T x)
  notice_ke i T x n b h =
      let s : Server = x.server in
      let g : GoodNumber T (s.latest i) (s.fin i) (waits s i) = good_number s i T n in
      rw (noticed_ol i T x, noticed_wl i T x, noticed_asked i T x, noticed_queue i T x, noticed_sent i T x, noticed_latest i T x j, noticed_fin i T x n j)
      (by_eq j i
      (λ e.
      let q : j ≡ i = eqb_yes j i e in
      rw e
      (by_eq T (s.latest i)
      (λ z.
      let l : s.latest j ≡ T = rw q (sym (eqb_yes T (s.latest i) z)) in
      let f : s.fin j ≡ false = rw q (g.unended z) in
      rw (l, f) at h)
      (λ z.
      let y : s.latest i < T = omega (arith, eqb_no T (s.latest i) z, g.next) in
      let y' : s.latest j < T = rw q y in
      renumbers h s.ol T false (λ o v w. absurd (omega (arith, b e, w, y'))) (later T (s.latest j) (s.fin j) y'))))
      (λ e. rw e h))

  -- 4: its transaction is over, or not the open one
  pub over_ke : (i T : ℕ) (x : Serving) → bad_number x.server i T ≡ false → (eqb j i ≡ true → (t j).opened ≡ true → T < (t j).num) → keeps (x.server.kind j) ≡ true → KeIn t u d j p x → KeIn t u d j p (finish i ByMessage (notice i T x))
  unfolding finish
  over_ke i T x n b v h =
      let s : Server = x.server in
      let g : GoodNumber T (s.latest i) (s.fin i) (waits s i) = good_number s i T n in
      rw (noticed_ol i T x, noticed_wl i T x, noticed_asked i T x, noticed_queue i T x, noticed_sent i T x, noticed_latest i T x j, noticed_fin i T x n j, noticed_kind i T x)
      (by_eq j i
      (λ e.
      let q : j ≡ i = eqb_yes j i e in
      let y : s.latest j ≤ T = rw q g.next in
      rw (e, kept_not (s.kind i) i (s.wl p) (rw q at v))
      (renumbers h _ T true (λ o z w. absurd (omega (arith, b e o, w, y))) (λ r z. either z (λ k. inl (omega (arith, k, y))) (λ k. absurd (false≢true (sym k.1))))))
      (λ e.
      rw e
      (others h _ _ _ (released_back (s.kind i) i j s.wl p)
      (λ w a. rw (released_not (s.kind i) i j s.wl p e w) (w, a))
      (λ w a g q. freed_fore i j s.ol a e q))))

  -- the message is taken: no 8 for the page
  pub taken_ke : (i : ℕ) (m : Up) (l : List Up) (x : Serving) → u i ≡ m ∷ l → (eqb j i ≡ true → set_for p m ≡ false) → KeIn t u d j p x → KeIn t (upd u i l) d j p x
  taken_ke i m l x q n h = by_eq j i (λ e. let y : u j ≡ m ∷ l = rw (eqb_yes j i e) q in rw e (pop_up m (n e) (rw y at h))) (λ e. rw e h)

  -- a page that brings no whole lock
  pub page_ke : (l : Lock) (i a : ℕ) (v : ℕ → Bool) (x : Serving) → ((b T : ℕ) (n y : ℕ → ℕ) → grants_whole p (Page l b T n v y) ≡ false) → KeIn t u d j p x → KeIn t u d j p (send_page l i a v x)
  unfolding send_page
  page_ke l i a v x g h =
      let s : Server = x.server in
      send_ke i (Page l a (s.latest i) (values_on (page_of a) s.ver) v (values_on (page_of a) s.val)) (on_server x (set_listed s (upd2 s.listed i (page_of a) true))) refl (g a (s.latest i) (values_on (page_of a) s.ver) (values_on (page_of a) s.val)) h

  pub read_ke : (i : ℕ) (x : Serving) → KeIn t u d j p x → KeIn t u d j p (serve_read i x)
  unfolding serve_read
  read_ke i x h =
      let a : ℕ = (x.server.queue i).req in
      page_ke NoLock i a (unavailable x.server i a) (leave i x) (λ b T n y. refl) (leave_ke i x h)

  -- 17: no other has the page whole
  pub object_ke : (i : ℕ) (x : Serving) → (eqb j i ≡ false → page_of (x.server.queue i).req ≡ p → x.server.wl p ≢ suc j) → ((b : ℕ) → (x.server.queue i).writes b ≡ true → page_of b ≡ page_of (x.server.queue i).req)
      → KeIn t u d j p x → KeIn t u d j p (grant_object i x)
  unfolding grant_object leave
  object_ke i x n page h =
      let s : Server = x.server in
      let a : ℕ = (s.queue i).req in
      let y : Serving = leave i x in
      let g : KeIn t u d j p y = leave_ke i x h in
      let OL' : ℕ → ℕ = λ b. cond ((s.queue i).writes b) (suc i) (s.ol b) in
      page_ke ObjectLock i a (unavailable s i a) (on_server y (set_ol y.server OL')) (λ b T k z. refl)
      (others g OL' (s.wl p) (s.asked p) (λ w. w) (λ w k. (w, k))
      (λ w b q e.
      by_b ((s.queue i).writes b)
      (λ z. rw z (by_eq j i (λ f. ap suc (sym (eqb_yes j i f))) (λ f. absurd (n f (sym (page b z) ∙ q) w))))
      (λ z. rw z e)))

  -- 18: nobody had the page whole
  pub whole_ke : (i : ℕ) (x : Serving) → (page_of (x.server.queue i).req ≡ p → x.server.wl p ≢ suc j) → (eqb j i ≡ true → count (asks_lock p) (u j) ≡ 0) → (eqb j i ≡ true → page_of (x.server.queue i).req ≡ p → count (dropped p) (u j) ≡ 0) → KeIn t u d j p x → KeIn t u d j p (grant_page i x)
  unfolding grant_page send_page leave
  whole_ke i x n c r h =
      let s : Server = x.server in
      let a : ℕ = (s.queue i).req in
      let m : Down = Page WholeLock a (s.latest i) (values_on (page_of a) s.ver) (unavailable s i a) (values_on (page_of a) s.val) in
      by_eq p (page_of a)
      (λ q.
      let free : s.wl p ≢ suc j = n (sym (eqb_yes p (page_of a) q)) in
      by_eq j i
      (λ e. rw (send_to i j (d j) x.sent m e, q, e) (grants h m refl q (suc i) false free (c e) (r e (sym (eqb_yes p (page_of a) q)))))
      (λ e.
      rw (send_past i j (d j) x.sent m e, q, e)
      (others h s.ol (suc i) false (λ w. absurd (eqb_no j i e (omega arith))) (λ w k. absurd (free w)) (λ w b g k. k))))
      (λ q.
      by_eq j i
      (λ e. rw (send_to i j (d j) x.sent m e, q, e) (push_down m refl q (waits_for h NoWant 0 (λ z. absurd (false≢true (ap is_write z))))))
      (λ e. rw (send_past i j (d j) x.sent m e, q, e) h))

  -- 19, to the holder k of page q
  pub ask_ke : (k q : ℕ) (x : Serving) → x.server.wl q ≡ suc k → x.server.asked q ≡ false → KeIn t u d j p x → KeIn t u d j p (ask k q x)
  unfolding ask
  ask_ke k q x w n h =
      let s : Server = x.server in
      let m : Down = Deescalate q (s.whole_for q) in
      by_eq j k
      (λ e.
      let z : j ≡ k = eqb_yes j k e in
      rw (send_to k j (d j) x.sent m e)
      (by_eq p q
      (λ f. rw (f, ← eqb_yes p q f) (asks h _ (rw (eqb_yes p q f, z) w) (rw (eqb_yes p q f) n)))
      (λ f.
      let far : eqb q p ≡ false = eqb_off p q f in
      rw f (push_down (Deescalate q (s.whole_for q)) far refl h))))
      (λ e.
      rw (send_past k j (d j) x.sent m e)
      (by_eq p q (λ f. rw f (others h s.ol (s.wl p) true (λ y. y) (λ y a. (y, refl)) (λ y a g b. b))) (λ f. rw f h)))

  -- P.call: the waiter wants what it wanted
  called_ke : (i : ℕ) (s : Server) (c : ℕ → Bool) (l : ℕ → List Down) → KeepingAt s t u l j p → KeepingAt (set_queue s (upd s.queue i (waiter_pend (waiter_called (s.queue i) true) c))) t u l j p
  called_ke i s c l h = by_eq j i (λ e. rw e (waits_for h _ _ (rw (← eqb_yes j i e) h.K10))) (λ e. rw e h)

  pub call_ke : (i : ℕ) (x : Serving) → KeIn t u d j p x → KeIn t u d j p (call i x)
  unfolding call
  call_ke i x h =
      let s : Server = x.server in
      let m : Down = Callback i (s.latest i) (s.queue i).writes in
      by_b (concerned s i j)
      (λ e. rw (call_own s i j (d j) x.sent e) (called_ke i s (concerned s i) (λ k. snoc (d j ++ sent_to j x.sent) m) (push_down m refl refl h)))
      (λ e. rw (call_far s i j (d j) x.sent e) (called_ke i s (concerned s i) (λ k. d j ++ sent_to j x.sent) h))

  -- 6, 7
  pub busy_ke : (i k : ℕ) (x : Serving) → KeIn t u d j p x → KeIn t u d j p (mark_busy i k x)
  unfolding mark_busy
  busy_ke i k x h = by_eq j k (λ e. rw (e, ← eqb_yes j k e) h) (λ e. rw e h)

  pub answered_ke : (i k : ℕ) (x : Serving) → KeIn t u d j p x → KeIn t u d j p (answered i k x)
  unfolding answered
  answered_ke i k x h = by_eq j k (λ e. rw (e, ← eqb_yes j k e) h) (λ e. rw e h)

  -- 8: it is taken, and was the only token
  pub loosen_ke : (i q T : ℕ) (said set : ℕ → Bool) (l : List Up) (x : Serving) → u i ≡ WrittenSet q T said ∷ l → x.server.wl q ≡ suc i → KeIn t u d j p x → KeIn t (upd u i l) d j p (loosen i q set x)
  unfolding loosen
  loosen_ke i q T said set l x k w h =
      let s : Server = x.server in
      by_eq p q
      (λ f.
      let z : p ≡ q = eqb_yes p q f in
      by_eq j i
      (λ e.
      let head : u j ≡ WrittenSet p T said ∷ l = rw (eqb_yes j i e, z) k in
      rw (f, e) (loosens T said _ (rw head at h)))
      (λ e. rw (f, e) (others h _ 0 false (λ g. absurd (omega arith)) (λ g a. absurd (eqb_no j i e (omega (arith, rw z at g)))) (λ g. absurd (omega arith)))))
      (λ f.
      let far : eqb q p ≡ false = eqb_off p q f in
      rw f
      (others (taken_ke i (WrittenSet q T said) l x k (λ e. far) h) _ (s.wl p) (s.asked p) (λ g. g) (λ g a. (g, a))
      (λ g a e b. rw (e, f) b)))
