-- The server's actions and de-escalation of page p at station j, under a server's step: t are the stations, u the up lines, d the down
-- lines before the step.
use Rattle.std.specs.Prelude.{◌≡◌, Bool, List, ◌∷◌, ◌++◌, ◌≢◌}
use Rattle.std.proofs.Math.Path.{refl, ap}
use Rattle.std.proofs.Common.{sym, ◌∙◌, arith}
use Rattle.std.proofs.Math.Bool.{true, false, cond}
use Rattle.std.proofs.lemmas.Bool.{false≢true}
use Prim.Native.Nat.{ℕ, suc, ◌<◌}
use Rattle.std.proofs.Math.Dec.{eqb}
use Rattle.sets.specs.Base.{upd, upd2, snoc, has}
use Rattle.sets.specs.Laws.{by_b, by_eq}
use Rattle.sets.proofs.Laws.{eqb_yes, eqb_no}
use Rattle.line.specs.Messages.{page_of, last_number, keeps, Work, Up, WrittenSet, Lock, NoLock, ObjectLock, WholeLock, Down, Page, Deescalate, Callback, Committed, Aborted, Invalidate}
use Rattle.line.specs.Station.{Station}
use Rattle.line.specs.Server.{Server, Serving, on_server, send, set_listed, set_ol, set_queue, values_on, unavailable, Waiter, waiter_pend, waiter_called, NoWant, WantWrite, waits, bad_number, notice, finish, join, leave, send_page, abort, write, archive, install, commit_now, mark_busy, answered, loosen, ask, serve_read, concerned, call, grant_object, grant_page, End, ByCommit, ByCause}
use Rattle.line.specs.Apart.{Apart, GoodNumber, good_number}
use Rattle.line.specs.Line.{sent_to}
use Rattle.line.specs.Truth.{count}
use Rattle.truth.specs.Clauses.{ask_of}
use Rattle.truth.proofs.Frame.{if_serving, installs, call_own, call_far, noticed_latest, noticed_fin, noticed_queue, noticed_ol, noticed_wl, noticed_sent}
use Rattle.truth.proofs.CallbacksServer.{send_to, send_past}
use Rattle.truth.proofs.ExclusionFields.{eqb_off}
use Rattle.jams.specs.Freed.{freed_fore, released_none, released_back, released_not, new_whole}
use Rattle.jams.specs.Clauses.{grants_whole, asks_lock, AskBelow, gives_up, DeescalationAt}
use Rattle.jams.specs.Deescalation.{is_write, pop_up, push_down, waits_for, others, begun, over, asks, grants, loosens}

abbrev pub DeIn : (ℕ → Station) → (ℕ → List Up) → (ℕ → List Down) → ℕ → ℕ → Serving → Type 0
DeIn t u d j p x = DeescalationAt x.server t u (λ k. d k ++ sent_to k x.sent) j p

pub noticed_asked : (i T : ℕ) (x : Serving) → (notice i T x).server.asked ≡ x.server.asked
unfolding notice
noticed_asked i T x = by_eq T (x.server.latest i) (λ q. rw q refl) (λ q. rw q refl)

-- who is finished and keeps nothing holds no page
pub finished_free : (i j p : ℕ) (n : End) (x : Serving) → keeps (x.server.kind j) ≡ false → eqb j i ≡ true → (finish i n x).server.wl p ≢ suc j
unfolding finish
finished_free i j p n x v e = rw (eqb_yes j i e) (released_none (x.server.kind i) i x.server.wl p (rw (eqb_yes j i e) at v))

module _ (t : ℕ → Station) (u : ℕ → List Up) (d : ℕ → List Down) (j p : ℕ) where
  -- THE PARTS OF THE ACTIONS

  pub send_de : (i : ℕ) (m : Down) (x : Serving) → ask_of p (x.server.latest j) m ≡ false → AskBelow (x.server.latest j) m → grants_whole p m ≡ false → DeIn t u d j p x → DeIn t u d j p (send x i m)
  send_de i m x e b g h =
      by_eq j i (λ q. rw (send_to i j (d j) x.sent m q) (push_down m e b g h)) (λ q. rw (send_past i j (d j) x.sent m q) h)

  pub leave_de : (i : ℕ) (x : Serving) → DeIn t u d j p x → DeIn t u d j p (leave i x)
  unfolding leave
  leave_de i x h = by_eq j i (λ e. rw e (waits_for h NoWant 0 (λ q. absurd (false≢true (ap is_write q))))) (λ e. rw e h)

  pub finish_de : (i : ℕ) (n : End) (x : Serving) → keeps (x.server.kind j) ≡ false → DeIn t u d j p x → DeIn t u d j p (finish i n x)
  unfolding finish
  finish_de i n x v h =
      let s : Server = x.server in
      by_eq j i
      (λ e. rw e (over h _ _ _ (rw (eqb_yes j i e) (released_none (s.kind i) i s.wl p (rw (eqb_yes j i e) at v)))))
      (λ e.
      rw e
      (others h _ _ _ (released_back (s.kind i) i j s.wl p)
      (λ w a. rw (released_not (s.kind i) i j s.wl p e w) (w, a))
      (λ w a g q. freed_fore i j s.ol a e q)))

  pub join_de : (i : ℕ) (q : Waiter) (x : Serving) → (eqb j i ≡ true → q.want ≡ WantWrite → page_of q.req ≡ p → x.server.wl p ≢ suc j) → DeIn t u d j p x → DeIn t u d j p (join i q x)
  unfolding join
  join_de i q x n h = by_eq j i (λ e. rw e (waits_for h q.want q.req (n e))) (λ e. rw e h)

  pub notice_de : (i T : ℕ) (x : Serving) → bad_number x.server i T ≡ false → Apart x.server → keeps (x.server.kind j) ≡ false → DeIn t u d j p x → DeIn t u d j p (notice i T x)
  notice_de i T x n a v h =
      let s : Server = x.server in
      let g : GoodNumber T (s.latest i) (s.fin i) (waits s i) = good_number s i T n in
      rw (noticed_ol i T x, noticed_wl i T x, noticed_asked i T x, noticed_queue i T x, noticed_sent i T x, noticed_latest i T x j, noticed_fin i T x n j)
      (by_eq j i
      (λ e.
      let q : j ≡ i = eqb_yes j i e in
      rw e
      (by_eq T (s.latest i)
      (λ z.
      let l : s.latest j ≡ T = rw q (sym (eqb_yes T (s.latest i) z)) in
      let f : s.fin j ≡ false = rw q (g.unended z) in
      rw (l, f) at h)
      (λ z.
      let b : s.latest i < T = omega (arith, eqb_no T (s.latest i) z, g.next) in
      begun h T (rw q b) (rw q (λ w. new_whole s i T n b (a.locks.whole_open i p w) (rw q at v))))))
      (λ e. rw e h))

  -- the message is taken: it gives up no page that is held
  pub taken_de : (i : ℕ) (m : Up) (l : List Up) (x : Serving) → u i ≡ m ∷ l → (eqb j i ≡ true → x.server.wl p ≡ suc j → gives_up p (x.server.latest j) m ≡ false) → DeIn t u d j p x → DeIn t (upd u i l) d j p x
  taken_de i m l x q n h =
      by_eq j i
      (λ e. let y : u j ≡ m ∷ l = rw (eqb_yes j i e) q in rw e (pop_up m (n e) (rw y at h)))
      (λ e. rw e h)

  -- THE PASS, and the ends of a transaction

  left_kind : (i : ℕ) (x : Serving) → keeps (x.server.kind j) ≡ false → keeps ((leave i x).server.kind j) ≡ false
  unfolding leave
  left_kind i x v = v

  pub abort_de : (i c : ℕ) (x : Serving) → keeps (x.server.kind j) ≡ false → DeIn t u d j p x → DeIn t u d j p (abort i c x)
  unfolding abort
  abort_de i c x v h = send_de i (Aborted _ c) (finish i (ByCause c) (leave i x)) refl tt refl (finish_de i (ByCause c) (leave i x) (left_kind i x v) (leave_de i x h))

  installed_de : (i : ℕ) (w : Work) (x : Serving) → keeps (x.server.kind j) ≡ false → DeIn t u d j p x → DeIn t u d j p (finish i ByCommit (archive i w (write w (leave i x))))
  unfolding archive write
  installed_de i w x v h = finish_de i ByCommit (archive i w (write w (leave i x))) (left_kind i x v) (leave_de i x h)

  pub install_de : (i : ℕ) (w : Work) (x : Serving) → keeps (x.server.kind j) ≡ false → DeIn t u d j p x → DeIn t u d j p (install i w x)
  install_de i w x v h =
      installs (DeIn t u d j p) i w
      (λ k y e g. send_de k (Invalidate (λ a. has (w.writes a))) y refl tt refl g)
      x (send_de i (Committed w.transaction _) (finish i ByCommit (archive i w (write w (leave i x)))) refl tt refl (installed_de i w x v h))

  pub commit_de : (i : ℕ) (w : Work) (x : Serving) → keeps (x.server.kind j) ≡ false → DeIn t u d j p x → DeIn t u d j p (commit_now i w x)
  unfolding commit_now
  commit_de i w x v h = if_serving (DeIn t u d j p) (eqb x.server.last last_number) (λ e. abort_de i 4 x v h) (λ e. install_de i w x v h)

  -- a page that brings no whole lock
  pub page_de : (l : Lock) (i a : ℕ) (v : ℕ → Bool) (x : Serving) → ((b T : ℕ) (n y : ℕ → ℕ) → grants_whole p (Page l b T n v y) ≡ false) → DeIn t u d j p x → DeIn t u d j p (send_page l i a v x)
  unfolding send_page
  page_de l i a v x g h =
      let s : Server = x.server in
      send_de i (Page l a (s.latest i) (values_on (page_of a) s.ver) v (values_on (page_of a) s.val)) (on_server x (set_listed s (upd2 s.listed i (page_of a) true))) refl tt (g a (s.latest i) (values_on (page_of a) s.ver) (values_on (page_of a) s.val)) h

  pub read_de : (i : ℕ) (x : Serving) → DeIn t u d j p x → DeIn t u d j p (serve_read i x)
  unfolding serve_read
  read_de i x h =
      let a : ℕ = (x.server.queue i).req in
      page_de NoLock i a (unavailable x.server i a) (leave i x) (λ b T n y. refl) (leave_de i x h)

  -- 17: no other has the page whole
  pub object_de : (i : ℕ) (x : Serving) → (eqb j i ≡ false → page_of (x.server.queue i).req ≡ p → x.server.wl p ≢ suc j) → ((b : ℕ) → (x.server.queue i).writes b ≡ true → page_of b ≡ page_of (x.server.queue i).req)
      → DeIn t u d j p x → DeIn t u d j p (grant_object i x)
  unfolding grant_object leave
  object_de i x n page h =
      let s : Server = x.server in
      let a : ℕ = (s.queue i).req in
      let y : Serving = leave i x in
      let g : DeIn t u d j p y = leave_de i x h in
      let OL' : ℕ → ℕ = λ b. cond ((s.queue i).writes b) (suc i) (s.ol b) in
      page_de ObjectLock i a (unavailable s i a) (on_server y (set_ol y.server OL')) (λ b T k z. refl)
      (others g OL' (s.wl p) (s.asked p) (λ w. w) (λ w k. (w, k))
      (λ w b q e.
      by_b ((s.queue i).writes b)
      (λ z. rw z (by_eq j i (λ f. ap suc (sym (eqb_yes j i f))) (λ f. absurd (n f (sym (page b z) ∙ q) w))))
      (λ z. rw z e)))

  -- 18: nobody had the page whole
  pub whole_de : (i : ℕ) (x : Serving) → (page_of (x.server.queue i).req ≡ p → x.server.wl p ≢ suc j) → (eqb j i ≡ true → count (asks_lock p) (u j) ≡ 0) → DeIn t u d j p x → DeIn t u d j p (grant_page i x)
  unfolding grant_page send_page leave
  whole_de i x n c h =
      let s : Server = x.server in
      let a : ℕ = (s.queue i).req in
      let m : Down = Page WholeLock a (s.latest i) (values_on (page_of a) s.ver) (unavailable s i a) (values_on (page_of a) s.val) in
      by_eq p (page_of a)
      (λ q.
      let free : s.wl p ≢ suc j = n (sym (eqb_yes p (page_of a) q)) in
      by_eq j i
      (λ e. rw (send_to i j (d j) x.sent m e, q, e) (grants h m refl tt (suc i) false free (c e)))
      (λ e.
      rw (send_past i j (d j) x.sent m e, q, e)
      (others h s.ol (suc i) false (λ w. absurd (eqb_no j i e (omega arith))) (λ w k. absurd (free w)) (λ w b g k. k))))
      (λ q.
      by_eq j i
      (λ e. rw (send_to i j (d j) x.sent m e, q, e) (push_down m refl tt q (waits_for h NoWant 0 (λ z. absurd (false≢true (ap is_write z))))))
      (λ e. rw (send_past i j (d j) x.sent m e, q, e) h))

  -- 19, to the holder k of page q
  pub ask_de : (k q : ℕ) (x : Serving) → x.server.wl q ≡ suc k → x.server.asked q ≡ false → (eqb j k ≡ true → x.server.whole_for q ≡ x.server.latest k) → DeIn t u d j p x → DeIn t u d j p (ask k q x)
  unfolding ask
  ask_de k q x w n g h =
      let s : Server = x.server in
      let m : Down = Deescalate q (s.whole_for q) in
      by_eq j k
      (λ e.
      let z : j ≡ k = eqb_yes j k e in
      rw (send_to k j (d j) x.sent m e, g e)
      (by_eq p q
      (λ f. rw (f, ← z, ← eqb_yes p q f) (asks h (rw (eqb_yes p q f, z) w) (rw (eqb_yes p q f) n)))
      (λ f.
      let far : eqb q p ≡ false = eqb_off p q f in
      rw (f, ← z) (push_down (Deescalate q (s.latest j)) (rw far refl) (omega arith) refl h))))
      (λ e.
      rw (send_past k j (d j) x.sent m e)
      (by_eq p q (λ f. rw f (others h s.ol (s.wl p) true (λ y. y) (λ y a. (y, refl)) (λ y a g b. b))) (λ f. rw f h)))

  -- P.call: the waiter wants what it wanted
  called_de : (i : ℕ) (s : Server) (c : ℕ → Bool) (l : ℕ → List Down) → DeescalationAt s t u l j p → DeescalationAt (set_queue s (upd s.queue i (waiter_pend (waiter_called (s.queue i) true) c))) t u l j p
  called_de i s c l h = by_eq j i (λ e. rw e (waits_for h _ _ (rw (← eqb_yes j i e) h.K10))) (λ e. rw e h)

  pub call_de : (i : ℕ) (x : Serving) → DeIn t u d j p x → DeIn t u d j p (call i x)
  unfolding call
  call_de i x h =
      let s : Server = x.server in
      let m : Down = Callback i (s.latest i) (s.queue i).writes in
      by_b (concerned s i j)
      (λ e. rw (call_own s i j (d j) x.sent e) (called_de i s (concerned s i) (λ k. snoc (d j ++ sent_to j x.sent) m) (push_down m refl tt refl h)))
      (λ e. rw (call_far s i j (d j) x.sent e) (called_de i s (concerned s i) (λ k. d j ++ sent_to j x.sent) h))

  -- ANSWERS

  -- 6, 7
  pub busy_de : (i k : ℕ) (x : Serving) → DeIn t u d j p x → DeIn t u d j p (mark_busy i k x)
  unfolding mark_busy
  busy_de i k x h = by_eq j k (λ e. rw (e, ← eqb_yes j k e) h) (λ e. rw e h)

  pub answered_de : (i k : ℕ) (x : Serving) → DeIn t u d j p x → DeIn t u d j p (answered i k x)
  unfolding answered
  answered_de i k x h = by_eq j k (λ e. rw (e, ← eqb_yes j k e) h) (λ e. rw e h)

  -- 8: it is taken, and was the only token
  pub loosen_de : (i q T : ℕ) (said set : ℕ → Bool) (l : List Up) (x : Serving) → u i ≡ WrittenSet q T said ∷ l → x.server.wl q ≡ suc i → (eqb j i ≡ true → T ≡ x.server.latest i) → DeIn t u d j p x → DeIn t (upd u i l) d j p (loosen i q set x)
  unfolding loosen
  loosen_de i q T said set l x k w y h =
      let s : Server = x.server in
      by_eq p q
      (λ f.
      let z : p ≡ q = eqb_yes p q f in
      by_eq j i
      (λ e.
      let o : j ≡ i = eqb_yes j i e in
      let head : u j ≡ WrittenSet p T said ∷ l = rw (o, z) k in
      rw (f, e) (loosens T said _ (rw o (y e)) (rw head at h)))
      (λ e. rw (f, e) (others h _ 0 false (λ g. absurd (omega arith)) (λ g a. absurd (eqb_no j i e (omega (arith, rw z at g)))) (λ g. absurd (omega arith)))))
      (λ f.
      let far : eqb q p ≡ false = eqb_off p q f in
      rw f
      (others (taken_de i (WrittenSet q T said) l x k (λ e g. rw far refl) h) _ (s.wl p) (s.asked p) (λ g. g) (λ g a. (g, a))
      (λ g a e b. rw (e, f) b)))
