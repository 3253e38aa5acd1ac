-- The server's actions and the locks of station j, under a server's step: t are the stations, u the up lines, d the down lines before
-- the step.
use Rattle.std.specs.Prelude.{◌≡◌, ◌&&◌, List, ◌++◌, ◌≢◌, ◌⊎◌, eqb}
use Rattle.std.proofs.Math.Path.{refl, sym, ap}
use Rattle.std.proofs.Common.{◌∙◌, arith}
use Rattle.std.proofs.Math.Bool.{Bool, true, false, cond}
use Rattle.std.proofs.Math.Logic.{inl, inr}
use Prim.Native.Nat.{ℕ, suc, ◌<◌}
use Rattle.sets.specs.Base.{upd, upd2, has}
use Rattle.sets.specs.Laws.{by_b, by_eq}
use Rattle.sets.proofs.Laws.{eqb_yes, eqb_no, and_l}
use Rattle.line.specs.Messages.{page_of, last_number, keeps, Work, Up, NoLock, ObjectLock, WholeLock, Down, Page, Deescalate, Callback, Committed, Aborted, Invalidate}
use Rattle.line.specs.Station.{Station, for_write}
use Rattle.line.specs.Server.{Server, Serving, on_server, send, set_listed, set_asked, values_on, unavailable, notice, finish, leave, send_page, abort, write, archive, install, commit_now, loosen, ask, serve_read, concerned, call, grant_object, grant_page, End, ByCommit, ByCause}
use Rattle.line.specs.Line.{sent_to}
use Rattle.line.specs.Truth.{count}
use Rattle.truth.specs.Clauses.{dropped}
use Rattle.truth.proofs.Frame.{count_snoc, all_snoc, send_own, call_own, call_far, noticed_latest, noticed_ol, noticed_wl, noticed_sent, if_serving, installs}
use Rattle.truth.proofs.CallbacksServer.{send_to, send_past}
use Rattle.jams.specs.Clauses.{is_end, Granted, Locks, LocksAt}
use Rattle.jams.specs.Locks.{bare, push_down, NoGrants}
use Rattle.jams.specs.Freed.{freed, freed_none, freed_back, freed_fore, released, released_none, released_back, released_fore, released_kept}
use Rattle.jams.specs.NumbersServer.{KindIn}
use Rattle.truth.specs.GoalsLists.{either}
use Rattle.jams.specs.LocksHeld.{Ranged, relocked, object_granted, page_granted}

abbrev pub LocksIn : (ℕ → Station) → (ℕ → List Up) → (ℕ → List Down) → ℕ → Serving → Type 0
LocksIn t u d j x = LocksAt x.server t u (λ k. d k ++ sent_to k x.sent) j

module _ (t : ℕ → Station) (u : ℕ → List Up) (d : ℕ → List Down) (j : ℕ) where
  -- station j's down line, and that what it is lent or writes is an address
  abbrev pub LineTo : Serving → List Down
  LineTo x = d j ++ sent_to j x.sent

  abbrev pub RangedIn : Serving → Type 0
  RangedIn x = Ranged (t j).wr (for_write (t j).wait) (LineTo x)

  pub send_locks : (i : ℕ) (m : Down) (x : Serving) → (eqb j i ≡ true → Granted j x.server.ol x.server.wl (for_write (t j).wait) (t j).ol m) → LocksIn t u d j x → LocksIn t u d j (send x i m)
  send_locks i m x g h = by_eq j i (λ e. rw (send_to i j (d j) x.sent m e) (push_down m (g e) h)) (λ e. rw (send_past i j (d j) x.sent m e) h)

  -- ENDS

  -- station i's locks are freed; those of another stay
  pub freed_locks : (i : ℕ) (n : End) (x : Serving) → eqb j i ≡ false → RangedIn x → LocksIn t u d j x → LocksIn t u d j (finish i n x)
  unfolding finish
  freed_locks i n x f k h =
      let s : Server = x.server in
      relocked k h (freed i s.ol) (released (s.kind i) i s.wl) (freed_back i j s.ol) (released_back (s.kind i) i j s.wl) (λ a b. freed_fore i j s.ol a f) (λ p. released_fore (s.kind i) i j s.wl p f)

  -- .. and 21 or 22 goes to i, to which no lock is on its way
  ended_locks : (i : ℕ) (n : End) (m : Down) (x : Serving) → is_end m ≡ true → ((OL WL : ℕ → ℕ) (due ol : ℕ → Bool) → Granted j OL WL due ol m) → RangedIn x → KindIn t j x → (eqb j i ≡ true → NoGrants j (LineTo x)) → LocksIn t u d j x → LocksIn t u d j (send (finish i n x) i m)
  unfolding finish
  ended_locks i n m x e q k c g h =
      let s : Server = x.server in
      by_eq j i
      (λ f.
      let kind : s.kind i ≡ (t j).kind = rw (← eqb_yes j i f) c in
      let WL' : ℕ → ℕ = released (s.kind i) i s.wl in
      let none : (a : ℕ) → freed i s.ol a ≢ suc j = λ a z. freed_none i s.ol a (z ∙ ap suc (eqb_yes j i f)) in
      let none_whole : keeps (t j).kind ≡ false → (p : ℕ) → WL' p ≢ suc j = λ v p z. released_none (s.kind i) i s.wl p (rw kind v) (z ∙ ap suc (eqb_yes j i f)) in
      let same : keeps (t j).kind ≡ true → (p : ℕ) → WL' p ≡ s.wl p = λ v p. released_kept (s.kind i) i s.wl p (rw kind v) in
      rw (send_to i j (d j) x.sent m f)
      (bare h.K3a h.K3b none none_whole (λ l o v a w. absurd (omega (arith, rw e at (count_snoc is_end (LineTo x) m))))
      (λ v p z. same v p ∙ h.K2b p z (inl v))
      (λ l o a z. either (h.K9 l o a z) (λ y. inl y) (λ y. inr (y.0, same y.0 (page_of a) ∙ y.1)))
      (all_snoc (Granted j (freed i s.ol) WL' (for_write (t j).wait) (t j).ol) (LineTo x) m (g f (freed i s.ol) WL' (for_write (t j).wait) (t j).ol) (q (freed i s.ol) WL' (for_write (t j).wait) (t j).ol))))
      (λ f. rw (send_past i j (d j) x.sent m f) (freed_locks i n x f k h))

  pub abort_locks : (i c : ℕ) (x : Serving) → RangedIn x → KindIn t j x → (eqb j i ≡ true → NoGrants j (LineTo x)) → LocksIn t u d j x → LocksIn t u d j (abort i c x)
  unfolding abort leave
  abort_locks i c x k v g h = ended_locks i (ByCause c) (Aborted _ c) (leave i x) refl (λ OL WL due ol. tt) k v g h

  pub install_locks : (i : ℕ) (w : Work) (x : Serving) → RangedIn x → KindIn t j x → (eqb j i ≡ true → NoGrants j (LineTo x)) → LocksIn t u d j x → LocksIn t u d j (install i w x)
  unfolding archive write leave
  install_locks i w x k v g h =
      installs (LocksIn t u d j) i w
      (λ n y e z. send_locks n (Invalidate (λ a. has (w.writes a))) y (λ f. tt) z)
      x (ended_locks i ByCommit (Committed w.transaction _) (archive i w (write w (leave i x))) refl (λ OL WL due ol. tt) k v g h)

  pub commit_locks : (i : ℕ) (w : Work) (x : Serving) → RangedIn x → KindIn t j x → (eqb j i ≡ true → NoGrants j (LineTo x)) → LocksIn t u d j x → LocksIn t u d j (commit_now i w x)
  unfolding commit_now
  commit_locks i w x k v g h = if_serving (LocksIn t u d j) (eqb x.server.last last_number) (λ e. abort_locks i 4 x k v g h) (λ e. install_locks i w x k v g h)

  -- THE PASS

  pub ask_locks : (k p : ℕ) (x : Serving) → LocksIn t u d j x → LocksIn t u d j (ask k p x)
  unfolding ask
  ask_locks k p x h = send_locks k (Deescalate p (x.server.whole_for p)) (on_server x (set_asked x.server (upd x.server.asked p true))) (λ e. tt) h

  -- 16
  pub page_locks : (i a : ℕ) (v : ℕ → Bool) (x : Serving) → LocksIn t u d j x → LocksIn t u d j (send_page NoLock i a v x)
  unfolding send_page
  page_locks i a v x h =
      let s : Server = x.server in
      send_locks i (Page NoLock a (s.latest i) (values_on (page_of a) s.ver) v (values_on (page_of a) s.val)) (on_server x (set_listed s (upd2 s.listed i (page_of a) true))) (λ e. tt) h

  pub read_locks : (i : ℕ) (x : Serving) → LocksIn t u d j x → LocksIn t u d j (serve_read i x)
  unfolding serve_read leave
  read_locks i x h = page_locks i (x.server.queue i).req (unavailable x.server i (x.server.queue i).req) (leave i x) h

  pub call_locks : (i : ℕ) (x : Serving) → LocksIn t u d j x → LocksIn t u d j (call i x)
  unfolding call
  call_locks i x h =
      let s : Server = x.server in
      by_b (concerned s i j) (λ e. rw (call_own s i j (d j) x.sent e) (push_down (Callback i (s.latest i) (s.queue i).writes) tt h))
      (λ e. rw (call_far s i j (d j) x.sent e) h)

  -- 17: no drop of the page is on its way up, and no other has one of the objects locked; what its station has to write is named [S7, S8]
  pub object_locks : (i : ℕ) (x : Serving) → RangedIn x → count (dropped (page_of (x.server.queue i).req)) (u i) ≡ 0 → (eqb j i ≡ false → (a : ℕ) → (x.server.queue i).writes a ≡ true → a < 256 → x.server.ol a ≢ suc j)
      → ((b : ℕ) → (x.server.queue i).writes b ≡ true → page_of b ≡ page_of (x.server.queue i).req) → ((b : ℕ) → (x.server.queue i).writes b ≡ true → for_write (t i).wait b ≡ true)
      → ((b : ℕ) → for_write (t i).wait b ≡ true → ((x.server.queue i).writes b ≡ true) ⊎ ((t i).ol b ≡ true))
      → LocksIn t u d j x → LocksIn t u d j (grant_object i x)
  unfolding grant_object send_page leave
  object_locks i x k n f page named full h =
      let s : Server = x.server in
      let a : ℕ = (s.queue i).req in
      let set : ℕ → Bool = (s.queue i).writes in
      let m : Down = Page ObjectLock a (s.latest i) (values_on (page_of a) s.ver) (unavailable s i a) (values_on (page_of a) s.val) in
      by_eq j i
      (λ e.
      let k' = rw (eqb_yes j i e) at k in
      let h' = rw (eqb_yes j i e) at h in
      rw (eqb_yes j i e, send_own i (d i) x.sent m) (object_granted k' h' set a _ _ _ _ n page named full))
      (λ e.
      rw (send_past i j (d j) x.sent m e)
      (relocked k h (λ b. cond (set b) (suc i) (s.ol b)) s.wl
      (λ b z. by_b (set b) (λ y. let v : suc i ≡ suc j = rw y at z in absurd (eqb_no j i e (omega arith))) (λ y. rw y at z)) (λ p z. z)
      (λ b c z. by_b (set b) (λ y. absurd (f e b y c z)) (λ y. rw y z)) (λ p z. z)))

  -- 18: .. and no other has the page locked whole
  pub whole_locks : (i : ℕ) (x : Serving) → RangedIn x → count (dropped (page_of (x.server.queue i).req)) (u i) ≡ 0 → (eqb j i ≡ false → x.server.wl (page_of (x.server.queue i).req) ≢ suc j) → LocksIn t u d j x → LocksIn t u d j (grant_page i x)
  unfolding grant_page send_page leave
  whole_locks i x k n f h =
      let s : Server = x.server in
      let a : ℕ = (s.queue i).req in
      let m : Down = Page WholeLock a (s.latest i) (values_on (page_of a) s.ver) (unavailable s i a) (values_on (page_of a) s.val) in
      by_eq j i
      (λ e.
      let k' = rw (eqb_yes j i e) at k in
      let h' = rw (eqb_yes j i e) at h in
      rw (eqb_yes j i e, send_own i (d i) x.sent m) (page_granted k' h' a _ _ _ _ n))
      (λ e.
      rw (send_past i j (d j) x.sent m e)
      (relocked k h s.ol (upd s.wl (page_of a) (suc i)) (λ b z. z)
      (λ p z. by_eq p (page_of a) (λ y. let v : suc i ≡ suc j = rw y at z in absurd (eqb_no j i e (omega arith))) (λ y. rw y at z)) (λ b c z. z)
      (λ p z. by_eq p (page_of a) (λ y. absurd (f e (rw (eqb_yes p (page_of a) y) at z))) (λ y. rw y z))))

  -- ACCEPT

  pub notice_locks : (i T : ℕ) (x : Serving) → (eqb j i ≡ true → Locks j (t j).kind (t j).num (t j).opened (t j).wr (t j).ol (t j).wl (for_write (t j).wait) x.server.ol x.server.wl T (u j) (LineTo x)) → (eqb j i ≡ false → LocksIn t u d j x) → LocksIn t u d j (notice i T x)
  notice_locks i T x f g = rw (noticed_ol i T x, noticed_wl i T x, noticed_sent i T x, noticed_latest i T x j) (by_eq j i (λ e. rw e (f e)) (λ e. rw e (g e)))

  -- 8 of station i, which has the page locked whole: another's locks stay
  pub loosen_locks : (i p : ℕ) (set : ℕ → Bool) (x : Serving) → eqb j i ≡ false → RangedIn x → x.server.wl p ≡ suc i → ((a : ℕ) → a < 256 → x.server.wl (page_of a) ≡ suc i → x.server.ol a ≡ suc j → j ≡ i) → LocksIn t u d j x → LocksIn t u d j (loosen i p set x)
  unfolding loosen
  loosen_locks i p set x e k w alone h =
      let s : Server = x.server in
      relocked k h (λ a. cond (eqb (page_of a) p && set a) (suc i) (s.ol a)) (upd s.wl p 0)
      (λ a z. by_b (eqb (page_of a) p && set a) (λ y. let v : suc i ≡ suc j = rw y at z in absurd (eqb_no j i e (omega arith))) (λ y. rw y at z))
      (λ q z. by_eq q p (λ y. let v : 0 ≡ suc j = rw y at z in absurd (omega arith)) (λ y. rw y at z))
      (λ a b z. by_b (eqb (page_of a) p && set a) (λ y. absurd (eqb_no j i e (alone a b (rw (eqb_yes (page_of a) p (and_l (eqb (page_of a) p) _ y)) w) z))) (λ y. rw y z))
      (λ q z. by_eq q p (λ y. let v : suc i ≡ suc j = sym w ∙ (rw (eqb_yes q p y) at z) in absurd (eqb_no j i e (omega arith))) (λ y. rw y z))
