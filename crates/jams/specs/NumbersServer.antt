-- The server's actions and the clauses on the numbers of station j, under a server's step: t are the stations, u the up lines, d the down
-- lines before the step.
use Rattle.std.specs.Prelude.{◌≡◌, Bool, ◌&&◌, List, ◌++◌}
use Rattle.std.proofs.Math.Path.{refl}
use Rattle.std.proofs.Common.{sym, ap}
use Rattle.std.proofs.Math.Bool.{true, false, not, cond}
use Prim.Native.Nat.{ℕ, suc, ◌≤◌}
use Rattle.std.proofs.Math.Dec.{eqb, ltb}
use Rattle.sets.specs.Base.{upd, upd2, has}
use Rattle.sets.specs.Laws.{by_b, by_eq}
use Rattle.sets.proofs.Laws.{eqb_yes, and_l, and_r, not_yes}
use Rattle.line.specs.All.{All}
use Rattle.line.specs.Messages.{page_of, last_number, locking, Work, Up, Lock, NoLock, ObjectLock, WholeLock, Down, Page, Deescalate, Callback, Committed, Aborted, Invalidate}
use Rattle.line.specs.Station.{Station}
use Rattle.line.specs.Server.{Server, Serving, on_server, send, set_listed, set_asked, set_ol, set_wl, values_on, informed, unavailable, finish, leave, send_page, abort, write, archive, install, commit_now, ask, serve_read, concerned, call, grant_object, grant_page, End, ByCommit, ByCause, set_whole_for}
use Rattle.line.specs.Line.{sent_to}
use Rattle.truth.proofs.Frame.{if_serving, installs, call_own, call_far}
use Rattle.truth.proofs.CallbacksServer.{send_to, send_past}
use Rattle.jams.specs.Clauses.{KindDown, Above, is_end, Latest, NumbersAt, AskBelow}
use Rattle.jams.specs.Numbers.{Calm, push_down, finished}

abbrev pub NumbersIn : (ℕ → Station) → (ℕ → List Up) → (ℕ → List Down) → ℕ → Serving → Type 0
NumbersIn t u d j x = NumbersAt x.server t u (λ k. d k ++ sent_to k x.sent) j

-- the server's word on a station's kind
abbrev pub KindIn : (ℕ → Station) → ℕ → Serving → Type 0
KindIn t j x = x.server.kind j ≡ (t j).kind

-- nothing under way answers station j's open transaction or names the server's latest of it: it may be finished
pub record Ready (t : ℕ → Station) (u : ℕ → List Up) (d : ℕ → List Down) (j : ℕ) (x : Serving) : Type 0 where
  pub calm : Calm (t j).num (t j).opened (d j ++ sent_to j x.sent)
  pub above : All (Above (x.server.latest j)) (u j)

module _ (t : ℕ → Station) (u : ℕ → List Up) (d : ℕ → List Down) (j : ℕ) where
  -- a message to station i; what it has to be if i is j
  pub send_numbers : (i : ℕ) (m : Down) (x : Serving) → (eqb j i ≡ true → KindDown (t j).kind m × Latest (t j).num (t j).opened (x.server.latest j) (x.server.fin j) m × AskBelow (x.server.latest j) m) → NumbersIn t u d j x → NumbersIn t u d j (send x i m)
  send_numbers i m x k h =
      by_eq j i (λ e. rw (send_to i j (d j) x.sent m e) (push_down m (k e).0 (k e).1 (k e).2 h)) (λ e. rw (send_past i j (d j) x.sent m e) h)

  -- the latest of station i is finished, and told so
  end_numbers : (i : ℕ) (n : End) (m : Down) (x : Serving) → is_end m ≡ true → KindDown (t j).kind m → (eqb j i ≡ true → Latest (t j).num (t j).opened (x.server.latest j) true m) → (eqb j i ≡ true → Ready t u d j x) → NumbersIn t u d j x → NumbersIn t u d j (send (finish i n x) i m)
  unfolding finish
  end_numbers i n m x e k l r h =
      by_eq j i (λ q. rw (q, send_to i j (d j) x.sent m q) (finished m e k (l q) (r q).calm (r q).above h)) (λ q. rw (q, send_past i j (d j) x.sent m q) h)

  -- 22
  pub abort_numbers : (i c : ℕ) (x : Serving) → (eqb j i ≡ true → Ready t u d j x) → NumbersIn t u d j x → NumbersIn t u d j (abort i c x)
  unfolding abort leave finish
  abort_numbers i c x r h =
      end_numbers i (ByCause c) (Aborted (x.server.latest i) c) (leave i x) refl tt (λ e. (ap x.server.latest (sym (eqb_yes j i e)), refl)) (λ e. record { calm = (r e).calm; above = (r e).above }) h

  -- 21, then the 23s
  pub install_numbers : (i : ℕ) (w : Work) (x : Serving) → (eqb j i ≡ true → w.transaction ≡ x.server.latest j) → (eqb j i ≡ true → Ready t u d j x) → KindIn t j x → NumbersIn t u d j x → NumbersIn t u d j (install i w x)
  unfolding archive write leave finish
  install_numbers i w x l r k h =
      (installs (λ y. NumbersIn t u d j y × KindIn t j y) i w
      (λ g y e z. (
        send_numbers g (Invalidate (λ a. has (w.writes a))) y
            (λ q. (informed_kind g y e q z.1, tt, tt)) z.0,
        z.1,
      ))
      x
      (end_numbers i ByCommit (Committed w.transaction (finish i ByCommit (archive i w (write w (leave i x)))).server.last) (archive i w (write w (leave i x))) refl tt (λ q. (l q, refl)) (λ q. record { calm = (r q).calm; above = (r q).above }) h, k)).0
    where
      informed_kind : (g : ℕ) (y : Serving) → informed y.server i w g ≡ true → eqb j g ≡ true → KindIn t j y → locking (t j).kind ≡ false
      informed_kind g y e q z =
          let n : not (locking (y.server.kind g)) ≡ true = and_r (not (eqb g i)) (not (locking (y.server.kind g))) (and_l (not (eqb g i) && not (locking (y.server.kind g))) _ e) in
          rw (← z, eqb_yes j g q) (not_yes (locking (y.server.kind g)) n)

  pub commit_numbers : (i : ℕ) (w : Work) (x : Serving) → (eqb j i ≡ true → w.transaction ≡ x.server.latest j) → (eqb j i ≡ true → Ready t u d j x) → KindIn t j x → NumbersIn t u d j x → NumbersIn t u d j (commit_now i w x)
  unfolding commit_now
  commit_numbers i w x l r k h =
      if_serving (NumbersIn t u d j) (eqb x.server.last last_number) (λ e. abort_numbers i 4 x r h) (λ e. install_numbers i w x l r k h)

  -- 16, 17, 18: they name the latest, which is unfinished
  pub page_numbers : (l : Lock) (i a : ℕ) (v : ℕ → Bool) (x : Serving) → (eqb j i ≡ true → (n y : ℕ → ℕ) → KindDown (t j).kind (Page l a (x.server.latest i) n v y)) → (eqb j i ≡ true → x.server.fin j ≡ false) → NumbersIn t u d j x → NumbersIn t u d j (send_page l i a v x)
  unfolding send_page
  page_numbers l i a v x k f h =
      let s : Server = x.server in
      send_numbers i (Page l a (s.latest i) (values_on (page_of a) s.ver) v (values_on (page_of a) s.val)) (on_server x (set_listed s (upd2 s.listed i (page_of a) true)))
      (λ e. (k e (values_on (page_of a) s.ver) (values_on (page_of a) s.val), (λ z. (ap s.latest (sym (eqb_yes j i e)), f e)), tt)) h

  -- 19, to a locking station
  pub ask_numbers : (g p : ℕ) (x : Serving) → locking (x.server.kind g) ≡ true → x.server.whole_for p ≤ x.server.latest g → KindIn t j x → NumbersIn t u d j x → NumbersIn t u d j (ask g p x)
  unfolding ask
  ask_numbers g p x l b k h =
      send_numbers g (Deescalate p (x.server.whole_for p)) (on_server x (set_asked x.server (upd x.server.asked p true)))
      (λ e. (rw (← k, eqb_yes j g e) l, tt, rw (eqb_yes j g e) b)) h

  -- 20s, to locking stations
  pub call_numbers : (i : ℕ) (x : Serving) → KindIn t j x → NumbersIn t u d j x → NumbersIn t u d j (call i x)
  unfolding call
  call_numbers i x k h =
      let s : Server = x.server in
      by_b (concerned s i j)
      (λ c.
      let l : locking (s.kind j) ≡ true = and_r (not (eqb j i) && ltb j 8) (locking (s.kind j)) (and_l (not (eqb j i) && ltb j 8 && locking (s.kind j)) _ c) in
      rw (call_own s i j (d j) x.sent c) (push_down (Callback i (s.latest i) (s.queue i).writes) (rw (← k) l) tt tt h))
      (λ c. rw (call_far s i j (d j) x.sent c) h)

  pub read_numbers : (i : ℕ) (x : Serving) → x.server.fin i ≡ false → NumbersIn t u d j x → NumbersIn t u d j (serve_read i x)
  unfolding serve_read leave
  read_numbers i x f h =
      let a : ℕ = (x.server.queue i).req in
      page_numbers NoLock i a (unavailable x.server i a) (leave i x) (λ e n y. tt) (λ e. rw (eqb_yes j i e) f) h

  -- who waits for a lock is locking
  module _ (i : ℕ) (x : Serving) (f : x.server.fin i ≡ false) (l : locking (x.server.kind i) ≡ true) (k : KindIn t j x) where
    own_kind : eqb j i ≡ true → locking (t j).kind ≡ true
    own_kind e = rw (← k, eqb_yes j i e) l

    pub object_numbers : NumbersIn t u d j x → NumbersIn t u d j (grant_object i x)
    unfolding grant_object leave
    object_numbers h =
        let s : Server = x.server in
        let a : ℕ = (s.queue i).req in
        let y : Serving = leave i x in
        page_numbers ObjectLock i a (unavailable s i a) (on_server y (set_ol y.server (λ c. cond ((s.queue i).writes c) (suc i) (s.ol c)))) (λ e n v. own_kind e) (λ e. rw (eqb_yes j i e) f) h

    pub whole_numbers : NumbersIn t u d j x → NumbersIn t u d j (grant_page i x)
    unfolding grant_page leave
    whole_numbers h =
        let s : Server = x.server in
        let a : ℕ = (s.queue i).req in
        let y : Serving = leave i x in
        page_numbers WholeLock i a (unavailable s i a) (on_server y (set_wl (set_whole_for (set_asked y.server (upd s.asked (page_of a) false)) (upd s.whole_for (page_of a) (s.latest i))) (upd s.wl (page_of a) (suc i)))) (λ e n v. own_kind e) (λ e. rw (eqb_yes j i e) f) h
