-- To a validating station j one step sends at most 8 messages: an answer, and a 23 from each of seven others. It holds no lock, so no 19.
use Rattle.std.specs.Prelude.{◌≡◌, true, false, not, ◌&&◌, ℕ, suc, ◌+◌, ◌≤◌, ◌<◌, eqb, ltb}
use Rattle.std.proofs.Common.{sym, ap, ◌∙◌}
use Rattle.std.proofs.lemmas.Bool.{false≢true}
use native.Mathlib.Omega.{arith}
use Rattle.sets.specs.Laws.{by_b, by_eq}
use Rattle.sets.proofs.Laws.{eqb_yes, eqb_no, and_l, and_r}
use Rattle.line.specs.Messages.{locking, Work}
use Rattle.line.specs.Server.{Server, Serving, is_want, waits, concerned, finish, leave, send_page, abort, install, install_waiter, ask, serve_read, call, grant_object, grant_page}
use Rattle.line.specs.Pass.{Atomic}
use Rattle.line.specs.Apart.{Apart, atomic_apart}
use Rattle.line.specs.Fuel.{nb}
use Rattle.queues.specs.Count.{sent_at, one_to, both_to, calls_one}
use Rattle.queues.specs.Left.{own, caller, callers, own_goes, callers_go, own_called, callers_called}
use Rattle.queues.specs.Leaves.{abort_kind, ask_kind, read_kind, call_kind, object_kind, page_kind, install_kind, install_sends, install_own, install_callers}

module _ (j : ℕ) where
  abbrev pub few : Serving → ℕ
  few x = sent_at j x + own j x.server + callers j x.server

  abort_few : (i c : ℕ) (x : Serving) → i < 8 → waits x.server i ≡ true → few (abort i c x) ≤ few x
  unfolding abort finish leave
  abort_few i c x b t = rw (one_to j i) (omega (arith, own_goes j i x.server.queue t, callers_go j i x.server.kind x.server.queue b))

  ask_few : (h p : ℕ) (x : Serving) → eqb j h ≡ false → few (ask h p x) ≤ few x
  unfolding ask
  ask_few h p x e = rw (one_to j h, e) (omega arith)

  read_few : (i : ℕ) (x : Serving) → i < 8 → waits x.server i ≡ true → few (serve_read i x) ≤ few x
  unfolding serve_read send_page leave
  read_few i x b t = rw (one_to j i) (omega (arith, own_goes j i x.server.queue t, callers_go j i x.server.kind x.server.queue b))

  object_few : (i : ℕ) (x : Serving) → i < 8 → waits x.server i ≡ true → few (grant_object i x) ≤ few x
  unfolding grant_object send_page leave
  object_few i x b t = rw (one_to j i) (omega (arith, own_goes j i x.server.queue t, callers_go j i x.server.kind x.server.queue b))

  page_few : (i : ℕ) (x : Serving) → i < 8 → waits x.server i ≡ true → few (grant_page i x) ≤ few x
  unfolding grant_page send_page leave
  page_few i x b t = rw (one_to j i) (omega (arith, own_goes j i x.server.queue t, callers_go j i x.server.kind x.server.queue b))

  -- 20s go to locking stations
  uncalled : (s : Server) (i : ℕ) → locking (s.kind j) ≡ false → nb (concerned s i j) ≡ 0
  uncalled s i k =
      by_b (concerned s i j)
      (λ e. absurd (false≢true (sym k ∙ and_r (not (eqb j i) && ltb j 8) _ (and_l (not (eqb j i) && ltb j 8 && locking (s.kind j)) _ e))))
      (λ e. ap nb e)

  call_few : (i : ℕ) (x : Serving) → i < 8 → waits x.server i ≡ true → (x.server.queue i).called ≡ false → locking (x.server.kind j) ≡ false → few (call i x) ≤ few x
  unfolding call
  call_few i x b t c k =
      let s : Server = x.server in
      rw (both_to j x.sent) (omega (arith, calls_one j i s 8 0, uncalled s i k, own_called j i s.queue (concerned s i), callers_called j i s.kind s.queue (concerned s i) b t c))

  install_few : (i : ℕ) (w : Work) (x : Serving) → i < 8 → waits x.server i ≡ true → locking (x.server.kind j) ≡ false → few (install i w x) ≤ few x
  install_few i w x b t k =
      omega (arith, install_sends j i w x, install_own j i w x, install_callers j i w x, own_goes j i x.server.queue t, callers_go j i x.server.kind x.server.queue b, used)
    where
      turn : eqb j i ≡ false → eqb i j ≡ false
      turn e = by_eq i j (λ f. absurd (eqb_no j i e (sym (eqb_yes i j f)))) (λ f. f)

      used : nb (not (eqb j i) && not (locking (x.server.kind j))) ≤ caller x.server.kind j i (x.server.queue i)
      used = by_eq j i (λ e. rw e (omega arith)) (λ e. rw (e, turn e, k, t) (omega arith))

  pub record HeldFew (x : Serving) : Type 0 where
    pub apart : Apart x.server
    pub kind : locking (x.server.kind j) ≡ false
    pub most : few x ≤ 8

  -- who holds a whole lock is locking
  not_held : (h p : ℕ) (s : Server) → Apart s → locking (s.kind j) ≡ false → s.wl p ≡ suc h → eqb j h ≡ false
  not_held h p s a k e =
      by_eq j h (λ f. absurd (false≢true (sym k ∙ rw (eqb_yes j h f) (a.locks.whole_open h p e).locks))) (λ f. f)

  pub atomic_few : Atomic HeldFew
  unfolding install_waiter
  atomic_few =
      let a = atomic_apart in
      record {
        aborts = λ i c x b t h. let m = h.most in let l = abort_few i c x b t in record { apart = a.aborts i c x b t h.apart; kind = abort_kind j i x c ∙ h.kind; most = omega arith };
        asks = λ i g p x b t u h. let m = h.most in let l = ask_few g p x (not_held g p x.server h.apart h.kind t.held) in record { apart = a.asks i g p x b t u h.apart; kind = ask_kind j g x p ∙ h.kind; most = omega arith };
        reads = λ i x b w c h. let m = h.most in let l = read_few i x b (ap is_want w) in record { apart = a.reads i x b w c h.apart; kind = read_kind j i x ∙ h.kind; most = omega arith };
        calls = λ i x b t u w c h. let m = h.most in let l = call_few i x b t u h.kind in record { apart = a.calls i x b t u w c h.apart; kind = call_kind j i x ∙ h.kind; most = omega arith };
        objects = λ i x b w r h. let m = h.most in let l = object_few i x b (ap is_want w) in record { apart = a.objects i x b w r h.apart; kind = object_kind j i x ∙ h.kind; most = omega arith };
        pages = λ i x b w r e h. let m = h.most in let l = page_few i x b (ap is_want w) in record { apart = a.pages i x b w r e h.apart; kind = page_kind j i x ∙ h.kind; most = omega arith };
        installs = λ i x b w f r h. let m = h.most in let l = install_few i (x.server.queue i).work x b (ap is_want w) h.kind in record { apart = a.installs i x b w f r h.apart; kind = install_kind j i x (x.server.queue i).work ∙ h.kind; most = omega arith };
      }
