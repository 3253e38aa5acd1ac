-- What the actions leave: kinds, and of an install what was sent and what can still be sent.
use Rattle.std.specs.Prelude.{◌≡◌, not, ◌&&◌, cond, ℕ, ◌+◌, ◌≤◌, eqb}
use Rattle.std.proofs.Math.Path.{refl}
use Rattle.std.proofs.Common.{arith}
use Rattle.sets.specs.Base.{upd}
use Rattle.line.specs.Messages.{locking, Work}
use Rattle.line.specs.Server.{Serving, no_waiter, is_want, finish, leave, send_page, abort, write, archive, install, ask, serve_read, call, grant_object, grant_page, unlocks}
use Rattle.line.specs.Fuel.{sum_to, nb}
use Rattle.queues.specs.Count.{sent_at, one_to, informs_leave, informs_one}
use Rattle.queues.specs.Left.{own, caller, callers, wholes, wholes_freed}

-- no action changes a kind
module _ (j i : ℕ) (x : Serving) where
  pub abort_kind : (c : ℕ) → locking ((abort i c x).server.kind j) ≡ locking (x.server.kind j)
  unfolding abort finish leave
  abort_kind c = refl

  pub ask_kind : (p : ℕ) → locking ((ask i p x).server.kind j) ≡ locking (x.server.kind j)
  unfolding ask
  ask_kind p = refl

  pub read_kind : locking ((serve_read i x).server.kind j) ≡ locking (x.server.kind j)
  unfolding serve_read send_page leave
  read_kind = refl

  pub call_kind : locking ((call i x).server.kind j) ≡ locking (x.server.kind j)
  unfolding call
  call_kind = refl

  pub object_kind : locking ((grant_object i x).server.kind j) ≡ locking (x.server.kind j)
  unfolding grant_object send_page leave
  object_kind = refl

  pub page_kind : locking ((grant_page i x).server.kind j) ≡ locking (x.server.kind j)
  unfolding grant_page send_page leave
  page_kind = refl

  pub install_kind : (w : Work) → locking ((install i w x).server.kind j) ≡ locking (x.server.kind j)
  unfolding install finish archive write leave
  install_kind w = informs_leave (λ s. locking (s.kind j)) (λ s l. refl) 8 0 i w _

at_most : {a b c : ℕ} → a ≤ b → b ≤ c → a ≤ c
at_most p q = omega arith

-- what an install leaves

module _ (j i : ℕ) (w : Work) (x : Serving) where
  -- a 21 to its station, and 23s
  pub install_sends : sent_at j (install i w x) ≤ sent_at j x + nb (eqb j i) + nb (not (eqb j i) && not (locking (x.server.kind j)))
  unfolding install finish archive write leave
  install_sends = at_most (informs_one j i w 8 0 _) (rw (one_to j i) (omega arith))

  pub install_own : own j (install i w x).server ≡ nb (is_want (upd x.server.queue i no_waiter j).want)
  unfolding install finish archive write leave
  install_own = informs_leave (own j) (λ s l. refl) 8 0 i w _

  pub install_callers : callers j (install i w x).server ≡ sum_to 8 (λ g. caller x.server.kind j g (upd x.server.queue i no_waiter g))
  unfolding install finish archive write leave
  install_callers = informs_leave (callers j) (λ s l. refl) 8 0 i w _

  pub install_wholes : wholes j (install i w x).server ≤ wholes j x.server
  unfolding install finish archive write leave
  install_wholes = rw (informs_leave (wholes j) (λ s l. refl) 8 0 i w) (wholes_freed (x.server.kind i) j i x.server.wl x.server.asked)

pub install_wl : (i : ℕ) (w : Work) (x : Serving) (p : ℕ) → (install i w x).server.wl p ≡ cond (unlocks (x.server.kind i) i (x.server.wl p)) 0 (x.server.wl p)
unfolding install finish archive write leave
install_wl i w x p = informs_leave (λ s. s.wl p) (λ s l. refl) 8 0 i w _
