-- A station is "fixed for life" as what it is: no step of the server changes its kind.
use Prim.Native.Nat.{ℕ, zero, suc}
use Rattle.std.specs.Prelude.{◌≡◌, refl, Bool, eqb, ltb}
use Rattle.line.specs.Messages.{last_number, locking, Work, Up, ReadRequest, WriteRequest, Commit, Abort, Purge, Busy, Done, WrittenSet}
use Rattle.line.specs.Server.{Server, Serving, notice, finish, join, leave, send_page, abort, write, archive, informed, inform, inform_from, install, serve_now, join_read, join_write, join_commit, commit_now, unlist, open_call, mark_busy, answered, open_ask, loosen, meet, heed, accept, ask, serve_read, call, grant_page, grant_object, install_waiter, start, server_step}
use Rattle.line.specs.Pass.{Atomic, if_keeps, step_keeps}

module _ (k : ℕ → ℕ) where
  abbrev Kinds : Serving → Type 0
  Kinds x = x.server.kind ≡ k

  inform_kinds : (i : ℕ) (w : Work) (j : ℕ) (x : Serving) → Kinds x → Kinds (inform i w j x)
  unfolding inform
  inform_kinds i w j x h = if_keeps Kinds (informed x.server i w j) (λ e. h) (λ e. h)

  informs_kinds : (n j i : ℕ) (w : Work) (x : Serving) → Kinds x → Kinds (inform_from n j i w x)
  unfolding inform_from
  informs_kinds zero j i w x h = h
  informs_kinds (suc n) j i w x h = informs_kinds n (suc j) i w (inform i w j x) (inform_kinds i w j x h)

  install_kinds : (i : ℕ) (w : Work) (x : Serving) → Kinds x → Kinds (install i w x)
  unfolding install finish archive write leave
  install_kinds i w x h = informs_kinds 8 0 i w _ h

  abort_kinds : (i c : ℕ) (x : Serving) → Kinds x → Kinds (abort i c x)
  unfolding abort finish leave
  abort_kinds i c x h = h

  atomic_kinds : Atomic Kinds
  unfolding ask serve_read call grant_object grant_page install_waiter send_page leave
  atomic_kinds =
      record {
        aborts = λ i c x b w h. abort_kinds i c x h;
        asks = λ i g p x b s a h. h;
        reads = λ i x b w c h. h;
        calls = λ i x b w c n d h. h;
        objects = λ i x b w r h. h;
        pages = λ i x b w r n h. h;
        installs = λ i x b w f r h. install_kinds i (x.server.queue i).work x h;
      }

  notice_kinds : (i t : ℕ) (x : Serving) → Kinds x → Kinds (notice i t x)
  unfolding notice
  notice_kinds i t x h = if_keeps Kinds (eqb t (x.server.latest i)) (λ e. h) (λ e. h)

  meet_kinds : (i t : ℕ) (x : Serving) → Kinds x → Kinds (meet i t x)
  unfolding meet
  meet_kinds i t x h = if_keeps Kinds (ltb (x.server.latest i) t) (λ e. notice_kinds i t x h) (λ e. h)

  heed_kinds : (i p t : ℕ) (set : ℕ → Bool) (x : Serving) → Kinds x → Kinds (heed i p t set x)
  unfolding heed loosen
  heed_kinds i p t set x h = meet_kinds i t x h

  commit_kinds : (i : ℕ) (w : Work) (x : Serving) → Kinds x → Kinds (commit_now i w x)
  unfolding commit_now
  commit_kinds i w x h = if_keeps Kinds (eqb x.server.last last_number) (λ e. abort_kinds i 4 x h) (λ e. install_kinds i w x h)

  accept_kinds : (i : ℕ) (m : Up) (x : Serving) → Kinds x → Kinds (accept i m x)
  unfolding accept join_read join_write join_commit join serve_now send_page finish unlist mark_busy answered
  accept_kinds i (ReadRequest a t) x h =
      let n = notice_kinds i t x h in
      if_keeps Kinds (locking (x.server.kind i)) (λ e. n) (λ e. n)
  accept_kinds i (WriteRequest p t set) x h = notice_kinds i t x h
  accept_kinds i (Commit w) x h =
      let n = notice_kinds i w.transaction x h in
      if_keeps Kinds (locking (x.server.kind i)) (λ e. commit_kinds i w (notice i w.transaction x) n) (λ e. n)
  accept_kinds i (Abort t) x h = notice_kinds i t x h
  accept_kinds i (Purge p) x h = h
  accept_kinds i (Busy r t) x h = if_keeps Kinds (open_call x.server i r t) (λ e. h) (λ e. h)
  accept_kinds i (Done r t d) x h = if_keeps Kinds (open_call x.server i r t) (λ e. h) (λ e. h)
  accept_kinds i (WrittenSet p t set) x h = if_keeps Kinds (open_ask x.server i p t) (λ e. heed_kinds i p t set x h) (λ e. h)

pub server_kind : (i : ℕ) (m : Up) (s : Server) → (server_step i m s).server.kind ≡ s.kind
server_kind i m s = step_keeps (Kinds s.kind) (atomic_kinds s.kind) i m s (accept_kinds s.kind i m (start s) refl)
