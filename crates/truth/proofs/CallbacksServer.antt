-- The server's actions and the callback tokens of requester r at station j, under a server's step: t are the stations, u the up lines,
-- d the down lines before the step.
use Rattle.std.specs.Prelude.{◌≡◌, Bool, true, List, ◌++◌}
use Rattle.std.proofs.Math.Path.{refl}
use Rattle.std.proofs.Common.{sym, ◌∙◌, arith}
use Rattle.std.proofs.Math.Bool.{false, false≢true, cond}
use Prim.Native.Nat.{ℕ, suc, ◌<◌}
use Rattle.std.proofs.Math.Dec.{eqb}
use Rattle.sets.specs.Base.{upd, upd2, snoc, has}
use Rattle.sets.specs.Laws.{by_b, by_eq}
use Rattle.sets.proofs.Laws.{eqb_same, eqb_yes, eqb_no, any_no, not_yes}
use Rattle.line.specs.Messages.{page_of, last_number, Work, Up, Lock, NoLock, ObjectLock, WholeLock, Down, Page, Deescalate, Committed, Aborted, Invalidate, Sent, To}
use Rattle.line.specs.Station.{Station}
use Rattle.line.specs.Server.{End, ByCommit, ByCause, Server, Serving, on_server, send, set_listed, set_asked, set_ol, set_wl, values_on, unavailable, Waiter, is_want, no_waiter, waits, bad_number, notice, finish, join, leave, send_page, abort, write, archive, install, commit_now, mark_busy, answered, ask, serve_read, concerned, call, grant_object, grant_page, all_answered, set_whole_for}
use Rattle.line.specs.Line.{sent_to}
use Rattle.line.specs.Laws.{sent_to_snoc}
use Rattle.line.specs.Apart.{GoodNumber, good_number}
use Rattle.truth.specs.Clauses.{call_of, call_tokens, CallBelow}
use Rattle.truth.proofs.Frame.{append_assoc, if_serving, installs, call_own, call_far}
use Rattle.truth.proofs.Callbacks.{push_down, no_token, over, changes, answers, alike, begun, called_far, called_near}
use Rattle.truth.specs.CallbacksServer.{CallsIn}

-- the line of the station that is sent to
pub send_to : (i j : ℕ) (d : List Down) (l : List Sent) (m : Down) → eqb j i ≡ true → d ++ sent_to j (snoc l (To i m)) ≡ snoc (d ++ sent_to j l) m
send_to i j d l m e = rw (sent_to_snoc j i m l, e) (append_assoc d (sent_to j l) _)

pub send_past : (i j : ℕ) (d : List Down) (l : List Sent) (m : Down) → eqb j i ≡ false → d ++ sent_to j (snoc l (To i m)) ≡ d ++ sent_to j l
send_past i j d l m e = rw (sent_to_snoc j i m l, e) refl

module _ (t : ℕ → Station) (u : ℕ → List Up) (d : ℕ → List Down) (r j : ℕ) where
  -- the parts of the actions

  pub send_calls : (i : ℕ) (m : Down) (x : Serving) → call_of r (x.server.latest r) m ≡ false → CallBelow r (x.server.latest r) m → CallsIn t u d r j x → CallsIn t u d r j (send x i m)
  send_calls i m x e b h =
      by_eq j i (λ q. rw (send_to i j (d j) x.sent m q) (push_down m e b h)) (λ q. rw (send_past i j (d j) x.sent m q) h)

  -- its waiter goes: no call of it was open
  pub leave_calls : (i : ℕ) (x : Serving) → (eqb r i ≡ true → is_want (x.server.queue r).want ≡ true → (x.server.queue r).called ≡ true → (x.server.queue r).pend j ≡ true → ⊥) → CallsIn t u d r j x → CallsIn t u d r j (leave i x)
  unfolding leave
  leave_calls i x n h =
      by_eq r i (λ e. rw e (changes h no_waiter false (λ f. no_token h f (n e)) (λ a b. false≢true a))) (λ e. rw e h)

  -- its waiter goes, its transaction is over
  pub end_calls : (i : ℕ) (f : End) (x : Serving) → CallsIn t u d r j x → CallsIn t u d r j (finish i f (leave i x))
  unfolding finish leave
  end_calls i f x h = by_eq r i (λ e. rw e (over h no_waiter false refl)) (λ e. rw e h)

  -- the transaction of a station that does not wait is over
  pub finish_calls : (i : ℕ) (f : End) (x : Serving) → waits x.server i ≡ false → CallsIn t u d r j x → CallsIn t u d r j (finish i f x)
  unfolding finish
  finish_calls i f x n h =
      by_eq r i (λ e. rw e (over h (x.server.queue r) ((x.server.queue r).pend j) (rw (eqb_yes r i e) n))) (λ e. rw e h)

  -- a new entry, not called
  pub join_calls : (i : ℕ) (q : Waiter) (x : Serving) → waits x.server i ≡ false → q.called ≡ false → CallsIn t u d r j x → CallsIn t u d r j (join i q x)
  unfolding join
  join_calls i q x n c h =
      by_eq r i
      (λ e.
      let z : waits x.server r ≡ false = rw (eqb_yes r i e) n in
      rw e (changes h q (q.pend j) (λ f. no_token h f (λ a b p. false≢true (sym z ∙ a))) (λ a b. false≢true (sym c ∙ b))))
      (λ e. rw e h)

  pub notice_calls : (i T : ℕ) (x : Serving) → bad_number x.server i T ≡ false → CallsIn t u d r j x → CallsIn t u d r j (notice i T x)
  unfolding notice
  notice_calls i T x n h =
      let g : GoodNumber T (x.server.latest i) (x.server.fin i) (waits x.server i) = good_number x.server i T n in
      by_eq T (x.server.latest i) (λ q. rw q h)
      (λ q.
      let b : x.server.latest i < T = omega (arith, eqb_no T (x.server.latest i) q, g.next) in
      rw q
      (by_eq r i
      (λ e.
      let z : waits x.server r ≡ false = rw (eqb_yes r i e) g.idle in
      rw e (begun h T (rw (eqb_yes r i e) b) z))
      (λ e. rw e h)))

  -- THE PASS, and the ends of a transaction

  pub abort_calls : (i c : ℕ) (x : Serving) → CallsIn t u d r j x → CallsIn t u d r j (abort i c x)
  unfolding abort
  abort_calls i c x h = send_calls i (Aborted ((finish i (ByCause c) (leave i x)).server.latest i) c) (finish i (ByCause c) (leave i x)) refl tt (end_calls i (ByCause c) x h)

  installed_calls : (i : ℕ) (w : Work) (x : Serving) → CallsIn t u d r j x → CallsIn t u d r j (finish i ByCommit (archive i w (write w (leave i x))))
  unfolding archive write finish leave
  installed_calls i w x h = by_eq r i (λ e. rw e (over h no_waiter false refl)) (λ e. rw e h)

  pub install_calls : (i : ℕ) (w : Work) (x : Serving) → CallsIn t u d r j x → CallsIn t u d r j (install i w x)
  install_calls i w x h =
      installs (CallsIn t u d r j) i w
      (λ k y e g. send_calls k (Invalidate (λ a. has (w.writes a))) y refl tt g)
      x (send_calls i (Committed w.transaction _) (finish i ByCommit (archive i w (write w (leave i x)))) refl tt (installed_calls i w x h))

  pub commit_calls : (i : ℕ) (w : Work) (x : Serving) → CallsIn t u d r j x → CallsIn t u d r j (commit_now i w x)
  unfolding commit_now
  commit_calls i w x h = if_serving (CallsIn t u d r j) (eqb x.server.last last_number) (λ e. abort_calls i 4 x h) (λ e. install_calls i w x h)

  pub page_calls : (l : Lock) (i a : ℕ) (v : ℕ → Bool) (x : Serving) → CallsIn t u d r j x → CallsIn t u d r j (send_page l i a v x)
  unfolding send_page
  page_calls l i a v x h =
      let s : Server = x.server in
      send_calls i (Page l a (s.latest i) (values_on (page_of a) s.ver) v (values_on (page_of a) s.val)) (on_server x (set_listed s (upd2 s.listed i (page_of a) true))) refl tt h

  pub ask_calls : (k p : ℕ) (x : Serving) → CallsIn t u d r j x → CallsIn t u d r j (ask k p x)
  unfolding ask
  ask_calls k p x h = send_calls k (Deescalate p (x.server.whole_for p)) (on_server x (set_asked x.server (upd x.server.asked p true))) refl tt h

  pub read_calls : (i : ℕ) (x : Serving) → (x.server.queue i).called ≡ false → CallsIn t u d r j x → CallsIn t u d r j (serve_read i x)
  unfolding serve_read
  read_calls i x c h =
      let a : ℕ = (x.server.queue i).req in
      page_calls NoLock i a (unavailable x.server i a) (leave i x) (leave_calls i x (λ e a b p. false≢true (sym c ∙ (rw (← eqb_yes r i e) b))) h)

  -- each called station has answered
  granted_calls : (i : ℕ) (x : Serving) → j < 8 → all_answered x.server i ≡ true → CallsIn t u d r j x → CallsIn t u d r j (leave i x)
  granted_calls i x b c h =
      let z : (x.server.queue i).pend j ≡ false = any_no 8 (x.server.queue i).pend (not_yes _ c) j b in
      leave_calls i x (λ e f g p. false≢true (sym z ∙ (rw (← eqb_yes r i e) p))) h

  pub object_calls : (i : ℕ) (x : Serving) → j < 8 → all_answered x.server i ≡ true → CallsIn t u d r j x → CallsIn t u d r j (grant_object i x)
  unfolding grant_object
  object_calls i x b c h =
      let s : Server = x.server in
      let a : ℕ = (s.queue i).req in
      let y : Serving = leave i x in
      page_calls ObjectLock i a (unavailable s i a) (on_server y (set_ol y.server (λ c. cond ((s.queue i).writes c) (suc i) (s.ol c)))) (granted_calls i x b c h)

  pub whole_calls : (i : ℕ) (x : Serving) → j < 8 → all_answered x.server i ≡ true → CallsIn t u d r j x → CallsIn t u d r j (grant_page i x)
  unfolding grant_page
  whole_calls i x b c h =
      let s : Server = x.server in
      let a : ℕ = (s.queue i).req in
      let y : Serving = leave i x in
      page_calls WholeLock i a (unavailable s i a) (on_server y (set_wl (set_whole_for (set_asked y.server (upd s.asked (page_of a) false)) (upd s.whole_for (page_of a) (s.latest i))) (upd s.wl (page_of a) (suc i)))) (granted_calls i x b c h)

  -- P.call: of r itself ..
  own_calls : (x : Serving) → waits x.server r ≡ true → (x.server.queue r).called ≡ false → x.server.fin r ≡ false → CallsIn t u d r j x → CallsIn t u d r j (call r x)
  unfolding call
  own_calls x a c f h =
      let s : Server = x.server in
      let z = no_token h f (λ y b p. false≢true (sym c ∙ b)) in
      by_b (concerned s r j)
      (λ e. rw (eqb_same r, call_own s r j (d j) x.sent e, e) (called_near h (concerned s r) a z))
      (λ e. rw (eqb_same r, call_far s r j (d j) x.sent e, e) (called_far h (concerned s r) z))

  -- .. and of another
  others_calls : (i : ℕ) (x : Serving) → eqb r i ≡ false → CallsIn t u d r j x → CallsIn t u d r j (call i x)
  unfolding call
  others_calls i x n h =
      let s : Server = x.server in
      let far : eqb i r ≡ false = by_eq i r (λ e. absurd (eqb_no r i n (sym (eqb_yes i r e)))) (λ e. e) in
      by_b (concerned s i j)
      (λ e. rw (n, call_own s i j (d j) x.sent e) (push_down _ (rw far refl) (λ q. absurd (eqb_no i r far q)) h))
      (λ e. rw (n, call_far s i j (d j) x.sent e) h)

  pub call_calls : (i : ℕ) (x : Serving) → waits x.server i ≡ true → (x.server.queue i).called ≡ false → x.server.fin i ≡ false → CallsIn t u d r j x → CallsIn t u d r j (call i x)
  call_calls i x a c f h =
      by_eq r i
      (λ e. rw (← eqb_yes r i e) (own_calls x (rw (eqb_yes r i e) a) (rw (eqb_yes r i e) c) (rw (eqb_yes r i e) f) h))
      (λ e. others_calls i x e h)

  -- ANSWERS

  -- 6
  pub busy_calls : (i k : ℕ) (x : Serving) → CallsIn t u d r j x → CallsIn t u d r j (mark_busy i k x)
  unfolding mark_busy
  busy_calls i k x h = by_eq r k (λ e. rw (e, ← eqb_yes r k e) (alike h _ refl refl refl)) (λ e. rw e h)

  -- 7 of station i: if it is j's to r, there is no token left
  pub answered_calls : (i k : ℕ) (x : Serving) → (eqb r k ≡ true → eqb j i ≡ true → x.server.fin r ≡ false → call_tokens r (x.server.latest r) ((t j).kept r) (u j) (d j ++ sent_to j x.sent) ≡ 0) → CallsIn t u d r j x → CallsIn t u d r j (answered i k x)
  unfolding answered
  answered_calls i k x z h =
      by_eq r k
      (λ e.
      rw (e, ← eqb_yes r k e)
      (by_eq j i (λ f. rw f (answers h _ false (z e f) refl refl refl)) (λ f. rw f (alike h _ refl refl refl))))
      (λ e. rw e h)
