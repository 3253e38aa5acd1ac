-- Versions and validating stations while the server's step is under way: what each part of its actions does.
use Rattle.std.specs.Prelude.{◌≡◌, Bool, true, false, cond, List, [], ◌∷◌, ◌++◌, ℕ, ◌+◌, ◌≤◌, ◌<◌, eqb, ltb, length}
use Rattle.std.proofs.Math.Path.{refl, sym}
use Rattle.std.proofs.Common.{ap, ◌∙◌, arith}
use Rattle.std.proofs.lemmas.Bool.{false≢true}
use Rattle.sets.specs.Base.{upd, upd2, snoc, Val, none, some, has, val_or, nowhere, zeros}
use Rattle.sets.specs.Laws.{by_b, by_eq}
use Rattle.sets.proofs.Laws.{eqb_same, eqb_yes, ltb_yes, ltb_no}
use Rattle.line.specs.Messages.{page_of, locking, Work, Up, Lock, NoLock, Down, Page, Deescalate, Committed, Invalidate, Sent, To, Rec}
use Rattle.line.specs.Station.{Station}
use Rattle.line.specs.Server.{End, ByCommit, ByCause, Server, Serving, on_server, send, set_queue, set_listed, set_asked, Waiter, no_waiter, waiter_pend, waiter_busy, waiter_called, values_on, informed, write, archive, install, notice, finish, join, leave, send_page, abort, unlist, mark_busy, answered, loosen, ask, concerned, call}
use Rattle.line.specs.Line.{sent_to}
use Rattle.line.specs.Laws.{sent_to_snoc}
use Rattle.line.specs.Truth.{left}
use Rattle.truth.specs.Clauses.{Hist, Versions, TruePage, TrueReads, WorkWaiting, Validated}
use Rattle.truth.proofs.Frame.{append_assoc, if_serving, installs, call_own, call_far}
use Rattle.truth.proofs.ValidatedHist.{hist_longer, hist_all, hist_more}
use Rattle.truth.proofs.ValidatedEvents.{grown, requeued, sent_down}
use Rattle.truth.specs.ValidatedServer.{Within}

-- V0 after an install: the objects written take the new number, the others' values stay
pub more_versions : (A : List Rec) (last : ℕ) (ver : ℕ → ℕ) (r : Rec) (k : Work) → r.writes ≡ k.writes → length A ≡ last → Versions A last ver
    → Versions (snoc A r) (last + 1) (λ a. cond (has (k.writes a)) (last + 1) (ver a))
more_versions A last ver r k o len h =
    record {
      V0_last = λ a. by_b (has (k.writes a)) (λ e. rw e (omega arith)) (λ e. rw e (omega (arith, h.V0_last a)));
      V0 = λ n a x y.
          by_b (has (k.writes a))
          (λ e. let x' : last + 1 ≤ n = rw e at x in let z : n ≡ last + 1 = omega arith in rw e (ap (λ m. Hist (snoc A r) m a) z))
          (λ e. rw e (unwritten n a e (rw e at x) y));
    }
  where
    longer : (n a : ℕ) → n ≤ last → Hist (snoc A r) n a ≡ Hist A n a
    longer n a x = hist_longer A (r ∷ []) n a (omega arith)

    unwritten : (n a : ℕ) → has (k.writes a) ≡ false → ver a ≤ n → n ≤ last + 1 → Hist (snoc A r) n a ≡ Hist (snoc A r) (ver a) a
    unwritten n a e x y =
        let v : Hist A (ver a) a ≡ Hist (snoc A r) (ver a) a = sym (longer (ver a) a (h.V0_last a)) in
        by_b (ltb last n)
        (λ t.
        let m : n ≡ last + 1 = omega (arith, ltb_yes last n t) in
        let z : has (r.writes a) ≡ false = ap (λ f. has (f a)) o ∙ e in
        ap (λ m. Hist (snoc A r) m a) m ∙ hist_more A r last a len ∙ nothing (r.writes a) (left A zeros a) z ∙ sym (hist_all A last a len)
        ∙ h.V0 last a (h.V0_last a) (omega arith) ∙ v)
        (λ t. let m : n ≤ last = ltb_no last n t in longer n a m ∙ h.V0 n a x m ∙ v)
      where
        nothing : (w : Val) (d : ℕ) → has w ≡ false → val_or w d ≡ d
        nothing none d e = refl
        nothing (some x) d e = absurd (false≢true (sym e))

-- one message more is sent
line_to : (P : List Down → Type 0) (i j : ℕ) (m : Down) (d : List Down) (l : List Sent) → (eqb j i ≡ true → P (snoc (d ++ sent_to j l) m)) → (eqb j i ≡ false → P (d ++ sent_to j l)) → P (d ++ sent_to j (snoc l (To i m)))
line_to P i j m d l y n =
    by_eq j i (λ e. rw (sent_to_snoc j i m l, e, append_assoc d (sent_to j l) (m ∷ [])) (y e)) (λ e. rw (sent_to_snoc j i m l, e) (n e))

module _ (A : List Rec) (t : ℕ → Station) (u : ℕ → List Up) (d : ℕ → List Down) where
  abbrev In : Serving → Type 0
  In x = Within A t u d x

  pub sends : (x : Serving) (i : ℕ) (m : Down) → (i < 8 → locking (t i).kind ≡ false → TruePage (A ++ x.recs) x.server.last m) → In x → In (send x i m)
  sends x i m k h =
      record {
        versions = h.versions;
        validated = λ j b f.
            line_to (λ D. Validated (A ++ x.recs) x.server.last (t j).cached (t j).cver (t j).copy (t j).rd (t j).wr (t j).seen (x.server.queue j) (u j) D)
            i j m (d j) x.sent
            (λ e. sent_down (h.validated j b f) m (k (rw (eqb_yes j i e) at b) (rw (eqb_yes j i e) at f)))
            (λ e. h.validated j b f);
      }

  -- an entry of the waiting list is replaced
  abbrev Entry : Serving → Waiter → Type 0
  Entry x q = WorkWaiting (TrueReads (A ++ x.recs) x.server.last) q.want q.work

  pub requeues : (x : Serving) (i : ℕ) (q : Waiter) → (i < 8 → locking (t i).kind ≡ false → Entry x q) → In x → In (on_server x (set_queue x.server (upd x.server.queue i q)))
  requeues x i q k h =
      record {
        versions = h.versions;
        validated = λ j b f.
            by_eq j i
            (λ e.
            rw e (requeued (h.validated j b f) q (k (rw (eqb_yes j i e) at b) (rw (eqb_yes j i e) at f))))
            (λ e. rw e (h.validated j b f));
      }

  -- the same work waits
  same_entry : (x : Serving) (i : ℕ) (q : Waiter) → q.want ≡ (x.server.queue i).want → q.work ≡ (x.server.queue i).work → In x → i < 8 → locking (t i).kind ≡ false → Entry x q
  same_entry x i q e o h b f = rw (e, o) (h.validated i b f).V3_waiter

  pub notices : (i n : ℕ) (x : Serving) → In x → In (notice i n x)
  unfolding notice
  notices i n x h = if_serving In (eqb n (x.server.latest i)) (λ e. h) (λ e. record { versions = h.versions; validated = h.validated })

  pub finishes : (i : ℕ) (e : End) (x : Serving) → In x → In (finish i e x)
  unfolding finish
  finishes i e x h = record { versions = h.versions; validated = h.validated }

  pub leaves : (i : ℕ) (x : Serving) → In x → In (leave i x)
  unfolding leave
  leaves i x h = requeues x i no_waiter (λ b f. tt) h

  pub joins : (i : ℕ) (q : Waiter) (x : Serving) → (i < 8 → locking (t i).kind ≡ false → Entry x q) → In x → In (join i q x)
  unfolding join
  joins i q x k h = let g = requeues x i q k h in record { versions = g.versions; validated = g.validated }

  pub unlists : (i : ℕ) (p : ℕ → Bool) (x : Serving) → In x → In (unlist i p x)
  unfolding unlist
  unlists i p x h = record { versions = h.versions; validated = h.validated }

  pub marks : (i r : ℕ) (x : Serving) → In x → In (mark_busy i r x)
  unfolding mark_busy
  marks i r x h =
      let q : Waiter = waiter_busy (x.server.queue r) (upd (x.server.queue r).busy i true) in
      requeues x r q (same_entry x r q refl refl h) h

  pub answers : (i r : ℕ) (x : Serving) → In x → In (answered i r x)
  unfolding answered
  answers i r x h =
      let q : Waiter = waiter_pend (waiter_busy (x.server.queue r) (upd (x.server.queue r).busy i false)) (upd (x.server.queue r).pend i false) in
      requeues x r q (same_entry x r q refl refl h) h

  pub loosens : (i p : ℕ) (set : ℕ → Bool) (x : Serving) → In x → In (loosen i p set x)
  unfolding loosen
  loosens i p set x h = record { versions = h.versions; validated = h.validated }

  pub aborts : (i c : ℕ) (x : Serving) → In x → In (abort i c x)
  unfolding abort
  aborts i c x h = sends (finish i (ByCause c) (leave i x)) i _ (λ b f. tt) (finishes i (ByCause c) (leave i x) (leaves i x h))

  pub asks : (h p : ℕ) (x : Serving) → In x → In (ask h p x)
  unfolding ask
  asks h p x k = sends (on_server x (set_asked x.server (upd x.server.asked p true))) h (Deescalate p (x.server.whole_for p)) (λ b f. tt) (record { versions = k.versions; validated = k.validated })

  -- a page goes to a locking station
  pub sends_page : (l : Lock) (i a : ℕ) (v : ℕ → Bool) (x : Serving) → (i < 8 → locking (t i).kind ≡ false → ⊥) → In x → In (send_page l i a v x)
  unfolding send_page
  sends_page l i a v x k h =
      sends (on_server x (set_listed x.server (upd2 x.server.listed i (page_of a) true))) i (Page l a (x.server.latest i) (values_on (page_of a) x.server.ver) v (values_on (page_of a) x.server.val))
      (λ b f. absurd (k b f))
      (record { versions = h.versions; validated = h.validated })

  -- or to a validating one: its values are those of its version
  pub serves_now : (i a : ℕ) (x : Serving) → length (A ++ x.recs) ≡ x.server.last → ((b : ℕ) → left (A ++ x.recs) zeros b ≡ x.server.val b) → In x → In (send_page NoLock i a nowhere x)
  unfolding send_page
  serves_now i a x len pages h =
      sends (on_server x (set_listed x.server (upd2 x.server.listed i (page_of a) true))) i (Page NoLock a (x.server.latest i) (values_on (page_of a) x.server.ver) nowhere (values_on (page_of a) x.server.val))
      (λ b f c e. true_value c e)
      (record { versions = h.versions; validated = h.validated })
    where
      true_value : (b : ℕ) → page_of b ≡ page_of a
          → (values_on (page_of a) x.server.ver b ≤ x.server.last) × (values_on (page_of a) x.server.val b ≡ Hist (A ++ x.recs) (values_on (page_of a) x.server.ver b) b)
      true_value b e =
          let z : x.server.val b ≡ Hist (A ++ x.recs) (x.server.ver b) b =
          sym (pages b) ∙ sym (hist_all (A ++ x.recs) x.server.last b len) ∙ h.versions.V0 x.server.last b (h.versions.V0_last b) (omega arith) in
          rw (← e, eqb_same (page_of b)) (h.versions.V0_last b, z)

  pub calls : (i : ℕ) (x : Serving) → In x → In (call i x)
  unfolding call
  calls i x h =
      let s : Server = x.server in
      let q : Waiter = waiter_pend (waiter_called (s.queue i) true) (concerned s i) in
      let g : In (on_server x (set_queue s (upd s.queue i q))) = requeues x i q (same_entry x i q refl refl h) h in
      record {
        versions = g.versions;
        validated = λ j b f.
            by_b (concerned s i j)
            (λ c. rw (call_own s i j (d j) x.sent c) (sent_down (g.validated j b f) _ tt))
            (λ c. rw (call_far s i j (d j) x.sent c) (g.validated j b f));
      }

  -- INSTALL
  module _ (i : ℕ) (k : Work) (x : Serving) (len : length (A ++ x.recs) ≡ x.server.last) (h : In x) where
    written : In (finish i ByCommit (archive i k (write k (leave i x))))
    unfolding finish archive write leave
    written =
        let g = leaves i x h in
        let r : Rec = record { number = x.server.last + 1; transaction = k.transaction; station = i; kind = x.server.kind i; reads = k.reads; writes = k.writes } in
        record {
          versions = rw (append_assoc A x.recs (r ∷ [])) (more_versions (A ++ x.recs) x.server.last x.server.ver r k refl len h.versions);
          validated = λ j b f. rw (append_assoc A x.recs (r ∷ [])) (grown (g.validated j b f) (r ∷ []) (x.server.last + 1) len (omega arith));
        }

    told : In (send (finish i ByCommit (archive i k (write k (leave i x)))) i (Committed k.transaction (finish i ByCommit (archive i k (write k (leave i x)))).server.last))
    told = sends (finish i ByCommit (archive i k (write k (leave i x)))) i _ (λ b f. tt) written

    informs : (j : ℕ) (y : Serving) → informed y.server i k j ≡ true → In y → In (send y j (Invalidate (λ a. has (k.writes a))))
    informs j y e g = sends y j (Invalidate (λ a. has (k.writes a))) (λ b f. tt) g

    pub install_within : In (install i k x)
    install_within = installs In i k informs x told
