-- The goals' layer under the server's accept and the seven actions of the pass.
use Rattle.std.specs.Prelude.{◌≡◌, Bool, not, ◌&&◌, ℕ, zero, suc, ◌≤◌, ◌<◌, eqb, ltb}
use Rattle.std.proofs.Math.Path.{refl, ap}
use Rattle.std.proofs.Common.{sym, ◌∙◌, arith}
use Rattle.std.proofs.Math.Bool.{true, false}
use Rattle.std.proofs.lemmas.Bool.{false≢true}
use mathlib.Core.List.{List, [], ◌∷◌, ◌++◌}
use Rattle.std.proofs.Math.ListN.{take}
use Rattle.sets.specs.Base.{Val, none, some, has, zeros, turned}
use Rattle.sets.specs.Laws.{by_b}
use Rattle.sets.proofs.Laws.{eqb_yes, ltb_yes, ltb_no, and_l, not_yes, not_no, any_no, or_no}
use Rattle.line.specs.All.{All}
use Rattle.line.specs.Messages.{last_number, locking, Work, Up, Commit, Down, Page, Deescalate, To, Rec}
use Rattle.line.specs.Server.{Server, Serving, WantCommit, waits, stale, locked, fault, notice, finish, join, leave, send_page, abort, install, serve_now, join_read, join_write, join_commit, commit_now, unlist, mark_busy, answered, loosen, accept, ask, serve_read, concerned, calls_from, call, grant_page, grant_object, install_waiter, start, unexpected, stale_at}
use Rattle.line.specs.Line.{World, sent_to, carry_down}
use Rattle.line.specs.Truth.{count, left}
use Rattle.truth.specs.Clauses.{Hist}
use Rattle.truth.specs.Frame.{Accepts}
use Rattle.truth.proofs.Frame.{append_nil, accepts, if_serving, noticed_own, noticed_last, noticed_val, noticed_sent, noticed_recs}
use Rattle.truth.specs.Inv.{GoalsOf, Inv, Acts, taken}
use Rattle.truth.proofs.GoalsLists.{take_all}
use Rattle.truth.specs.GoalsSent.{is_answer, Quiet}
use Rattle.truth.proofs.GoalsServer.{waiter_alone, commit_alone, none_committed, waiter_live, quiet_keeps, abort_keeps, install_keeps}

-- THE PASS

calls_quiet : (n j : ℕ) (s : Server) (i : ℕ) → All Quiet (calls_from n j s i)
calls_quiet zero j s i = tt
calls_quiet (suc n) j s i = let rest = calls_quiet n (suc j) s i in by_b (concerned s i j) (λ e. rw e (refl, rest)) (λ e. rw e rest)

-- no used object has another version
unstale : (a b c : Bool) → turned a 4 (turned b 2 (turned c 3 0)) ≡ 0 → b ≡ false
unstale true b c e = absurd (omega (arith, e))
unstale false true c e = absurd (omega (arith, e))
unstale false false c e = refl

same_version : (s : Server) (k : Work) (a v : ℕ) → stale s k ≡ false → a < 256 → k.reads a ≡ some v → k.read_versions a ≡ s.ver a
same_version s k a v e b q =
    let f = (or_no (has (k.reads a) && not (eqb (k.read_versions a) (s.ver a))) _ (any_no 256 (stale_at s k) e a b)).0 in
    eqb_yes (k.read_versions a) (s.ver a) (not_no (eqb (k.read_versions a) (s.ver a)) (rw q at f))

-- what is read is in range
in_range : (rd wr : ℕ → Val) (a v : ℕ) → ((b : ℕ) → 256 ≤ b → (rd b ≡ none) × (wr b ≡ none)) → rd a ≡ some v → a < 256
in_range rd wr a v h q =
    by_b (ltb a 256) (λ e. ltb_yes a 256 e)
    (λ e. absurd (false≢true (ap has (sym (h a (ltb_no a 256 e)).0 ∙ q))))

module _ (w : World) where
  -- P.inst: the reads were true at versions that are still the server's
  valid_reads : (i : ℕ) (x : Serving) → i < 8 → (x.server.queue i).want ≡ WantCommit → fault x.server i ≡ 0 → Inv (carry_down x w)
      → (a v : ℕ) → (x.server.queue i).work.reads a ≡ some v → v ≡ x.server.val a
  unfolding carry_down
  valid_reads i x b e f h a v q =
      let s = x.server in
      let k = (s.queue i).work in
      let g = h.tokens i in
      let kind : locking (w.station i).kind ≡ false =
      not_yes (locking (w.station i).kind) (and_l (not (locking (w.station i).kind)) _ ((rw e at g.S1b_waiter).waits refl)) in
      let own : k.reads ≡ (w.station i).rd = (rw e at g.S3_waiter).1 in
      let below : a < 256 = in_range (w.station i).rd (w.station i).wr a v g.range_used (ap (λ d. d a) (sym own) ∙ q) in
      let true-then = (rw e at (h.validated.validated i b kind).V3_waiter) a v q in
      let now = same_version s k a v (unstale (eqb s.last last_number) (stale s k) (locked s i) f) below q in
      let arch : List Rec = w.archive ++ x.recs in
      let z = h.validated.versions in
      let kept : Hist arch s.last a ≡ Hist arch (s.ver a) a = z.V0 s.last a (z.V0_last a) (omega arith) in
      let whole : Hist arch s.last a ≡ left arch zeros a = ap (λ l. left l zeros a) (ap (λ n. take n arch) (sym h.goals.archived.all) ∙ take_all arch) in
      let then : v ≡ Hist arch (s.ver a) a = rw (← now) true-then.1 in
      then ∙ (sym kept ∙ (whole ∙ h.goals.archived.T1_pages a))

  aborts_keep : (i c : ℕ) (x : Serving) → i < 8 → waits x.server i ≡ true → Inv (carry_down x w) → GoalsOf (carry_down (abort i c x) w)
  unfolding carry_down
  aborts_keep i c x b e h =
      let g = h.tokens i in
      let D : List Down = w.down i ++ sent_to i x.sent in
      let l = waiter_live _ _ _ _ _ (x.server.queue i).want _ g.S1b_waiter e in
      abort_keeps w i c x l.1 l.0 (none_committed D (waiter_alone _ (x.server.queue i).want (w.up i) D g.S1a e)) h.goals

  installs_keep : (i : ℕ) (x : Serving) → i < 8 → (x.server.queue i).want ≡ WantCommit → fault x.server i ≡ 0 → Inv (carry_down x w) → GoalsOf (carry_down (install i (x.server.queue i).work x) w)
  unfolding carry_down
  installs_keep i x b e f h =
      let g = h.tokens i in
      let D : List Down = w.down i ++ sent_to i x.sent in
      let l = waiter_live _ _ _ _ _ (x.server.queue i).want _ g.S1b_waiter (rw e refl) in
      let s = rw e at g.S3_waiter in
      install_keeps w i (x.server.queue i).work x b l.1 (s.0 ∙ l.0) s.1 s.2
      (waiter_alone _ (x.server.queue i).want (w.up i) D g.S1a (rw e refl)) (valid_reads i x b e f h) h.goals

  pub goals_acts : Acts (λ x. Inv (carry_down x w)) (λ x. GoalsOf (carry_down x w))
  unfolding ask serve_read send_page leave call grant_object grant_page install_waiter
  goals_acts =
      record {
        aborts = λ i c x b e h. aborts_keep i c x b e h;
        asks = λ i g p x b e f h. quiet_keeps w x _ (To g (Deescalate p (x.server.whole_for p)) ∷ []) refl refl refl refl (refl, tt) h.goals;
        reads = λ i x b e f h. quiet_keeps w x _ (To i (Page _ _ _ _ _ _) ∷ []) refl refl refl refl (refl, tt) h.goals;
        calls = λ i x b e f g k h. quiet_keeps w x _ (calls_from 8 0 x.server i) refl refl refl refl (calls_quiet 8 0 x.server i) h.goals;
        objects = λ i x b e f h. quiet_keeps w x _ (To i (Page _ _ _ _ _ _) ∷ []) refl refl refl refl (refl, tt) h.goals;
        pages = λ i x b e f g h. quiet_keeps w x _ (To i (Page _ _ _ _ _ _) ∷ []) refl refl refl refl (refl, tt) h.goals;
        installs = λ i x b e f g h. installs_keep i x b e f h;
      }

-- ACCEPT

-- the step begins
started : (i : ℕ) (l : List Up) (w : World) → GoalsOf w → GoalsOf (carry_down (start w.server) (taken i l w))
unfolding carry_down
started i l w h =
    record {
      archived = rw (append_nil w.archive) h.archived;
      owned = λ j b. rw (append_nil (w.down j), append_nil w.archive, append_nil w.sent_down) (h.owned j b);
    }

module _ (i : ℕ) (l : List Up) (w : World) (b : i < 8) (h : Inv w) where
  -- a step that sends nothing, or messages that answer nothing
  nothing : (y : Serving) → y.sent ≡ [] → y.recs ≡ [] → y.server.last ≡ w.server.last → y.server.val ≡ w.server.val → GoalsOf (carry_down y (taken i l w))
  nothing y s r n v = quiet_keeps (taken i l w) (start w.server) y [] s r n v tt (started i l w h.goals)

  noticed_goals : (t : ℕ) → GoalsOf (carry_down (notice i t (start w.server)) (taken i l w))
  noticed_goals t = let x = start w.server in nothing (notice i t x) (noticed_sent i t x) (noticed_recs i t x) (noticed_last i t x) (noticed_val i t x)

  -- U3l
  commits_now : (k : Work) → locking (w.server.kind i) ≡ true → w.up i ≡ Commit k ∷ l → GoalsOf (carry_down (commit_now i k (notice i k.transaction (start w.server))) (taken i l w))
  unfolding commit_now
  commits_now k q e =
      let x = start w.server in
      let t = k.transaction in
      let y : Serving = notice i t x in
      let g = h.tokens i in
      let fit = (rw e at g.S1b_up).0 in
      let same = (rw e at g.S3_up).0 in
      let line : w.down i ++ sent_to i y.sent ≡ w.down i = rw (noticed_sent i t x) (append_nil (w.down i)) in
      let alone : count is_answer (w.down i) ≡ 0 = commit_alone _ (w.server.queue i).want k l (w.down i) (rw e at g.S1a) in
      let alone' : count is_answer (w.down i ++ sent_to i y.sent) ≡ 0 = rw line alone in
      let kind : locking (w.station i).kind ≡ true = rw (← g.kinds) q in
      let reads : (a v : ℕ) → k.reads a ≡ some v → v ≡ y.server.val a =
      λ a v r.
      let own : (w.station i).rd a ≡ some v = ap (λ d. d a) (sym same.0) ∙ r in
      let below : a < 256 = in_range (w.station i).rd (w.station i).wr a v g.range_used own in
      rw (noticed_val i t x) ((h.values.values i a b below kind).E (none_committed (w.down i) alone) v own) in
      if_serving (λ z. GoalsOf (carry_down z (taken i l w))) (eqb y.server.last last_number)
      (λ f. abort_keeps (taken i l w) i 4 y (fit.alive refl) (noticed_own i t x ∙ fit.same refl) (none_committed (w.down i ++ sent_to i y.sent) alone') (noticed_goals t))
      (λ f. install_keeps (taken i l w) i k y b (fit.alive refl) (fit.same refl) same.0 same.1 alone' reads (noticed_goals t))

  goals_accept : Accepts i (start w.server) (λ m y. w.up i ≡ m ∷ l → GoalsOf (carry_down y (taken i l w)))
  unfolding join_read join_write join_commit join serve_now send_page finish unlist mark_busy answered loosen
  goals_accept =
      record {
        read_waits = λ a t u q e. let x = start w.server in nothing _ (noticed_sent i t x) (noticed_recs i t x) (noticed_last i t x) (noticed_val i t x);
        read_now =
            λ a t u q e.
            let x = start w.server in
            quiet_keeps (taken i l w) (notice i t x) _ (To i (Page _ _ _ _ _ _) ∷ []) refl refl refl refl (refl, tt) (noticed_goals t);
        write_waits = λ p t set u q e. let x = start w.server in nothing _ (noticed_sent i t x) (noticed_recs i t x) (noticed_last i t x) (noticed_val i t x);
        commit_now_lem = λ k u f q e. commits_now k q e;
        commit_waits = λ k u q e. let x = start w.server in let t = k.transaction in nothing _ (noticed_sent i t x) (noticed_recs i t x) (noticed_last i t x) (noticed_val i t x);
        aborts = λ t u q e. let x = start w.server in nothing _ (noticed_sent i t x) (noticed_recs i t x) (noticed_last i t x) (noticed_val i t x);
        purges = λ p u e. nothing _ refl refl refl refl;
        busy = λ r t u e. nothing _ refl refl refl refl;
        busy_late = λ r t u e. nothing _ refl refl refl refl;
        dones = λ r t d u e. nothing _ refl refl refl refl;
        done_late = λ r t d u e. nothing _ refl refl refl refl;
        loosens = λ p t set u c e. nothing _ refl refl refl refl;
        loosens_new = λ p t set u k r e. let x = start w.server in nothing _ (noticed_sent i t x) (noticed_recs i t x) (noticed_last i t x) (noticed_val i t x);
        loosens_late = λ p t set u e. nothing _ refl refl refl refl;
      }

pub goals_accepted : (i : ℕ) (m : Up) (l : List Up) (w : World) → i < 8 → w.up i ≡ m ∷ l → unexpected i m w.server ≡ false → Inv w
    → GoalsOf (carry_down (accept i m (start w.server)) (taken i l w))
goals_accepted i m l w b e u h =
    accepts i (start w.server) (λ k y. w.up i ≡ k ∷ l → GoalsOf (carry_down y (taken i l w))) (goals_accept i l w b h) m u e
