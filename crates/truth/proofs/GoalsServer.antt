-- The goals' layer under the server's moves: its accept and the seven actions of the pass.
use Rattle.std.specs.Prelude.{◌≡◌, Bool, true, false, List, [], ◌∷◌, ◌++◌, ℕ, ◌+◌, ◌≤◌, ◌<◌, eqb}
use Rattle.std.proofs.Math.Path.{refl}
use Rattle.std.proofs.Common.{◌∙◌, arith}
use Rattle.std.proofs.lemmas.Bool.{false≢true}
use Rattle.sets.specs.Base.{snoc, some}
use Rattle.sets.specs.Laws.{by_eq}
use Rattle.sets.proofs.Laws.{eqb_yes}
use Rattle.line.specs.All.{All}
use Rattle.line.specs.Messages.{Work, Up, Commit, Down, Page, Deescalate, Callback, Committed, Aborted, Invalidate, Sent, To, Rec}
use Rattle.line.specs.Station.{Wait}
use Rattle.line.specs.Server.{ByCommit, Serving, Want, NoWant, WantRead, WantWrite, WantCommit, is_want, finish, leave, abort, write, archive, install}
use Rattle.line.specs.Line.{World, sent_to, carry_down}
use Rattle.line.specs.Truth.{count, of_transaction}
use Rattle.truth.specs.Clauses.{token_up, token_down, tokens, FitWaiter, is_committed, OwnedAt}
use Rattle.truth.proofs.Frame.{count_less, append_assoc, sent_to_append, send_own, send_far, installs}
use Rattle.truth.specs.Inv.{GoalsOf}
use Rattle.truth.proofs.GoalsLists.{eqb_swap}
use Rattle.truth.proofs.GoalsTold.{unrecorded}
use Rattle.truth.specs.GoalsSent.{is_answer, Quiet}
use Rattle.truth.proofs.GoalsSent.{sent_quiet, sent_abort, sent_other, archived_other, sent_commit, archived_more, archived_below}

-- said of every station: of i, and of the others
pub by_station : (P : ℕ → Type 0) (i : ℕ) → (i < 8 → P i) → ((j : ℕ) → j < 8 → eqb j i ≡ false → P j) → (j : ℕ) → j < 8 → P j
by_station P i own far j b = by_eq j i (λ e. let q = eqb_yes j i e in rw q (own (rw q at b))) (λ e. far j b e)

-- tokens: no 21 or 22 beside another
pub answer_token : (old : ℕ → Bool) (m : Down) → is_answer m ≡ true → token_down old m ≡ true
answer_token old (Page l a t v u x) e = absurd (false≢true e)
answer_token old (Deescalate p t) e = absurd (false≢true e)
answer_token old (Callback r t set) e = absurd (false≢true e)
answer_token old (Committed t n) e = refl
answer_token old (Aborted t c) e = refl
answer_token old (Invalidate d) e = absurd (false≢true e)

pub committed_answer : (m : Down) → is_committed m ≡ true → is_answer m ≡ true
committed_answer (Page l a t v u x) e = absurd (false≢true e)
committed_answer (Deescalate p t) e = absurd (false≢true e)
committed_answer (Callback r t set) e = absurd (false≢true e)
committed_answer (Committed t n) e = refl
committed_answer (Aborted t c) e = absurd (false≢true e)
committed_answer (Invalidate d) e = absurd (false≢true e)

pub no_answer : (old : ℕ → Bool) (D : List Down) → count (token_down old) D ≡ 0 → count is_answer D ≡ 0
no_answer old D z = let k = count_less is_answer (token_down old) (answer_token old) D in omega arith

pub none_committed : (D : List Down) → count is_answer D ≡ 0 → count is_committed D ≡ 0
none_committed D z = let k = count_less is_committed is_answer committed_answer D in omega arith

pub waiter_alone : (old : ℕ → Bool) (v : Want) (U : List Up) (D : List Down) → tokens old v U D ≤ 1 → is_want v ≡ true → count is_answer D ≡ 0
waiter_alone old v U D h e = no_answer old D (let z : count (token_up old) U + 1 + count (token_down old) D ≤ 1 = rw e at h in omega arith)

pub commit_alone : (old : ℕ → Bool) (v : Want) (k : Work) (U : List Up) (D : List Down) → tokens old v (Commit k ∷ U) D ≤ 1 → count is_answer D ≡ 0
commit_alone old v k U D h = no_answer old D (omega (arith, h))

-- a waiter's transaction is the open one
pub waiter_live : (kind num : ℕ) (opened : Bool) (w : Wait) (latest : ℕ) (v : Want) (a : ℕ) → FitWaiter kind num opened w latest v a → is_want v ≡ true → (latest ≡ num) × (opened ≡ true)
waiter_live kind num opened w latest NoWant a f e = absurd (false≢true e)
waiter_live kind num opened w latest WantRead a f e = (f.same refl, f.alive refl)
waiter_live kind num opened w latest WantWrite a f e = (f.same refl, f.alive refl)
waiter_live kind num opened w latest WantCommit a f e = (f.same refl, f.alive refl)

-- THE SERVER'S EVENTS, in a world w

module _ (w : World) where
  -- nothing but messages that answer nothing
  pub quiet_keeps : (x y : Serving) (k : List Sent) → y.sent ≡ x.sent ++ k → y.recs ≡ x.recs → y.server.last ≡ x.server.last → y.server.val ≡ x.server.val → All Quiet k
      → GoalsOf (carry_down x w) → GoalsOf (carry_down y w)
  unfolding carry_down
  quiet_keeps x y k s r l v q h =
      record {
        archived = rw (r, l, v) h.archived;
        owned =
            λ j b.
            rw (s, r, sent_to_append j x.sent k, append_assoc (w.down j) (sent_to j x.sent) (sent_to j k), append_assoc w.sent_down x.sent k)
            (sent_quiet (h.owned j b) k q);
      }

  -- 22 to station i, for its open transaction
  pub abort_keeps : (i c : ℕ) (x : Serving) → (w.station i).opened ≡ true → x.server.latest i ≡ (w.station i).num → count is_committed (w.down i ++ sent_to i x.sent) ≡ 0
      → GoalsOf (carry_down x w) → GoalsOf (carry_down (abort i c x) w)
  unfolding carry_down abort finish leave
  abort_keeps i c x o t z h =
      let m : Down = Aborted (x.server.latest i) c in
      record {
        archived = h.archived;
        owned =
            by_station (OwnedAt (carry_down (abort i c x) w)) i
            (λ b. rw (send_own i (w.down i) x.sent m, append_assoc w.sent_down x.sent (To i m ∷ [])) (sent_abort (h.owned i b) o z (x.server.latest i) c t))
            (λ j b e. rw (send_far i j (w.down j) x.sent m e, append_assoc w.sent_down x.sent (To i m ∷ [])) (sent_other (h.owned j b) (To i m) (eqb_swap i j ∙ e)));
      }

  -- station i's open transaction is installed
  pub install_keeps : (i : ℕ) (k : Work) (x : Serving) → i < 8 → (w.station i).opened ≡ true → k.transaction ≡ (w.station i).num → k.reads ≡ (w.station i).rd → k.writes ≡ (w.station i).wr
      → count is_answer (w.down i ++ sent_to i x.sent) ≡ 0 → ((a v : ℕ) → k.reads a ≡ some v → v ≡ x.server.val a)
      → GoalsOf (carry_down x w) → GoalsOf (carry_down (install i k x) w)
  unfolding carry_down finish archive write leave
  install_keeps i k x b8 o t f g z v h =
      let r : Rec = record { number = x.server.last + 1; transaction = k.transaction; station = i; kind = x.server.kind i; reads = k.reads; writes = k.writes } in
      let m : Down = Committed k.transaction (x.server.last + 1) in
      let c : count is_committed (w.down i ++ sent_to i x.sent) ≡ 0 = none_committed (w.down i ++ sent_to i x.sent) z in
      let y : Serving = finish i ByCommit (archive i k (write k (leave i x))) in
      let u : count (of_transaction i k.transaction) (w.archive ++ x.recs) ≡ 0 = rw t (unrecorded (h.owned i b8) o c) in
      installs (λ n. GoalsOf (carry_down n w)) i k
      (λ j n e p. quiet_keeps n _ (To j (Invalidate _) ∷ []) refl refl refl refl (refl, tt) p) x
      (record {
        archived = rw (append_assoc w.archive x.recs (r ∷ [])) (archived_more (w.archive ++ x.recs) x.server.last x.server.val r refl v u h.archived);
        owned =
            by_station (OwnedAt (carry_down (record { server = y.server; sent = snoc y.sent (To i m); recs = y.recs }) w)) i
            (λ b.
            rw (send_own i (w.down i) x.sent m, append_assoc w.sent_down x.sent (To i m ∷ []), append_assoc w.archive x.recs (r ∷ []))
            (sent_commit (h.owned i b) o z c r refl t f g (archived_below (w.archive ++ x.recs) x.server.last x.server.val h.archived)))
            (λ j b e.
            rw (send_far i j (w.down j) x.sent m e, append_assoc w.sent_down x.sent (To i m ∷ []), append_assoc w.archive x.recs (r ∷ []))
            (sent_other (archived_other (h.owned j b) r (eqb_swap i j ∙ e)) (To i m) (eqb_swap i j ∙ e)));
      })
