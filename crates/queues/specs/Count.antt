-- What is sent to one station, counted: one message more, 20s, 23s.
use Rattle.std.specs.Prelude.{◌≡◌, Bool, true, false, ◌&&◌, List, [], ◌∷◌, ◌++◌, eqb, length}
use Rattle.std.proofs.Math.Path.{refl, ap}
use Rattle.std.proofs.Common.{◌∙◌, length-append}
use Rattle.std.proofs.Math.Bool.{not}
use Prim.Native.Nat.{ℕ, zero, suc, ◌+◌, ◌≤◌, ◌<◌}
use native.Mathlib.Omega.{arith}
use Rattle.sets.specs.Base.{snoc}
use Rattle.sets.specs.Laws.{by_b, by_eq}
use Rattle.sets.proofs.Laws.{eqb_yes, and_l}
use Rattle.line.specs.Messages.{locking, Work, Down, Sent, To}
use Rattle.line.specs.Server.{Server, Serving, set_listed, concerned, calls_from, informed, inform, inform_from}
use Rattle.line.specs.Line.{sent_to}
use Rattle.line.specs.Laws.{sent_to_snoc}
use Rattle.line.specs.Fuel.{nb, nb_1}

abbrev pub sent_at : ℕ → Serving → ℕ
sent_at j x = length (sent_to j x.sent)

pub one_to : (j i : ℕ) (m : Down) (l : List Sent) → length (sent_to j (snoc l (To i m))) ≡ length (sent_to j l) + nb (eqb j i)
one_to j i m l = rw (sent_to_snoc j i m l) (by_eq j i (λ e. rw e (length-append (sent_to j l) (m ∷ []))) (λ e. rw e (omega arith)))

pub both_to : (j : ℕ) (l m : List Sent) → length (sent_to j (l ++ m)) ≡ length (sent_to j l) + length (sent_to j m)
both_to j [] m = omega arith
both_to j (To i d ∷ l) m = let rest = both_to j l m in by_eq j i (λ e. rw e (omega arith)) (λ e. rw e rest)

past : (j k : ℕ) → j < k → eqb j k ≡ false
past j k b = by_eq j k (λ e. absurd (omega (arith, eqb_yes j k e))) (λ e. e)

-- 20s: to each station at most one
module _ (j i : ℕ) (s : Server) where
  calls_past : (n k : ℕ) → j < k → length (sent_to j (calls_from n k s i)) ≡ 0
  calls_past zero k b = refl
  calls_past (suc n) k b =
      let rest = calls_past n (suc k) (omega arith) in
      by_b (concerned s i k) (λ e. rw (e, past j k b) rest) (λ e. rw e rest)

  pub calls_one : (n k : ℕ) → length (sent_to j (calls_from n k s i)) ≤ nb (concerned s i j)
  calls_one zero k = omega arith
  calls_one (suc n) k =
      let rest = calls_one n (suc k) in
      by_b (concerned s i k)
      (λ e. by_eq j k (λ f. here n k e f) (λ f. rw (e, f) rest))
      (λ e. rw e rest)
    where
      here : (n k : ℕ) → concerned s i k ≡ true → eqb j k ≡ true → length (sent_to j (calls_from (suc n) k s i)) ≤ nb (concerned s i j)
      here n k e f =
          let z : concerned s i j ≡ true = rw (eqb_yes j k f) e in
          let none = calls_past n (suc k) (omega (arith, eqb_yes j k f)) in
          rw (e, f) (omega (arith, ap nb z))

-- 23s change nothing but who is listed
pub informs_leave : {A : Type 0} (f : Server → A) → ((s : Server) (l : ℕ → ℕ → Bool) → f (set_listed s l) ≡ f s) → (n k i : ℕ) (w : Work) (x : Serving) → f (inform_from n k i w x).server ≡ f x.server
unfolding inform_from inform
informs_leave f h zero k i w x = refl
informs_leave f h (suc n) k i w x =
    informs_leave f h n (suc k) i w (inform i w k x) ∙ by_b (informed x.server i w k) (λ e. rw e (h x.server _)) (λ e. rw e refl)

-- .. and to each station at most one: to a validating one, and not to the one that has committed
module _ (j i : ℕ) (w : Work) where
  inform_past : (k : ℕ) (x : Serving) → eqb j k ≡ false → sent_at j (inform i w k x) ≡ sent_at j x
  unfolding inform
  inform_past k x b = by_b (informed x.server i w k) (λ e. rw (e, one_to j k, b) (omega arith)) (λ e. rw e refl)

  informs_past : (n k : ℕ) (x : Serving) → j < k → sent_at j (inform_from n k i w x) ≡ sent_at j x
  unfolding inform_from
  informs_past zero k x b = refl
  informs_past (suc n) k x b = informs_past n (suc k) (inform i w k x) (omega arith) ∙ inform_past k x (past j k b)

  inform_here : (x : Serving) → sent_at j (inform i w j x) ≤ sent_at j x + nb (not (eqb j i) && not (locking (x.server.kind j)))
  unfolding inform
  inform_here x =
      by_b (informed x.server i w j)
      (λ e. rw (e, one_to j j) (omega (arith, nb_1 (eqb j j), ap nb (and_l (not (eqb j i) && not (locking (x.server.kind j))) _ e))))
      (λ e. rw e (omega arith))

  inform_kind : (k : ℕ) (x : Serving) → (inform i w k x).server.kind j ≡ x.server.kind j
  unfolding inform_from
  inform_kind k x = informs_leave (λ s. s.kind j) (λ s l. refl) 1 k i w x

  pub informs_one : (n k : ℕ) (x : Serving) → sent_at j (inform_from n k i w x) ≤ sent_at j x + nb (not (eqb j i) && not (locking (x.server.kind j)))
  unfolding inform_from
  informs_one zero k x = omega arith
  informs_one (suc n) k x =
      let rest = informs_one n (suc k) (inform i w k x) in
      by_eq j k
      (λ f. rw (← eqb_yes j k f) (omega (arith, informs_past n (suc j) (inform i w j x) (omega arith), inform_here x)))
      (λ f. omega (arith, inform_past k x f, ap (λ t. nb (not (eqb j i) && not (locking t))) (inform_kind k x)))
