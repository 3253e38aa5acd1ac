-- A round: a pass, and the victim of a cycle if the pass sent nothing. "until nothing changes" is rounds until one sends nothing; what they
-- cost falls with each (Fuel.antt of crate line), so that they end.
use Rattle.std.specs.Prelude.{ℕ, zero, suc, ◌+◌, ◌≤◌, ◌≡◌, refl, true, false, not, cond, List, [], ◌∷◌, length, eqb}
use Rattle.std.proofs.Common.{sym, ap, subst, ◌∙◌, arith, length-append, eq-eqb, ne_eqb}
use Rattle.std.proofs.lemmas.Bool.{false≢true}
use Rattle.sets.specs.Laws.{by_b, by_eq}
use Rattle.sets.proofs.Laws.{eqb_yes, eqb_no, not_no}
use Rattle.cells.specs.Upd.{cond_rel, branch_rel}
use Rattle.line.specs.Server.{start, pass, order, victim, moved, abort}
use Rattle.line.specs.Server as Model
use Rattle.line.specs.Pass.{order_8, victim_waits}
use Rattle.line.specs.Fuel.{cost, Falls, pass_falls, abort_less}
use Rattle.server_order.specs.Order.{victim_b}
use Rattle.server_actions.specs.Actions.{Serving, abort_b}
use Rattle.server_actions.specs.Pass.{order_b, pass_b, moved_b, settle_b}
use Rattle.server_actions.specs.Posting.{from, Acts, acts_not, acts_cond, acts_with, acts_then, acts_same}
use Rattle.server_actions.specs.Parts.{acts_abort, acts_pass}
use Rattle.server_meaning.specs.Meant.{meant}
use Rattle.server_meaning.proofs.Order.{victim_at}
use Rattle.step_meaning.specs.Relation.{Serves}
use Rattle.step_meaning.proofs.Pass.{order_at, pass_means, moved_at, victim_means}
use Rattle.server_pass.specs.Sane.{Sane, begun, after}

abbrev pub passed_b : Serving → Serving
passed_b x = pass_b (order_b x.state 8 0) x

-- "When the pass rests and edges form a cycle, the youngest in any cycle gets 22, cause 1"
unfoldable pub broken_b : Serving → Serving
broken_b y = cond (eqb (victim_b y.state) 8) y (abort_b (victim_b y.state) 1 y)

unfoldable pub round_b : Serving → Serving
round_b x = cond (moved_b x (passed_b x)) (passed_b x) (broken_b (passed_b x))

-- ROUNDS ARE ACTIONS

-- whether f sends anything is told by the state
moved_same : {f : Serving → Serving} → Acts f → (x : Serving) → moved_b x (f x) ≡ moved_b (from x.state) (f (from x.state))
moved_same {f} a x =
    let y = f (from x.state) in
    rw (a.grows x, length-append x.sent y.sent) (ap not (by_eq (length y.sent) 0 (some y) (none y)))
  where
    some : (y : Serving) → eqb (length y.sent) 0 ≡ true → eqb (length x.sent) (length x.sent + length y.sent) ≡ eqb 0 (length y.sent)
    some y e =
        let z = eqb_yes (length y.sent) 0 e in
        rw (eq-eqb (length x.sent) (length x.sent + length y.sent) (omega (arith, z)), eq-eqb 0 (length y.sent) (omega (arith, z)))

    none : (y : Serving) → eqb (length y.sent) 0 ≡ false → eqb (length x.sent) (length x.sent + length y.sent) ≡ eqb 0 (length y.sent)
    none y e =
        let z = eqb_no (length y.sent) 0 e in
        rw (ne_eqb (length x.sent) (length x.sent + length y.sent) (λ q. z (omega (arith, q))), ne_eqb 0 (length y.sent) (λ q. z (omega (arith, q))))

acts_moved : {f g h : Serving → Serving} → Acts f → Acts g → Acts h → Acts (λ x. cond (moved_b x (f x)) (g (f x)) (h (f x)))
acts_moved {f} {g} {h} a b c =
    record {
      grows =
          λ x. rw (moved_same a x)
          (by_b (moved_b (from x.state) (f (from x.state))) (λ e. rw e ((acts_then a b).grows x)) (λ e. rw e ((acts_then a c).grows x)));
    }

pub acts_passed : Acts passed_b
acts_passed = acts_with (λ s. pass_b (order_b s 8 0)) (λ s. acts_pass (order_b s 8 0))

pub acts_broken : Acts broken_b
unfolding broken_b
acts_broken =
    acts_with (λ s y. cond (eqb (victim_b s) 8) y (abort_b (victim_b s) 1 y)) (λ s. acts_cond (λ t. eqb (victim_b s) 8) acts_not (acts_abort (victim_b s) 1))

pub acts_round : Acts round_b
unfolding round_b
acts_round = acts_moved acts_passed acts_not acts_broken

-- SETTLING IS ROUNDS

abort_more : (i c : ℕ) (y : Serving) → length (abort_b i c y).sent ≡ length y.sent + 1
unfolding abort_b
abort_more i c y = length-append y.sent (_ ∷ [])

settles : (n : ℕ) (x y : Serving) (v : ℕ) → cond (moved_b x y) (settle_b n y) (cond (eqb v 8) y (settle_b n (abort_b v 1 y)))
    ≡ (let r = cond (moved_b x y) y (cond (eqb v 8) y (abort_b v 1 y)) in cond (moved_b x r) (settle_b n r) r)
settles n x y v = by_b (moved_b x y) (λ e. rw (e, e)) (λ e. rw e (by_eq v 8 (λ f. rw (f, e)) (λ f. rw f (broken e))))
  where
    broken : moved_b x y ≡ false → settle_b n (abort_b v 1 y) ≡ cond (moved_b x (abort_b v 1 y)) (settle_b n (abort_b v 1 y)) (abort_b v 1 y)
    broken e =
        let same : length x.sent ≡ length y.sent = eqb_yes (length x.sent) (length y.sent) (not_no (eqb (length x.sent) (length y.sent)) e) in
        rw (ne_eqb (length x.sent) (length (abort_b v 1 y).sent) (λ q. omega (arith, q, same, abort_more v 1 y)))

pub settle_round : (n : ℕ) (x : Serving) → settle_b (suc n) x ≡ cond (moved_b x (round_b x)) (settle_b n (round_b x)) (round_b x)
unfolding settle_b round_b broken_b
settle_round n x = settles n x (passed_b x) (victim_b (passed_b x).state)

pub acts_settle : (n : ℕ) → Acts (settle_b n)
unfolding settle_b
acts_settle zero = acts_not
acts_settle (suc n) = acts_same (settle_round n) (acts_moved acts_round (acts_settle n) acts_not)

-- WHAT A ROUND MEANS

abbrev round_of : Model.Serving → Model.Serving
round_of x =
    let y = pass (order 8 0 x.server) x in
    cond (moved x y) y (cond (eqb (victim y.server) 8) y (abort (victim y.server) 1 y))

broke : {c : Serving} {y : Model.Serving} (v u : ℕ) → v ≡ u → Serves c y → (eqb u 8 ≡ false → Serves (abort_b u 1 c) (abort u 1 y))
    → Serves (cond (eqb v 8) c (abort_b v 1 c)) (cond (eqb u 8) y (abort u 1 y))
broke v u e h g = rw e (branch_rel Serves (eqb u 8) (λ _. h) g)

module _ {b : Serving} {x : Model.Serving} (h : Serves b x) where
  passed : Serves (passed_b b) (pass (order 8 0 x.server) x)
  passed =
      subst (λ (js : List ℕ). Serves (pass_b js b) (pass (order 8 0 x.server) x)) (sym (order_at h.state h.wanting))
      (pass_means (order 8 0 x.server) (order_8 8 0 x.server) h)

  broken : Serves (broken_b (passed_b b)) (let y = pass (order 8 0 x.server) x in cond (eqb (victim y.server) 8) y (abort (victim y.server) 1 y))
  unfolding broken_b
  broken =
      broke (victim_b (passed_b b).state) (victim (pass (order 8 0 x.server) x).server) (victim_at passed.state passed.wanting) passed (victim_means passed)

  round_means : Serves (round_b b) (round_of x)
  unfolding round_b
  round_means = cond_rel Serves (moved_b b (passed_b b)) (moved x (pass (order 8 0 x.server) x)) (moved_at h passed) passed broken

-- a round that sends costs less: y is what the pass left, v the victim or 8
less_as : (x y : Model.Serving) (v : ℕ) → Falls x y → (eqb v 8 ≡ false → cost (abort v 1 y).server + 2 ≤ cost y.server)
    → (r : Model.Serving) → r ≡ cond (moved x y) y (cond (eqb v 8) y (abort v 1 y)) → moved x r ≡ true → cost r.server + 1 ≤ cost x.server
less_as x y v f g r e m =
    by_b (moved x y) (λ p. let z : r ≡ y = rw p at e in rw z (f.less p))
    (λ p.
    by_b (eqb v 8) (λ q. let z : r ≡ y = rw (p, q) at e in absurd (false≢true (sym p ∙ (rw z at m))))
    (λ q. let z : r ≡ abort v 1 y = rw (p, q) at e in rw z (omega (arith, f.never, g q))))

round_less : (x : Model.Serving) → moved x (round_of x) ≡ true → cost (round_of x).server + 1 ≤ cost x.server
round_less x m =
    let y = pass (order 8 0 x.server) x in
    less_as x y (victim y.server) (pass_falls x) (λ e. let u = victim_waits y.server e in abort_less (victim y.server) 1 y u.0 u.1) (round_of x) refl m

module _ {s : List ℕ} (h : Sane s) where
  pub sane_passed : Sane (passed_b (from s)).state
  sane_passed = after (passed (begun h))

  pub sane_round : Sane (round_b (from s)).state
  sane_round = after (round_means (begun h))

  pub round_falls : moved_b (from s) (round_b (from s)) ≡ true → cost (meant (round_b (from s)).state) + 1 ≤ cost (meant s)
  round_falls e =
      let k = round_means (begun h) in
      as_less (ap cost k.state.is) (ap cost h.state.is) (round_less (start h.server) (sym (moved_at (begun h) k) ∙ e))
    where
      as_less : {a b c d : ℕ} → a ≡ c → b ≡ d → c + 1 ≤ d → a + 1 ≤ b
      as_less e f l = omega arith
