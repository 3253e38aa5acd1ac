-- The work of a step, from every state: how often the waiting list is passed, and how many turns its waiters get in all. A round that sends
-- something, or ends with a victim, lowers the cost of `Fuel`; so there is at most one round more than it.
use Rattle.std.specs.Prelude.{ℕ, zero, suc, ◌+◌, ◌*◌, ◌≤◌, ◌≡◌, refl, Bool, true, false, cond, eqb, length}
use Rattle.std.proofs.Common.{arith}
use Rattle.sets.specs.Laws.{by_b}
use Rattle.line.specs.Messages.{Up}
use Rattle.line.specs.Server.{Server, Serving, order, first_from, pass, victim, moved, abort, fuel, accept, start}
use Rattle.line.specs.Pass.{victim_waits}
use Rattle.line.specs.Fuel.{cost, cost_56, Falls, pass_falls, abort_less}

-- passes of the list, as `settle` makes them
unfoldable pub rounds : ℕ → Serving → ℕ
rounds zero x = 0
rounds (suc n) x =
    let y = pass (order 8 0 x.server) x in
    let v = victim y.server in
    1 + cond (moved x y) (rounds n y) (cond (eqb v 8) 0 (rounds n (abort v 1 y)))

-- turns of waiters: one for each that waits when a pass begins
unfoldable pub turns : ℕ → Serving → ℕ
turns zero x = 0
turns (suc n) x =
    let y = pass (order 8 0 x.server) x in
    let v = victim y.server in
    length (order 8 0 x.server) + cond (moved x y) (turns n y) (cond (eqb v 8) 0 (turns n (abort v 1 y)))

order_most : (n b : ℕ) (s : Server) → length (order n b s) ≤ n
order_most zero b s = omega arith
order_most (suc n) b s =
    let i : ℕ = first_from 8 b s in
    let rest : length (order n ((s.queue i).arrival + 1) s) ≤ n = order_most n ((s.queue i).arrival + 1) s in
    by_b (eqb i 8) (λ e. rw e (omega arith)) (λ e. rw e (omega arith))

-- whichever way it goes
chosen : (a b : Bool) (p q r : ℕ) {k : ℕ} → (a ≡ true → p ≤ k) → (b ≡ true → q ≤ k) → (b ≡ false → r ≤ k) → cond a p (cond b q r) ≤ k
chosen true b p q r f g h = f refl
chosen false true p q r f g h = g refl
chosen false false p q r f g h = h refl

rounds_cost : (n : ℕ) (x : Serving) → rounds n x ≤ cost x.server + 1
unfolding rounds
rounds_cost zero x = omega arith
rounds_cost (suc n) x =
    let y : Serving = pass (order 8 0 x.server) x in
    let f : Falls x y = pass_falls x in
    let never = f.never in
    let v : ℕ = victim y.server in
    let again = rounds_cost n y in
    let next = rounds_cost n (abort v 1 y) in
    let rest : cond (moved x y) (rounds n y) (cond (eqb v 8) 0 (rounds n (abort v 1 y))) ≤ cost x.server =
    chosen (moved x y) (eqb v 8) (rounds n y) 0 (rounds n (abort v 1 y)) (λ e. let l = f.less e in omega arith) (λ e. omega arith)
    (λ e. let u = victim_waits y.server e in let l = abort_less v 1 y u.0 u.1 in omega arith) in
    omega (arith, rest)

turns_rounds : (n : ℕ) (x : Serving) → turns n x ≤ 8 * rounds n x
unfolding rounds turns
turns_rounds zero x = omega arith
turns_rounds (suc n) x =
    let y : Serving = pass (order 8 0 x.server) x in
    let v : ℕ = victim y.server in
    let most = order_most 8 0 x.server in
    let again = turns_rounds n y in
    let next = turns_rounds n (abort v 1 y) in
    split (moved x y) (eqb v 8) (rounds n y) (rounds n (abort v 1 y)) (turns n y) (turns n (abort v 1 y)) (length (order 8 0 x.server)) most again next
  where
    split : (a b : Bool) (p r q s k : ℕ) → k ≤ 8 → q ≤ 8 * p → s ≤ 8 * r → k + cond a q (cond b 0 s) ≤ 8 * (1 + cond a p (cond b 0 r))
    split true b p r q s k l f g = omega arith
    split false true p r q s k l f g = omega arith
    split false false p r q s k l f g = omega arith

-- a step's, whatever the state and the message
abbrev pub step_rounds : ℕ → Up → Server → ℕ
step_rounds i m s = rounds fuel (accept i m (start s))

abbrev pub step_turns : ℕ → Up → Server → ℕ
step_turns i m s = turns fuel (accept i m (start s))

pub rounds_57 : (i : ℕ) (m : Up) (s : Server) → step_rounds i m s ≤ 57
rounds_57 i m s = let x : Serving = accept i m (start s) in omega (arith, rounds_cost fuel x, cost_56 x.server)

pub turns_456 : (i : ℕ) (m : Up) (s : Server) → step_turns i m s ≤ 456
turns_456 i m s = omega (arith, turns_rounds fuel (accept i m (start s)), rounds_57 i m s)
