-- The pass over bytes means document 01's: one waiter's turn, the list in order, cycles, until nothing changes.
use Prim.Native.Nat.{ℕ}
use Rattle.std.specs.Prelude.{eqb}
use Rattle.std.proofs.Math.Bool.{cond}
use mathlib.Core.List.{List}
use Rattle.line.specs.Server.{abort, pass, victim, moved, settle}
use Rattle.line.specs.Server as Model
use Rattle.server_order.specs.Order.{victim_b}
use Rattle.server_actions.specs.Actions.{Serving, abort_b}
use Rattle.server_actions.specs.Pass.{pass_b, moved_b, settle_b}

-- a round of the pass over the list js
abbrev pub round_b : ℕ → List ℕ → Serving → Serving
round_b n js b =
    let c = pass_b js b in
    cond (moved_b b c) (settle_b n c) (cond (eqb (victim_b c.state) 8) c (settle_b n (abort_b (victim_b c.state) 1 c)))

abbrev pub round : ℕ → List ℕ → Model.Serving → Model.Serving
round n js x =
    let y = pass js x in
    cond (moved x y) (settle n y) (cond (eqb (victim y.server) 8) y (settle n (abort (victim y.server) 1 y)))
