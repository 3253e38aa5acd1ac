-- `server_order::victim` meets its contract.
use mathlib.Core.Path.{◌≡◌, ◌∙◌}
use native.Mathlib.Omega.{arith}
use Rattle.server_order.specs.Order.{victim_b}
use Rattle.server_order.specs.Cycles.{closure_b, no_victim}
use borrow.Author.Rules.{rules}
use Rattle.server_order.proofs.victim.Goals as goal

pub returns-then-w-eq0-clause-station : goal.returns-then-w-eq0-clause-station
unfolding closure_b
returns-then-w-eq0-clause-station c = no_victim c.args.s.now {w = c.closed-w.result} (cc) c.if-w-eq0.true

pub youngest-v-requires : goal.youngest-v-requires
unfolding closure_b
youngest-v-requires c = (search rules, cc)

pub returns-then-v-lt-STATIONS-clause-station : goal.returns-then-v-lt-STATIONS-clause-station
unfolding victim_b
returns-then-v-lt-STATIONS-clause-station c = c.youngest-v.ensures.0

pub returns-else-v-lt-STATIONS-clause-station : goal.returns-else-v-lt-STATIONS-clause-station
unfolding victim_b
returns-else-v-lt-STATIONS-clause-station c = let nobody : 8 ≡ c.youngest-v.result = omega (arith, c.youngest-v.ensures.1) in nobody ∙ c.youngest-v.ensures.0
