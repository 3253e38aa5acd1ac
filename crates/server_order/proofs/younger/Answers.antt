-- `server_order::younger` meets its contract.
use Rattle.server_order.specs.Order.{younger_b}
use Rattle.server_order.specs.Cycles.{cycle_is}
use native.Mathlib.Omega.{arith}
use Rattle.server_order.proofs.younger.Goals as goal

pub returns : goal.returns
unfolding younger_b
returns c = simp (cycle_is c.args.s.now c.args.n (omega arith), ← c.requires.1) (cc)
