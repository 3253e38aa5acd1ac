-- `server_order::younger_of` meets its contract.
use native.Mathlib.Omega.{arith}
use mathlib.Core.Path.{sym}
use Rattle.server_order.proofs.younger_of.Goals as goal

pub returns-then-younger : goal.returns-then-younger
returns-then-younger c = (simp (sym c.younger.ensures, c.if-younger.true), omega arith)

pub returns : goal.returns
returns c = (simp (sym c.younger.ensures, c.if-younger.false), omega arith)
