-- `server_sets::hindered` meets its contract.
use native.Mathlib.Omega.{arith}
use Rattle.server_sets.specs.Sets.{hindered_is}
use Rattle.server_sets.proofs.hindered.Goals as goal

pub returns : goal.returns
returns c = let a = c.args in rw (hindered_is a.s.now a.i a.p (omega arith)) (cc)
