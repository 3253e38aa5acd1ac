-- `server_sets::informed_set` meets its contract.
use native.Mathlib.Omega.{arith}
use Rattle.server_sets.specs.Sets.{informed_is}
use Rattle.server_sets.proofs.informed_set.Goals as goal

pub returns : goal.returns
returns c = let a = c.args in rw (informed_is a.s.now a.i a.d (omega arith)) (cc)
