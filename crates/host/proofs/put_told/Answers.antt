-- `host::put_told` meets its contract.
use native.Mathlib.Omega.{arith}
use lib.ListN.{length-set}
use Rattle.host.proofs.put_told.Goals as goal

pub bounds-told-1 : goal.bounds-told-1
bounds-told-1 c = simp length-set (omega arith)

pub bounds-told-2 : goal.bounds-told-2
bounds-told-2 c = simp length-set (omega arith)
