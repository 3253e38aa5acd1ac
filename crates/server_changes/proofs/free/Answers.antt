use Prim.Native.Nat.{◌*◌}
use mathlib.Core.Path.{◌≡◌, ap, ◌∙◌}
use native.Mathlib.Omega.{arith}
use borrow.Author.Rules.{rules}
use Rattle.station_state.specs.Runs.{run, run_group}
use Rattle.server_changes.specs.Frees.{locks_run}
use Rattle.server_changes.proofs.free.Goals as goal

pub loop-g-preserved : goal.loop-g-preserved
loop-g-preserved c = (search rules, search rules, run_group _ _ _ _ _ _ _ c.loop-g.invariant.2 c.free_in.ensures (omega arith) (omega arith))

pub returns : goal.returns
returns c = let e : c.loop-g.g * 64 ≡ 256 = omega arith in c.loop-g.invariant.2 ∙ ap (run _ _ _) e ∙ locks_run _ _ _
