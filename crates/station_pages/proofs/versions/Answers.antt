use Prim.Native.Nat.{◌*◌}
use mathlib.Core.Path.{◌≡◌, sym, ap, ◌∙◌}
use native.Mathlib.Omega.{arith}
use borrow.Author.Rules.{rules}
use Rattle.station_pages.specs.Pages.{versions_b}
use Rattle.station_state.specs.Runs.{run, run_group}
use Rattle.station_pages.specs.Versions.{versions_run}
use Rattle.station_pages.proofs.versions.Goals as goal

pub loop-g-preserved : goal.loop-g-preserved
loop-g-preserved c = (search rules, search rules, run_group _ _ _ _ _ _ _ c.loop-g.invariant.2 c.version_group.ensures (omega arith) (omega arith))

pub returns : goal.returns
unfolding versions_b
returns c = let e : c.loop-g.g * 64 ≡ 32 * 8 = omega arith in c.loop-g.invariant.2 ∙ ap (run _ _ _) e ∙ sym (versions_run _ _ 32 (omega arith))
