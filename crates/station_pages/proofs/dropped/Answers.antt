use native.Mathlib.Omega.{arith}
use borrow.Author.Rules.{rules}
use Rattle.station_pages.specs.Groups.{mask_group}
use Rattle.station_pages.proofs.dropped.Goals as goal

pub loop-g-preserved : goal.loop-g-preserved
loop-g-preserved c = (search rules, mask_group _ _ _ _ c.loop-g.invariant.1 c.dropped_in-d.ensures (omega arith))
