-- `licence::sum_over` meets its contract.
use mathlib.Core.Path.{◌≡◌}
use Prim.Native.Nat.{suc, ◌-◌, ◌≤◌}
use lib.ListN.{length, get_or}
use Rattle.licence.specs.Frames.{frames_from, frames_on}
use Rattle.licence.specs.Turns.{Going}
use Rattle.licence.proofs.sum_over.Given as goal

abbrev pub invariant-loop-f : goal.invariant-loop-f
invariant-loop-f l = (l.at ≤ length l.archive) × (frames_on l.archive l.first l.last l.a l.initial.values ≡ frames_from (suc (length l.archive) - l.at) l.archive l.first l.last l.a l.at l.commit l.values l.sum) × Going l.first l.last l.commit l.sum (get_or l.values l.a 0)

abbrev pub decreases-loop-f : goal.decreases-loop-f
decreases-loop-f l = length l.archive - l.at
