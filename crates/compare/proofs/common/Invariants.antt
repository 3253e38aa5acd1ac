-- `compare::common` meets its contract.
use Prim.Native.Nat.{◌-◌, ◌≤◌}
use mathlib.Core.Path.{◌≡◌}
use lib.ListN.{length, drop}
use Rattle.compare.specs.Compare.{compare_from}
use Rattle.compare.proofs.common.Given as goal

abbrev pub invariant-loop-f : goal.invariant-loop-f
invariant-loop-f l = (l.at ≤ length l.first) × (l.at ≤ length l.second) × (compare_from l.first l.second 0 l.initial.values ≡ compare_from (drop l.at l.first) (drop l.at l.second) l.last l.values)

abbrev pub decreases-loop-f : goal.decreases-loop-f
decreases-loop-f l = length l.first - l.at
