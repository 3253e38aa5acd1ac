use Rattle.std.proofs.Common.{length, ◌≤◌, ◌-◌}
use Rattle.fees.proofs.play.Given as goal

abbrev pub invariant-loop-f : goal.invariant-loop-f
invariant-loop-f l = l.at ≤ length l.input

abbrev pub decreases-loop-f : goal.decreases-loop-f
decreases-loop-f l = length l.input - l.at
