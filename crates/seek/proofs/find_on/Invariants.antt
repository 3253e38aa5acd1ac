-- `seek::find_on` meets its contract.
use Prim.Native.Nat.{◌-◌}
use mathlib.Core.Path.{◌≡◌}
use Rattle.seek.specs.Seek.{sought_from}
use Rattle.seek.proofs.find_on.Given as goal

abbrev pub invariant-loop-before : goal.invariant-loop-before
invariant-loop-before l = sought_from l.commit l.archive 0 0 l.initial.values ≡ sought_from (l.commit - l.before) l.archive l.at l.last l.values
