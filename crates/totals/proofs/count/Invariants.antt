-- `totals::count` meets its contract.
use Rattle.totals.specs.Totals.{counted_to}
use mathlib.Core.Path.{◌≡◌}
use Prim.Native.Nat.{◌-◌, ◌≤◌}
use Rattle.totals.proofs.count.Given as goal

abbrev pub invariant-loop-c : goal.invariant-loop-c
invariant-loop-c l = (l.c ≤ l.m) × (l.counts ≡ counted_to l.part l.initial.counts l.n l.c)
