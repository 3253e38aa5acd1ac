-- `licence::writes_to` meets its contract.
use mathlib.Core.Path.{◌≡◌}
use Prim.Native.Nat.{◌≤◌}
use Rattle.totals.specs.Writers.{any_to}
use Rattle.licence.proofs.writes_to.Given as goal

abbrev pub invariant-loop-c : goal.invariant-loop-c
invariant-loop-c l = (l.c ≤ l.m) × (l.found ≡ any_to l.part l.n l.address l.c)
