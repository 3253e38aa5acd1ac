-- `history::writes` meets its contract.
use Rattle.history.specs.History.{none_to}
use Prim.Native.Nat.{◌-◌, ◌≤◌}
use mathlib.Core.Path.{◌≡◌}
use Rattle.history.proofs.writes.Given as goal

abbrev pub invariant-loop-c : goal.invariant-loop-c
invariant-loop-c l = (l.c ≤ l.m) × (l.none ≡ none_to l.part l.n l.counter l.c)
