-- `replay::store_writes` meets its contract. The loop's invariant: the values are those after the writes passed.
use Prim.Native.Nat.{◌≤◌}
use mathlib.Core.Path.{◌≡◌}
use Rattle.replay.specs.Replay.{stored_to}
use Rattle.replay.proofs.store_writes.Given as goal

abbrev pub invariant-loop-c : goal.invariant-loop-c
invariant-loop-c l = (l.c ≤ l.m) × (l.values ≡ stored_to l.t l.initial.values l.k l.n l.c)
