-- `replay::few_stored` meets its contract. The loop's invariant: the values are those after the turns passed; all turns store all writes (`turns-store`).
use Prim.Native.Nat.{◌≤◌}
use mathlib.Core.Path.{◌≡◌}
use Rattle.record.specs.Few.{most_few}
use Rattle.replay.specs.Few.{turns_to}
use Rattle.replay.proofs.few_stored.Given as goal

abbrev pub invariant-loop-c : goal.invariant-loop-c
invariant-loop-c l = (l.c ≤ most_few) × (l.values ≡ turns_to l.t l.initial.values l.k l.n l.m l.c)
