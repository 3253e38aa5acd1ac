-- `fault::read_fault` meets its contract. The loop's invariant: all reads passed agree.
use mathlib.Core.Path.{◌≡◌}
use Prim.Native.Nat.{◌≤◌}
use mathlib.Core.Bool.{true}
use Rattle.lists.specs.Tests.{all_to}
use Rattle.replay.specs.Replay.{read_agrees}
use Rattle.fault.proofs.read_fault.Given as goal

abbrev pub invariant-loop-i : goal.invariant-loop-i
invariant-loop-i l = (l.i ≤ l.n) × (all_to (read_agrees l.t l.values l.k) l.i ≡ true)
