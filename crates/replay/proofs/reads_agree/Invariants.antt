-- `replay::reads_agree` meets its contract. The loop's invariant: the result so far is the test of all reads passed.
use Prim.Native.Nat.{◌≤◌}
use mathlib.Core.Path.{◌≡◌}
use Rattle.replay.specs.Replay.{read_agrees}
use Rattle.lists.specs.Tests.{all_to}
use Rattle.replay.proofs.reads_agree.Given as goal

abbrev pub invariant-loop-i : goal.invariant-loop-i
invariant-loop-i l = (l.i ≤ l.n) × (l.ok ≡ all_to (read_agrees l.t l.values l.k) l.i)
