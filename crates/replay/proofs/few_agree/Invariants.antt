-- `replay::few_agree` meets its contract. The loop's invariant: the result so far is the test of all turns passed; all turns test all reads (`turns-agree`).
use Prim.Native.Nat.{◌≤◌}
use mathlib.Core.Path.{◌≡◌}
use Rattle.lists.specs.Tests.{all_to}
use Rattle.record.specs.Few.{most_few}
use Rattle.replay.specs.Few.{read_in_turn}
use Rattle.replay.proofs.few_agree.Given as goal

abbrev pub invariant-loop-i : goal.invariant-loop-i
invariant-loop-i l = (l.i ≤ most_few) × (l.ok ≡ all_to (read_in_turn l.t l.values l.k l.n) l.i)
