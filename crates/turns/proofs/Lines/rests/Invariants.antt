use Prim.Native.Nat.{◌≤◌}
use mathlib.Core.Path.{◌≡◌}
use Rattle.lists.specs.Tests.{all_to}
use Rattle.turns.specs.Turn.{rests}
use Rattle.turns.proofs.Lines.rests.Given as goal

abbrev pub invariant-loop-i : goal.invariant-loop-i
invariant-loop-i l = (l.i ≤ 8) × (l.none ≡ all_to (rests l.self.waiting) l.i)
