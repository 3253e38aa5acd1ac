use Prim.Native.Nat.{◌≤◌}
use mathlib.Core.Path.{◌≡◌}
use Rattle.lists.specs.Tests.{all_to}
use Rattle.turns.specs.Turn.{in_range}
use Rattle.turns.proofs.Lines.in_range.Given as goal

abbrev pub invariant-loop-i : goal.invariant-loop-i
invariant-loop-i l = (l.i ≤ 8) × (l.ok ≡ all_to (in_range l.self.share l.self.given l.self.waiting) l.i)
