use Prim.Native.Nat.{◌≤◌, ◌-◌}
use mathlib.Core.Path.{◌≡◌}
use Rattle.turns.specs.Turn.{lowest_of, lowest}
use Rattle.turns.proofs.Lines.lowest.Given as goal

abbrev pub invariant-loop-i : goal.invariant-loop-i
invariant-loop-i l = (l.i ≤ 8) × (lowest_of l.self.share l.self.given l.self.waiting (8 - l.i) ≡ lowest l.self.share l.self.given l.self.waiting)
