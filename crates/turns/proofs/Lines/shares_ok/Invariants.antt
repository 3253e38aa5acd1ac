use Prim.Native.Nat.{◌≤◌}
use mathlib.Core.Path.{◌≡◌}
use Rattle.lists.specs.Tests.{all_to}
use Rattle.turns.specs.Turn.{share_ok}
use Rattle.turns.proofs.Lines.shares_ok.Given as goal

abbrev pub invariant-loop-i : goal.invariant-loop-i
invariant-loop-i l = (l.i ≤ 8) × (l.ok ≡ all_to (share_ok l.self.share) l.i)
