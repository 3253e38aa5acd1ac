-- `compare::same_bytes` meets its contract.
use Prim.Native.Nat.{◌-◌, ◌≤◌}
use mathlib.Core.Path.{◌≡◌}
use Rattle.lists.specs.Tests.{all_to}
use Rattle.compare.specs.Compare.{same_byte}
use Rattle.compare.proofs.same_bytes.Given as goal

abbrev pub invariant-loop-i : goal.invariant-loop-i
invariant-loop-i l = (l.i ≤ l.n) × (l.same ≡ all_to (same_byte l.a l.b) l.i)
