-- `block::entries_to` meets its contract.
use Rattle.block.specs.Places.{entries_to}
use Prim.Native.Nat.{◌*◌, ◌≤◌}
use mathlib.Core.Path.{◌≡◌}
use Rattle.block.proofs.entries_to.Given as goal

abbrev pub invariant-loop-i : goal.invariant-loop-i
invariant-loop-i l = (l.i ≤ l.c) × (l.n ≡ entries_to l.b l.i) × (l.n ≤ 131072 * l.i)
