-- `message::pages_of` meets its contract. The loop's invariant: the result so far is the pages of the addresses passed.
use Rattle.message.specs.Commit.{pages_to}
use Prim.Native.Nat.{◌≤◌}
use mathlib.Core.Path.{◌≡◌}
use Rattle.message.proofs.pages_of.Given as goal

abbrev pub invariant-loop-i : goal.invariant-loop-i
invariant-loop-i l = (l.i ≤ l.n) × (l.pages ≡ pages_to l.m l.at l.i)
