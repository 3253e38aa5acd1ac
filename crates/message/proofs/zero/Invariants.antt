-- `message::zero` meets its contract. The loop's invariant: what is left so far is the list with the places passed cleared.
use Rattle.message.specs.Stores.{cleared}
use Prim.Native.Nat.{◌≤◌}
use mathlib.Core.Path.{◌≡◌}
use lib.ListN.{length}
use Rattle.message.proofs.zero.Given as goal

abbrev pub invariant-loop-i : goal.invariant-loop-i
invariant-loop-i l = (l.i ≤ l.n) × (length l.o ≡ length l.initial.o) × (l.o ≡ cleared l.initial.o l.at l.i)
