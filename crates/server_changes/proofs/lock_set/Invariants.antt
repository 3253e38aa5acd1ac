-- `server_changes::lock_set` meets its contract. The loop's invariant: the state is the definition's at the count of objects passed.
use Prim.Native.Nat.{◌≤◌, ◌-◌}
use mathlib.Core.Path.{◌≡◌}
use Rattle.server_changes.specs.Changes.{lock_to}
use lib.ListN.{length}
use Rattle.server_changes.proofs.lock_set.Given as goal

abbrev pub invariant-loop-o : goal.invariant-loop-o
invariant-loop-o l = (l.o ≤ 8) × (length l.s ≡ length l.initial.s) × (l.s ≡ lock_to l.i l.p l.x l.initial.s l.o)
