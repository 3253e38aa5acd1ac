-- `server_tests::holders_on` meets its contract. The loop's invariant: the set has all holders but those of the objects that are left.
use Prim.Native.Nat.{◌<◌}
use Rattle.server_tests.specs.Blockers.{holder_at}
use Rattle.server_tests.specs.Members.{Left}
use Rattle.server_tests.proofs.holders_on.Given as goal

abbrev pub invariant-loop-o : goal.invariant-loop-o
invariant-loop-o l = (l.o-iterator.left < 256) × (l.d < 256) × Left (holder_at l.s l.i l.p) l.o-iterator.left l.d
