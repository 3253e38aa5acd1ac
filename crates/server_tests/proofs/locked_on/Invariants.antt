-- `server_tests::locked_on` meets its contract. The loop's invariant: the answer tells of all objects but those that are left.
use Prim.Native.Nat.{◌<◌}
use Rattle.server_tests.specs.Tests.{locked_at_b}
use Rattle.server_tests.specs.Members.{LeftB}
use Rattle.server_tests.proofs.locked_on.Given as goal

abbrev pub invariant-loop-o : goal.invariant-loop-o
invariant-loop-o l = (l.o-iterator.left < 256) × LeftB 8 (locked_at_b l.s l.i l.p) l.o-iterator.left l.r
