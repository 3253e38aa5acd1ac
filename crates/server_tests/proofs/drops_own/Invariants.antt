-- `server_tests::drops_own` meets its contract. The loop's invariant: the answer tells of all pages but those that are left.
use Prim.Native.Nat.{◌^◌, ◌<◌}
use Rattle.server_tests.specs.Tests.{drops_locked_b}
use Rattle.server_tests.specs.Members.{LeftB}
use Rattle.server_tests.proofs.drops_own.Given as goal

abbrev pub invariant-loop-p : goal.invariant-loop-p
invariant-loop-p l = (l.p-iterator.left < 2 ^ 32) × LeftB 32 (drops_locked_b l.s l.i l.d) l.p-iterator.left l.r
