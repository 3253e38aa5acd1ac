-- `server_tests::some_page` meets its contract. The loop's invariant: g is a group, or all have been passed.
use Prim.Native.Nat.{◌≤◌}
use Rattle.server_tests.proofs.some_page.Given as goal

abbrev pub invariant-loop-g : goal.invariant-loop-g
invariant-loop-g l = l.g ≤ 4
