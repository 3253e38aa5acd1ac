-- `server_changes::unpack` meets its contract. The loop's invariant: the state is the definition's at the count of entries passed.
use Prim.Native.Nat.{◌≤◌, ◌-◌}
use mathlib.Core.Path.{◌≡◌}
use Rattle.server_changes.specs.Changes.{unpack_to}
use lib.ListN.{length}
use Rattle.server_changes.proofs.unpack.Given as goal

abbrev pub invariant-loop-k : goal.invariant-loop-k
invariant-loop-k l = (l.k ≤ l.n) × (length l.s ≡ length l.initial.s) × (l.s ≡ unpack_to l.m l.initial.s l.at l.from l.seen l.first l.k)
