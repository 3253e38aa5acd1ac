-- `station_commit::put_each` meets its contract. The loop's invariant: the output has the versions of the addresses passed.
use Prim.Native.Nat.{◌≤◌, ◌-◌}
use lib.ListN.{length, take}
use lib.Seq.{sets}
use mathlib.Core.Path.{◌≡◌}
use Rattle.message.specs.Commit.{versions_at}
use Rattle.station_commit.specs.Commit.{versions_for}
use Rattle.station_commit.proofs.put_each.Given as goal

abbrev pub invariant-loop-e : goal.invariant-loop-e
invariant-loop-e l = (l.e ≤ l.n) × (length l.c ≡ length l.initial.c) × (l.c ≡ sets l.initial.c versions_at (versions_for l.s (take l.e l.addresses)))
