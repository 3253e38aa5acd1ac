-- `set_record::list_group` meets its contract. The loop's invariant: what is below the lowest address left is listed.
use Prim.Native.Nat.{◌*◌}
use mathlib.Core.Path.{◌≡◌}
use lib.ListN.{length}
use Rattle.set_record.specs.Spans.{Scanned}
use Rattle.set_record.proofs.list_group.Given as goal

abbrev pub invariant-loop-k : goal.invariant-loop-k
invariant-loop-k l = (length l.list ≡ length l.initial.list) × Scanned l.initial.list l.s l.at l.i (l.g * 64) l.k-iterator.left l.list l.j
