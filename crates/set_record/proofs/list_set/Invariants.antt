-- `set_record::list_set` meets its contract. The loop's invariant: list and next entry are the definition's at the groups passed.
use Prim.Native.Nat.{◌≤◌, ◌-◌, ◌*◌, ◌+◌}
use mathlib.Core.Path.{◌≡◌}
use lib.ListN.{length}
use Rattle.cells.specs.Loops.{rank}
use Rattle.station_state.specs.Layout.{member}
use Rattle.set_record.specs.Stores.{entries_to}
use Rattle.set_record.proofs.list_set.Given as goal

abbrev pub invariant-loop-g : goal.invariant-loop-g
invariant-loop-g l = (l.g ≤ 4) × (length l.list ≡ length l.initial.list) × (l.j ≡ l.i + rank (member l.s l.at) (l.g * 64)) × (l.list ≡ entries_to l.initial.list l.s l.at l.i (l.g * 64))
