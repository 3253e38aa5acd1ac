-- `block_writer::scan` meets its contract.
use Prim.Native.Nat.{◌*◌, ◌-◌, ◌≤◌}
use mathlib.Core.Path.{◌≡◌}
use lib.ListN.{length}
use Rattle.layout.specs.Record.{most_entries}
use Rattle.block.specs.Block.{most_records}
use Rattle.block_writer.specs.Write.{scan_from}
use Rattle.block_writer.proofs.scan.Given as goal

abbrev pub invariant-loop-at : goal.invariant-loop-at
invariant-loop-at l = (l.at ≤ length l.s) × (l.count ≤ most_records) × (l.total ≤ 2 * most_entries * l.count) × (scan_from (most_records - l.count) l.s l.at l.count l.total ≡ scan_from most_records l.s 0 0 0)

abbrev pub decreases-loop-at : goal.decreases-loop-at
decreases-loop-at l = length l.s - l.at
