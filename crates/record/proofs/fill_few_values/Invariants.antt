-- `record::fill_few_values` meets its contract. The loop's invariant: as many values as turns passed are copied.
use Prim.Native.Nat.{◌≤◌, ◌*◌}
use mathlib.Core.Path.{◌≡◌}
use lib.ListN.{length}
use Rattle.layout.specs.Record.{value_length}
use Rattle.record.specs.Few.{few_entries}
use Rattle.record.specs.Copies.{Copied}
use Rattle.record.proofs.fill_few_values.Given as goal

abbrev pub invariant-loop-i : goal.invariant-loop-i
invariant-loop-i l = (l.i ≤ few_entries) × (length l.to ≡ length l.from) × Copied l.to l.from (value_length * l.i)
