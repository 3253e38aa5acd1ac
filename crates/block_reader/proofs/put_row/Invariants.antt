-- `block_reader::put_row` meets its contract.
use Prim.Native.Nat.{◌≤◌}
use mathlib.Core.Path.{◌≡◌}
use lib.ListN.{length}
use Rattle.layout.specs.Record.{value_length}
use Rattle.block_reader.specs.Stores.{stored_to}
use Rattle.block_reader.proofs.put_row.Given as goal

abbrev pub invariant-loop-k : goal.invariant-loop-k
invariant-loop-k l = (l.k ≤ value_length) × (length l.to ≡ length l.initial.to) × (l.to ≡ stored_to l.b l.initial.to l.at l.p l.t l.k)
