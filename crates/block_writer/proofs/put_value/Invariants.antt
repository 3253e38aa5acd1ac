-- `block_writer::put_value` meets its contract.
use Prim.Native.Nat.{◌≤◌}
use mathlib.Core.Path.{◌≡◌}
use lib.ListN.{length}
use Rattle.layout.specs.Record.{value_length}
use Rattle.block_writer.specs.Stores.{striped_to}
use Rattle.block_writer.proofs.put_value.Given as goal

abbrev pub invariant-loop-k : goal.invariant-loop-k
invariant-loop-k l = (l.k ≤ value_length) × (length l.to ≡ length l.initial.to) × (l.to ≡ striped_to l.s l.initial.to l.p l.t l.a l.k)
