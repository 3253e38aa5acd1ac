-- `block_writer::put_values` meets its contract.
use lib.ListN.{length}
use Rattle.block_writer.specs.Write.{column}
use Rattle.block_writer.specs.Stripes.{stripes}
use Prim.Native.Nat.{◌+◌, ◌≤◌}
use mathlib.Core.Path.{◌≡◌}
use Rattle.layout.specs.Record.{value_length}
use Rattle.block_writer.proofs.put_values.Given as goal

abbrev pub invariant-loop-i : goal.invariant-loop-i
invariant-loop-i l = (l.i ≤ l.n) × (length l.to ≡ length l.initial.to) × (l.to ≡ stripes value_length l.initial.to l.p l.t (λ k. column l.s (l.a + k) l.i))
