-- `block_reader::put_rows` meets its contract.
use lib.ListN.{length}
use lib.Seq.{sets}
use Rattle.block_reader.specs.Read.{rows}
use Prim.Native.Nat.{◌≤◌}
use mathlib.Core.Path.{◌≡◌}
use Rattle.block_reader.proofs.put_rows.Given as goal

abbrev pub invariant-loop-i : goal.invariant-loop-i
invariant-loop-i l = (l.i ≤ l.n) × (length l.to ≡ length l.initial.to) × (l.to ≡ sets l.initial.to l.at (rows l.b l.p l.t l.i))
