-- `block_writer::put_heads` meets its contract.
use lib.ListN.{length}
use lib.Seq.{sets}
use Rattle.block.specs.Places.{counts_length, header_at}
use Rattle.block_writer.specs.Write.{start_of, entries_in, headers_to, addresses_to}
use Prim.Native.Nat.{◌≤◌}
use mathlib.Core.Path.{◌≡◌}
use Rattle.block_writer.proofs.put_heads.Given as goal

abbrev pub invariant-loop-i : goal.invariant-loop-i
invariant-loop-i l = (l.i ≤ l.c) × (length l.to ≡ length l.initial.to) × (l.a ≡ header_at l.c) × (l.at ≡ start_of l.s l.i) × (l.q ≡ entries_in l.s l.i) × (l.to ≡ sets (sets l.initial.to counts_length (headers_to l.s l.i)) (header_at l.c) (addresses_to l.s l.i))
