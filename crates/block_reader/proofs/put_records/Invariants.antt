-- `block_reader::put_records` meets its contract.
use lib.ListN.{length}
use lib.Seq.{sets}
use Rattle.block_reader.specs.Read.{records_to}
use Rattle.block.specs.Places.{header_at, record_count, entry_total, entries_to}
use Prim.Native.Nat.{◌≤◌}
use mathlib.Core.Path.{◌≡◌}
use Rattle.block_reader.proofs.put_records.Given as goal

abbrev pub invariant-loop-i : goal.invariant-loop-i
invariant-loop-i l = (l.i ≤ l.c) × (length l.to ≡ length l.initial.to) × (l.c ≡ record_count l.b) × (l.t ≡ entry_total l.b) × (l.a ≡ header_at l.c) × (l.q ≡ entries_to l.b l.i) × (l.to ≡ sets l.initial.to 0 (records_to l.b l.i))
