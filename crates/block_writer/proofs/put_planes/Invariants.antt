-- `block_writer::put_planes` meets its contract.
use lib.ListN.{length}
use Rattle.layout.specs.Record.{value_length}
use Rattle.block.specs.Places.{planes_at}
use Rattle.block_writer.specs.Write.{start_of, entries_in, plane_to}
use Rattle.block_writer.specs.Stripes.{stripes}
use Prim.Native.Nat.{◌≤◌}
use mathlib.Core.Path.{◌≡◌}
use Rattle.block_writer.proofs.put_planes.Given as goal

abbrev pub invariant-loop-i : goal.invariant-loop-i
invariant-loop-i l = (l.i ≤ l.c) × (length l.to ≡ length l.initial.to) × (l.p ≡ planes_at l.c l.t) × (l.at ≡ start_of l.s l.i) × (l.q ≡ entries_in l.s l.i) × (l.to ≡ stripes value_length l.initial.to l.p l.t (plane_to l.s l.i))
