-- `block::all_fit` meets its contract.
use Rattle.block.specs.Check.{record_fits_at}
use Rattle.lists.specs.Tests.{all_to}
use Rattle.block.specs.Places.{header_at, record_count, entries_to}
use Prim.Native.Nat.{◌+◌, ◌≤◌}
use mathlib.Core.Path.{◌≡◌}
use Rattle.block.proofs.all_fit.Given as goal

abbrev pub invariant-loop-i : goal.invariant-loop-i
invariant-loop-i l = (l.i ≤ l.c) × (l.c ≡ record_count l.b) × (l.a ≡ header_at l.c + entries_to l.b l.i) × (l.ok ≡ all_to (record_fits_at l.b) l.i)
