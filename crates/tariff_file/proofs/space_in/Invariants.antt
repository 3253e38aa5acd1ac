-- `tariff_file::space_in` meets its contract.
use Prim.Native.Nat.{◌≤◌}
use lib.ListN.{length}
use Rattle.tariff_file.specs.Turns.{Ahead}
use Rattle.tariff_file.proofs.space_in.Given as goal

abbrev pub invariant-loop-i : goal.invariant-loop-i
invariant-loop-i l = (l.i ≤ length l.line) × Ahead l.line l.i
