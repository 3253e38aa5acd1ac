-- `tariff_file::count_of` meets its contract.
use mathlib.Core.Path.{◌≡◌}
use Prim.Native.Nat.{◌≤◌}
use lib.ListN.{length, drop}
use Rattle.signed.specs.Change.{most}
use Rattle.tariff_file.specs.Line.{read_from, count_of}
use Rattle.tariff_file.proofs.count_of.Given as goal

abbrev pub invariant-loop-i : goal.invariant-loop-i
invariant-loop-i l = (l.i ≤ length l.word) × (l.n ≤ most) × (count_of l.word ≡ read_from l.n (drop l.i l.word))
