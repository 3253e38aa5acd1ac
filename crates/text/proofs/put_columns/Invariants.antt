-- `text::put_columns` meets its contract.
use Rattle.text.specs.Text.{columns}
use Prim.Native.Nat.{◌+◌, ◌≤◌}
use mathlib.Core.Path.{◌≡◌}
use lib.ListN.{length, drop}
use lib.Seq.{sets}
use Rattle.text.proofs.put_columns.Given as goal

abbrev pub invariant-loop-i : goal.invariant-loop-i
invariant-loop-i l = (l.i ≤ length l.text) × (length l.out ≡ length l.initial.out) × (sets l.out (l.at + l.i) (columns l.sep (drop l.i l.text)) ≡ sets l.initial.out l.at (columns l.sep l.text))
