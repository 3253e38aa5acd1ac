-- `text::put_digits` meets its contract.
use Rattle.text.specs.Decimal.{last_digits}
use mathlib.Core.Path.{◌≡◌}
use lib.ListN.{length}
use lib.Seq.{sets}
use Rattle.text.proofs.put_digits.Given as goal

abbrev pub invariant-loop-i : goal.invariant-loop-i
invariant-loop-i l = (length l.out ≡ length l.initial.out) × (sets l.out l.at (last_digits l.i l.rest) ≡ sets l.initial.out l.at (last_digits l.k l.n))
