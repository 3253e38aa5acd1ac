-- `turns_host::marks` meets its contract.
use Prim.Native.Nat.{◌≤◌}
use mathlib.Core.Path.{◌≡◌}
use lib.ListN.{length}
use Rattle.turns_host.specs.Laws.{numbers_to}
use Rattle.turns_host.proofs.marks.Given as goal

abbrev pub invariant-loop-i : goal.invariant-loop-i
invariant-loop-i l = (l.i ≤ 8) × (length l.waiting ≡ 8) × (l.waiting ≡ numbers_to (λ x. x.waiting) l.lines l.i)
