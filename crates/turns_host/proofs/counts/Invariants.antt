-- `turns_host::counts` meets its contract.
use Prim.Native.Nat.{◌≤◌}
use mathlib.Core.Path.{◌≡◌}
use lib.ListN.{length}
use Rattle.turns_host.specs.Laws.{numbers_to}
use Rattle.turns_host.proofs.counts.Given as goal

abbrev pub invariant-loop-i : goal.invariant-loop-i
invariant-loop-i l = (l.i ≤ 8) × (length l.given ≡ 8) × (l.given ≡ numbers_to (λ x. x.given) l.lines l.i)
