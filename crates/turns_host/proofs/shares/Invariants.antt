-- `turns_host::shares` meets its contract.
use Prim.Native.Nat.{◌≤◌}
use mathlib.Core.Path.{◌≡◌}
use lib.ListN.{length}
use Rattle.turns_host.specs.Laws.{numbers_to}
use Rattle.turns_host.proofs.shares.Given as goal

abbrev pub invariant-loop-i : goal.invariant-loop-i
invariant-loop-i l = (l.i ≤ 8) × (length l.share ≡ 8) × (l.share ≡ numbers_to (λ x. x.share) l.lines l.i)
