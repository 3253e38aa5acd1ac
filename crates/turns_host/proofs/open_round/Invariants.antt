-- `turns_host::open_round` meets its contract.
use Prim.Native.Nat.{◌≤◌}
use mathlib.Core.Path.{◌≡◌}
use lib.ListN.{length}
use Rattle.turns_host.specs.Laws.{zeroed_to}
use Rattle.turns_host.proofs.open_round.Given as goal

abbrev pub invariant-loop-i : goal.invariant-loop-i
invariant-loop-i l = (l.i ≤ 8) × (length l.lines ≡ 8) × (l.lines ≡ zeroed_to l.initial.lines l.i)
