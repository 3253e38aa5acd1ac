-- `arguments::commit_of` meets its contract.
use Rattle.arguments.specs.Modes.{most_commits, commit_of}
use Rattle.arguments.specs.Numbers.{read_from}
use Prim.Native.Nat.{◌≤◌}
use mathlib.Core.Path.{◌≡◌}
use lib.ListN.{length, drop}
use Rattle.arguments.proofs.commit_of.Given as goal

abbrev pub invariant-loop-i : goal.invariant-loop-i
invariant-loop-i l = (l.i ≤ length l.word) × (l.n ≤ most_commits) × (commit_of l.word ≡ read_from l.n (drop l.i l.word))
