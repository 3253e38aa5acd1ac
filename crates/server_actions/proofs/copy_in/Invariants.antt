-- `server_actions::copy_in` meets its contract. The loop's invariant: as many words as turns passed are copied.
use Prim.Native.Nat.{◌*◌, ◌-◌, ◌≤◌}
use mathlib.Core.Path.{◌≡◌}
use lib.ListN.{length, take, drop}
use lib.Seq.{sets}
use Rattle.server_actions.proofs.copy_in.Given as goal

abbrev pub invariant-loop-k : goal.invariant-loop-k
invariant-loop-k l = (l.k ≤ l.words) × (length l.o ≡ length l.initial.o) × (l.o ≡ sets l.initial.o l.at (take (l.k * 8) (drop l.from l.s)))
