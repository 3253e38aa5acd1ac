-- `full::put_entries` meets its contract.
use Rattle.full.specs.Full.{entries_to}
use Prim.Native.Nat.{◌-◌, ◌≤◌}
use mathlib.Core.Path.{◌≡◌}
use lib.ListN.{length}
use Rattle.text.specs.Text.{put}
use Rattle.full.proofs.put_entries.Given as goal

abbrev pub invariant-loop-i : goal.invariant-loop-i
invariant-loop-i l = (l.i ≤ l.k) × (length l.out ≡ length l.initial.out) × (put l.out l.next ≡ entries_to l.sep l.reads l.addresses l.values (put l.initial.out l.at) l.i)
