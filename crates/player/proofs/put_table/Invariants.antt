-- `player::put_table` meets its contract.
use Rattle.player.specs.Close.{counters_to}
use mathlib.Core.Path.{◌≡◌}
use Rattle.text.specs.Text.{put}
use Prim.Native.Nat.{◌-◌, ◌≤◌}
use lib.ListN.{length}
use Rattle.player.proofs.put_table.Given as goal

abbrev pub invariant-loop-a : goal.invariant-loop-a
invariant-loop-a l = (l.a ≤ 256) × (length l.output ≡ length l.initial.output) × (put l.output l.next ≡ counters_to l.sep l.values l.counts (put l.initial.output l.initial.next) l.a)
