-- `replay::play_archive` meets its contract. The loop's invariant: the play of the whole archive is the play from `at` on, of the values and the number so far.
use mathlib.Core.Path.{◌≡◌}
use Prim.Native.Nat.{suc, ◌-◌, ◌≤◌}
use Rattle.replay.specs.Played.{play_from, archive_played}
use lib.ListN.{length}
use Rattle.replay.proofs.play_archive.Given as goal

abbrev pub invariant-loop-f : goal.invariant-loop-f
invariant-loop-f l = (l.at ≤ length l.archive) × (archive_played l.archive l.initial.last l.initial.values ≡ play_from (suc (length l.archive) - l.at) l.archive l.at l.last l.values)

abbrev pub decreases-loop-f : goal.decreases-loop-f
decreases-loop-f l = length l.archive - l.at
