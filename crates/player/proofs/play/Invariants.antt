-- `player::play` meets its contract. The loop's invariant: the play of the whole input is the play from `at` on. It ends because a record ends behind its start (`moves`).
use Rattle.player.specs.Play.{run_from, run_of}
use Rattle.text.specs.Text.{put}
use Prim.Native.Nat.{suc, ◌-◌, ◌≤◌}
use mathlib.Core.Path.{◌≡◌}
use lib.ListN.{length}
use Rattle.player.proofs.play.Given as goal

abbrev pub invariant-loop-job : goal.invariant-loop-job
invariant-loop-job l = (l.at ≤ length l.input) × (length l.output ≡ length l.initial.output) × (run_of l.job l.base l.input l.last l.initial.values l.initial.counts (put l.initial.output l.out) ≡ run_from (suc (length l.input) - l.at) l.job l.base l.input l.at l.commit l.values l.counts (put l.output l.next))

abbrev pub decreases-loop-job : goal.decreases-loop-job
decreases-loop-job l = length l.input - l.at
