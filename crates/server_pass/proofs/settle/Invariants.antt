-- `server_pass::settle` meets its contract. The loop's invariant: what is lent will hold the same when the rounds end, and there are so many left at the most.
use mathlib.Core.Path.{◌≡◌}
use lib.ListN.{length}
use Rattle.server_actions.specs.Posting.{from, post}
use Rattle.server_actions.specs.Pass.{settle_b}
use Rattle.server_pass.specs.Sane.{Sane}
use Rattle.server_pass.specs.Goes.{Goes, rounds_left}
use Rattle.server_pass.proofs.settle.Given as goal

abbrev pub invariant-loop-going : goal.invariant-loop-going
invariant-loop-going l = (length l.s ≡ length l.initial.s) × (length l.o ≡ length l.initial.o) × (length l.q ≡ length l.initial.q) × Sane l.s × Goes l.going l.s l.o l.q l.b (post l.initial.o l.initial.q l.initial.b (settle_b 64 (from l.initial.s)))

abbrev pub decreases-loop-going : goal.decreases-loop-going
decreases-loop-going l = rounds_left l.going l.s
