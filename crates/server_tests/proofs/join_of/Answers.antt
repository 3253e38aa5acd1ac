use Rattle.std.proofs.Common.{refl, ap, ◌∙◌, arith, add-one}
use Rattle.server_tests.specs.Blockers.{join_to}
use Rattle.server_tests.proofs.join_of.Goals as goal

pub loop-k-init : goal.loop-k-init
unfolding join_to
loop-k-init g c = λ t h. refl

pub loop-k-preserved : goal.loop-k-preserved
unfolding join_to
loop-k-preserved g c = λ t h. rw (add-one, c.loop-k.invariant t h, h _ _ c.loop-k-test.true c.f-d.ensures)

pub returns : goal.returns
returns g c = λ t h. c.loop-k.invariant t h ∙ ap (join_to t) (omega arith)
