use Rattle.std.proofs.Common.{refl, ap, ◌∙◌, arith, add-one}
use Rattle.cells.specs.Loops.{any_to}
use Rattle.server_tests.proofs.any_of.Goals as goal

pub loop-k-init : goal.loop-k-init
unfolding any_to
loop-k-init g c = λ t h. refl

pub loop-k-preserved : goal.loop-k-preserved
unfolding any_to
loop-k-preserved g c = λ t h. rw (add-one, c.loop-k.invariant t h, h _ _ c.loop-k-test.true c.f-r.ensures)

pub returns : goal.returns
returns g c = λ t h. c.loop-k.invariant t h ∙ ap (any_to t) (omega arith)
