use Rattle.std.proofs.Common.{refl, ap, ◌∙◌, arith, add-one}
use Rattle.cells.specs.Loops.{mask_to}
use Rattle.server_tests.proofs.set_of.Goals as goal

pub loop-k-init : goal.loop-k-init
unfolding mask_to
loop-k-init g c = λ t h. refl

pub loop-k-preserved : goal.loop-k-preserved
unfolding mask_to
loop-k-preserved g c = λ t h. rw (add-one, c.loop-k.invariant t h, ← h _ _ c.loop-k-test.true c.f.ensures) (cc)

pub returns : goal.returns
returns g c = λ t h. c.loop-k.invariant t h ∙ ap (mask_to t) (omega arith)
