use Rattle.std.proofs.Common.{refl, ap, ◌∙◌, arith, add-one}
use Rattle.lists.specs.Tests.{all_to}
use Rattle.lists.proofs.all_of.Goals as goal

pub loop-k-init : goal.loop-k-init
unfolding all_to
loop-k-init g c = λ t h. refl

pub loop-k-preserved : goal.loop-k-preserved
unfolding all_to
loop-k-preserved g c = λ t h. rw (add-one, c.loop-k.invariant t h, h _ _ c.loop-k-test.true c.f-ok.ensures)

pub returns : goal.returns
returns g c = λ t h. c.loop-k.invariant t h ∙ ap (all_to t) (omega arith)
