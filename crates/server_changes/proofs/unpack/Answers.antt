use mathlib.Core.Path.{ap, ◌∙◌}
use native.Mathlib.Numerals.{add-one}
use native.Mathlib.Omega.{arith}
use borrow.Author.Rules.{rules}
use Rattle.server_changes.specs.Changes.{unpack_to}
use Rattle.server_changes.proofs.unpack.Goals as goal

pub loop-k-init : goal.loop-k-init
unfolding unpack_to
loop-k-init c = search rules

pub loop-k-preserved : goal.loop-k-preserved
unfolding unpack_to
loop-k-preserved c = (search rules, search rules, rw add-one (cc))

pub returns : goal.returns
returns c = c.loop-k.invariant.2 ∙ ap (unpack_to _ _ _ _ _ _) (omega arith)
