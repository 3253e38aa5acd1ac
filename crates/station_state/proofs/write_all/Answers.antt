use Rattle.station_state.specs.Changes.{written_to, write_all_b}
use mathlib.Core.Path.{ap, ◌∙◌}
use native.Mathlib.Numerals.{add-one}
use native.Mathlib.Omega.{arith}
use borrow.Author.Rules.{rules}
use Rattle.station_state.proofs.write_all.Goals as goal

pub loop-o-init : goal.loop-o-init
unfolding written_to
loop-o-init c = search rules

pub loop-o-preserved : goal.loop-o-preserved
unfolding written_to
loop-o-preserved c = (search rules, search rules, rw add-one (cc))

pub returns : goal.returns
unfolding write_all_b
returns c = c.loop-o.invariant.2 ∙ ap (written_to _ _ _ _) (omega arith)
