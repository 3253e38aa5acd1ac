-- `block::check` meets its contract.
use mathlib.Core.Path.{sym, ◌∙◌}
use Rattle.block.specs.Check.{block_number}
use Rattle.block.proofs.check.Goals as goal

pub returns-then-not-counts_agree : goal.returns-then-not-counts_agree
unfolding block_number
returns-then-not-counts_agree c = simp (sym c.counts_agree.ensures, c.if-not-counts_agree.true)

pub all_fit-requires : goal.all_fit-requires
all_fit-requires c = sym c.counts_agree.ensures ∙ c.if-not-counts_agree.false

pub returns-then-all_fit : goal.returns-then-all_fit
unfolding block_number
returns-then-all_fit c = simp (sym c.counts_agree.ensures, c.if-not-counts_agree.false, sym c.all_fit.ensures, c.if-all_fit.true)

pub returns-else-all_fit : goal.returns-else-all_fit
unfolding block_number
returns-else-all_fit c = simp (sym c.counts_agree.ensures, c.if-not-counts_agree.false, sym c.all_fit.ensures, c.if-all_fit.false)
