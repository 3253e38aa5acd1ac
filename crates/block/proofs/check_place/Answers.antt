-- `block::check_place` meets its contract.
use native.Mathlib.Omega.{arith}
use borrow.Author.Tests.{lt-ltb, le-ltb}
use mathlib.Core.Path.{sym, ◌∙◌}
use Rattle.block.specs.Places.{record_count}
use Rattle.block.specs.Facts.{agreed}
use Rattle.block.specs.Check.{place_number}
use Rattle.block.proofs.check_place.Goals as goal

pub returns-then-not-counts_agree : goal.returns-then-not-counts_agree
unfolding place_number
returns-then-not-counts_agree c = simp (sym c.counts_agree.ensures, c.if-not-counts_agree.true)

pub get_u16-requires : goal.get_u16-requires
get_u16-requires c = omega (arith, (agreed _ (sym c.counts_agree.ensures ∙ c.if-not-counts_agree.false)).counts_there)

pub returns-then-get_u16-place : goal.returns-then-get_u16-place
unfolding place_number
returns-then-get_u16-place c = simp (sym c.counts_agree.ensures, c.if-not-counts_agree.false, le-ltb c.args.place (record_count c.args.b.now) (omega arith))

pub all_fit-requires : goal.all_fit-requires
all_fit-requires c = sym c.counts_agree.ensures ∙ c.if-not-counts_agree.false

pub returns-then-all_fit : goal.returns-then-all_fit
unfolding place_number
returns-then-all_fit c = simp (sym c.counts_agree.ensures, c.if-not-counts_agree.false, lt-ltb c.args.place (record_count c.args.b.now) (omega arith), sym c.all_fit.ensures, c.if-all_fit.true)

pub returns-else-all_fit : goal.returns-else-all_fit
unfolding place_number
returns-else-all_fit c = simp (sym c.counts_agree.ensures, c.if-not-counts_agree.false, lt-ltb c.args.place (record_count c.args.b.now) (omega arith), sym c.all_fit.ensures, c.if-all_fit.false)
