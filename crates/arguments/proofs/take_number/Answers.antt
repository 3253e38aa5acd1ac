-- `arguments::take_number` meets its contract.
use Rattle.arguments.specs.Modes.{wrong}
use mathlib.Core.Path.{sym}
use Rattle.arguments.proofs.take_number.Goals as goal

pub returns-then-not-number_fits : goal.returns-then-not-number_fits
unfolding wrong
returns-then-not-number_fits c = simp (sym c.number_fits.ensures, c.if-not-number_fits.true)

pub returns : goal.returns
returns c = simp (sym c.number_fits.ensures, c.if-not-number_fits.false, sym c.place_for-place.ensures.0)
