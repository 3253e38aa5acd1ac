-- `tariff_file::step_of` meets its contract.
use native.Mathlib.Omega.{arith}
use mathlib.Core.Path.{sym, ◌∙◌}
use lib.Seq.{length-take-le}
use Rattle.lists.specs.Stores.{to_the_end}
use Rattle.std.proofs.Common.{◌≡◌, refl, None}
use Rattle.arguments.specs.Modes.{commit_of}
use Rattle.tariff_file.specs.Line.{rest_of}
use Rattle.tariff_file.specs.Turns.{wrong_line, said}
use Rattle.tariff_file.proofs.step_of.Goals as goal

pub returns-then-line-e : goal.returns-then-line-e
returns-then-line-e c = wrong_line c.args.line.now c.space_in-e.result c.space_in-e.ensures.2 c.if-line-e.true

pub slice_bounds-count_of-end : goal.slice_bounds-count_of-end
slice_bounds-count_of-end c = sym (length-take-le c.space_in-e.result c.args.line.now (omega arith))

pub returns-in_err-upper : goal.returns-in_err-upper
returns-in_err-upper c =
    let gone : c.from_residual.result ≡ None = grind arith in
    rw gone (said c.args.line.now _ _ None (commit_of (rest_of c.args.line.now)) c.space_in-e.ensures.1 refl c.in_err-upper.ensures refl)

pub returns-in_err-price : goal.returns-in_err-price
returns-in_err-price c =
    let gone : c.from_residual-in_err-price.result ≡ None = grind arith in
    rw gone (said c.args.line.now _ _ _ None c.space_in-e.ensures.1 (to_the_end c.args.line.now _ ∙ c.space_in-e.ensures.2) c.in_ok-upper.ensures c.in_err-price.ensures)

pub returns : goal.returns
returns c = said c.args.line.now _ _ _ _ c.space_in-e.ensures.1 (to_the_end c.args.line.now _ ∙ c.space_in-e.ensures.2) c.in_ok-upper.ensures c.in_ok-price.ensures
