-- `server::check_step` meets its contract.
use mathlib.Core.Path.{refl, sym, ◌∙◌}
use native.Mathlib.Omega.{arith}
use Rattle.server_actions.specs.Step.{kinds_of}
use Rattle.server.specs.Facts.{readable, check_up, check_6, check_0}
use Rattle.server.proofs.Refused.{some_number}
use borrow.Author.Rules.{rules}
use Rattle.server.proofs.check_step.Goals as goal

pub returns-in_err-up_check : goal.returns-in_err-up_check
returns-in_err-up_check c = let t = check_up c.args.m.now c.args.s.now c.in_err-up_check.ensures (some_number _) in search rules

pub unexpected-requires : goal.unexpected-requires
unexpected-requires c = let r = readable (kinds_of c.args.s.now) _ (sym c.in_ok-up_check.ensures) in (c.requires, r.length_is, r.station, r.kind, λ k. ((r.commit k).front, omega (arith, (r.commit k).entries)), r.page)

pub returns-then-unexpected : goal.returns-then-unexpected
returns-then-unexpected c = check_6 _ _ c.in_ok-up_check.ensures refl (sym c.unexpected.ensures ∙ c.if-unexpected.true)

pub returns : goal.returns
returns c = check_0 _ _ c.in_ok-up_check.ensures refl (sym c.unexpected.ensures ∙ c.if-unexpected.false)
