-- `tariff::fee_for` meets its contract.
use mathlib.Core.Path.{sym, ap, ◌∙◌}
use lib.IntN.{ℤ, nat_abs}
use mir.Syntax.{w64}
use mir.ValLaws.{to_z-of_z}
use Rattle.signed.specs.Change.{with_sign}
use Rattle.tariff.specs.Table.{signed_fee, fee_of}
use Rattle.tariff.specs.Facts.{cents_small, cents_are}
use Rattle.tariff.specs.declared.Fee.TheVariants as fee
use Rattle.tariff.proofs.fee_for.Goals as goal

pub with_sign-requires : goal.with_sign-requires
with_sign-requires c = cents_small _ _ (sym c.in-Some.is ∙ c.rounded.ensures)

pub returns-in-None : goal.returns-in-None
unfolding fee_of
returns-in-None c = ap (signed_fee c.args.frames) (sym c.in-None.is ∙ cents_are c.args.table.now c.args.frames _ _ _ c.rounded.ensures c.charge.ensures (c.magnitude-n.ensures ∙ ap nat_abs (to_z-of_z w64 c.args.frames c.ranges.frames)))

pub returns-in-Some : goal.returns-in-Some
unfolding fee_of
returns-in-Some c = ap fee.Owed (to_z-of_z w64 _ (record { sfits = c.with_sign.type_inv }) ∙ c.with_sign.ensures ∙ ap (λ (z : ℤ). with_sign z c.in-Some.q) (to_z-of_z w64 c.args.frames c.ranges.frames)) ∙ ap (signed_fee c.args.frames) (sym c.in-Some.is ∙ cents_are c.args.table.now c.args.frames _ _ _ c.rounded.ensures c.charge.ensures (c.magnitude-n.ensures ∙ ap nat_abs (to_z-of_z w64 c.args.frames c.ranges.frames)))
