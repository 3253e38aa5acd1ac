-- `signed::with_sign` meets its contract.
use mathlib.Core.Bool.{true, false}
use mathlib.Core.Path.{sym, subst, ◌∙◌}
use lib.IntN.{pos}
use lib.Signed.{le_z_yes}
use mir.Syntax.{w64}
use mir.Val.{SFits}
use mir.ValLaws.{to_z-of_z, to_z_pos}
use Rattle.signed.specs.Machine.{read_le}
use Rattle.signed.specs.Opposite.{minus_fits, minus_read, sign_natural, sign_negative}
use Rattle.signed.proofs.with_sign.Goals as goal

pub returns-then-s-ge0 : goal.returns-then-s-ge0
returns-then-s-ge0 c = to_z_pos w64 _ c.requires ∙ sign_natural c.args.s _ (read_le w64 (pos 0) c.args.s true c.ranges.s c.if-s-ge0.true)

pub overflow_sub-result : goal.overflow_sub-result
overflow_sub-result c = subst (SFits w64) (sym (minus_read c.args.c c.requires)) (minus_fits (pos c.args.c) (record { sfits = c.requires }) (le_z_yes tt))

pub returns : goal.returns
returns c = to_z-of_z w64 _ (overflow_sub-result c) ∙ minus_read c.args.c c.requires ∙ sign_negative c.args.s _ (read_le w64 (pos 0) c.args.s false c.ranges.s c.if-s-ge0.false)
