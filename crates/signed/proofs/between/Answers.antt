-- `signed::between` meets its contract.
use mathlib.Core.Path.{ap, ◌∙◌}
use borrow.Author.Tests.{lt-ltb, le-ltb}
use mir.Syntax.{w64}
use mir.ValLaws.{to_z-of_z}
use Rattle.signed.specs.Change.{change_of}
use Rattle.signed.specs.declared.Change.TheVariants.{By}
use Rattle.signed.proofs.between.Goals as goal

pub returns-then-new-gt9223372036854775807 : goal.returns-then-new-gt9223372036854775807
unfolding change_of
returns-then-new-gt9223372036854775807 c = simp (lt-ltb _ _ c.if-new-gt9223372036854775807.true)

pub returns-then-old-gt9223372036854775807 : goal.returns-then-old-gt9223372036854775807
unfolding change_of
returns-then-old-gt9223372036854775807 c = simp (le-ltb _ _ c.if-new-gt9223372036854775807.false, lt-ltb _ _ c.if-old-gt9223372036854775807.true)

pub returns : goal.returns
unfolding change_of
returns c = simp (le-ltb _ _ c.if-new-gt9223372036854775807.false, le-ltb _ _ c.if-old-gt9223372036854775807.false) (ap By (to_z-of_z w64 _ (record { sfits = c.difference.type_inv }) ∙ c.difference.ensures))
