-- `fault::or_else` meets its contract.
use Rattle.std.proofs.Common.{◌≡◌, refl, sym, subst}
use Rattle.fault.specs.declared.Fault.{Fault}
use Rattle.fault.specs.declared.Fault.TheVariants.{Nothing, Cut, Header, Sizes, Reads, Writes, Transaction, Station, Kind, Zero, Order, Sequence, Read}
use Rattle.fault.specs.Fault.{or_else}
use Rattle.fault.proofs.or_else.Goals as goal

-- `Nothing` alone has no number
kept : (f g : Fault) → (f ≡ Nothing → ⊥) → f ≡ or_else f g
unfolding or_else
kept Nothing g h = absurd (h refl)
kept (Cut present size) g h = refl
kept (Header present) g h = refl
kept (Sizes present size) g h = refl
kept (Reads n) g h = refl
kept (Writes m) g h = refl
kept Transaction g h = refl
kept (Station s) g h = refl
kept (Kind k) g h = refl
kept (Zero at is) g h = refl
kept (Order at before is) g h = refl
kept (Sequence commit last) g h = refl
kept (Read at address is left) g h = refl

next : (g : Fault) → g ≡ or_else Nothing g
unfolding or_else
next g = refl

pub returns-in-Nothing : goal.returns-in-Nothing
returns-in-Nothing c = subst (λ f. c.args.next ≡ or_else f c.args.next) (sym c.in-Nothing.is) (next c.args.next)

pub returns-in_default : goal.returns-in_default
returns-in_default c = kept c.args.first c.args.next c.in_default.not-Nothing
