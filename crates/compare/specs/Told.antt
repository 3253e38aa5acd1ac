-- The answer as C takes it: a number, the order and the commit in two lent numbers.
use Rattle.std.specs.Prelude.{ℕ, ◌≡◌}
use Rattle.std.proofs.Common.{sym, ap, ◌∙◌}
use Rattle.compare.specs.declared.Order.{Order}
use Rattle.compare.specs.declared.Order.TheVariants.{Same, FirstEarly, SecondEarly, Parts, Refused}

pub record Told : Type 0 where
  pub order : ℕ
  pub commit : ℕ
  pub number : ℕ

abbrev pub told : ℕ → ℕ → ℕ → Told
told o c k = record { order = o; commit = c; number = k }

-- o and c are what was lent
unfoldable pub told_of : ℕ → ℕ → Order → Told
told_of o c Same = told 0 0 0
told_of o c FirstEarly = told 1 0 0
told_of o c SecondEarly = told 2 0 0
told_of o c (Parts n) = told 3 n 0
told_of o c (Refused k) = told o c k

-- an answer that is this one
pub tells : (o c : ℕ) (y : Order) {r x : Order} → r ≡ y → r ≡ x → told_of o c y ≡ told_of o c x
tells o c y e h = ap (told_of o c) (sym e ∙ h)
