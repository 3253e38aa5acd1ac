-- A call's answer is document 02's: for every archive, table, stretch and address.
use Rattle.std.specs.Prelude.{ℤ}
use Rattle.licence.specs.Fee.{Billed, billed}
use Rattle.licence_terms.specs.Licence.{Licence, owes, refused}

-- what a call tells its host: x and y are what was lent
abbrev pub answered : ℤ → ℤ → Licence → Billed
answered x y (owes n c) = billed n c 0
answered x y (refused k) = billed x y k
