-- How many records write a counter, as document 01 has records, and that the count of the bytes is this.
use Rattle.std.specs.Prelude.{ℕ, ◌+◌, List, [], ◌∷◌, Bool, true, false, cond, eqb}
use Rattle.layout.specs.Record.{Entry, Record}
use Rattle.totals.specs.Writers.{writes}

-- one of these entries is of address a
abbrev pub writes_to : ℕ → List Entry → Bool
writes_to a [] = false
writes_to a (e ∷ es) = cond (eqb e.address a) true (writes_to a es)

-- "how many records wrote it"
abbrev pub writers_of : ℕ → List Record → ℕ
writers_of a [] = 0
writers_of a (r ∷ rs) = cond (writes_to a r.writes) 1 0 + writers_of a rs
