-- The pages of a record's reads and writes, said three ways: the line's `usedPage`, its entries, and the mask of its addresses' bytes.
use Rattle.std.specs.Prelude.{ℕ, ◌/◌, Bool, false, ◌||◌, List, [], ◌∷◌, eqb}
use Rattle.layout.specs.Record.{Entry}
use Rattle.line.specs.Messages.{address}

-- an entry stands on page p
abbrev pub on_page : List Entry → ℕ → Bool
on_page [] p = false
on_page (e ∷ es) p = eqb p (e.address / 8) || on_page es p
