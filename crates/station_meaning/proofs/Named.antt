-- The addresses that 32 object sets by page name.
use Rattle.std.specs.Prelude.{ℕ, ◌<◌, ◌/◌, ◌%◌, ◌≡◌, List, get_or}
use Rattle.std.proofs.Common.{lt-ltb}
use Rattle.cells.specs.Bits.{tb}
use Rattle.station_meaning.specs.Named.{named}

-- an address on one of the pages
pub named_at : (sets : List ℕ) (a : ℕ) → a / 8 < 32 → named sets a ≡ tb (get_or sets (a / 8) 0) (a % 8)
named_at sets a l = rw (lt-ltb (a / 8) 32 l)
