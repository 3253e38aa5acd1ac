-- What a read behind the first bytes of a buffer brings.
use Rattle.std.specs.Prelude.{ℕ, ◌<◌, ◌≤◌, List, length, take, drop, Option, None, Some, Result, Ok, Err}
use Rattle.std.specs.Io.KnownBytes.{Consumes, Keeps, IsAtEnd}

-- behind `len` bytes come those that the reader had left, and the end only where it has none left or the buffer no room
abbrev pub Brings : {E : Type 0} → Option (List ℕ) → Option (List ℕ) → ℕ → List ℕ → Result (Option ℕ) E → Type 0
Brings old new len input (Ok (Some n)) = (len < n) × (n ≤ length input) × Consumes old new (drop len (take n input))
Brings old new len input (Ok None) = Keeps old new × (len < length input → IsAtEnd new)
Brings old new len input (Err _) = Keeps old new
