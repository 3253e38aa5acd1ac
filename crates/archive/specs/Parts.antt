-- "The record's addresses start right behind its header, and its values right behind those": the parts of a record of k entries, and one entry.
use Rattle.std.specs.Prelude.{ℕ, ◌+◌, ◌*◌, ◌-◌, List, [], Bool, ◌&&◌, cond, length, take, drop, get_or, ltb, leb}
use Rattle.le.specs.Le.{u64_at}
use Rattle.archive.specs.declared.Found.{Found}
use Rattle.archive.specs.declared.Found.TheVariants.{Entry, Nothing}
use Rattle.layout.specs.Record.{header_length, value_length, entry_length}

-- a record of k entries at `at` ends within the archive
unfoldable pub holds_at : List ℕ → ℕ → ℕ → Bool
holds_at s at k = leb at (length s) && leb (header_length + entry_length * k) (length s - at)

-- the addresses, reads first; nothing where the archive has no such record
unfoldable pub address_part : List ℕ → ℕ → ℕ → List ℕ
address_part s at k = cond (holds_at s at k) (take k (drop (at + header_length) s)) []

-- the values, in the order of the addresses
unfoldable pub value_part : List ℕ → ℕ → ℕ → List ℕ
value_part s at k = cond (holds_at s at k) (take (value_length * k) (drop (at + header_length + k) s)) []

-- the address and the value of entry i
unfoldable pub entry_of : List ℕ → ℕ → ℕ → ℕ → Found
entry_of s at k i =
    cond (holds_at s at k) (cond (ltb i k) (Entry (get_or s (at + header_length + i) 0) (u64_at s (at + header_length + k + value_length * i))) Nothing) Nothing
