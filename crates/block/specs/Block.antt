-- Document 02, wish 13, "Blocks laid out by column": which records make a block, and its bytes.
use Rattle.std.specs.Prelude.{ℕ, zero, suc, ◌≤◌, List, [], ◌∷◌, ◌++◌, length, get_or}
use Rattle.le.specs.Width.{bytes}
use Rattle.layout.specs.Record.{value_length, Entry, Record, AllWellFormed, entries, header, addresses}

-- "Store 1 to 64 records as a block"
abbrev pub most_records : ℕ
most_records = 64

pub record Blocked (rs : List Record) : Type 0 where
  pub some : 1 ≤ length rs
  pub at_most : length rs ≤ most_records
  pub well_formed : AllWellFormed rs

-- the entries of all records, in order
abbrev pub all_entries : List Record → List Entry
all_entries [] = []
all_entries (r ∷ rs) = entries r ++ all_entries rs

-- "all headers"
abbrev pub headers : List Record → List ℕ
headers [] = []
headers (r ∷ rs) = header (length r.reads) (length r.writes) r.commit r.transaction r.station r.kind ++ headers rs

-- byte k of each value, the lowest byte being byte 0
abbrev pub plane : List Entry → ℕ → List ℕ
plane [] k = []
plane (e ∷ es) k = get_or (bytes value_length e.value) k 0 ∷ plane es k

-- f 0, f 1, .. f (n - 1), one behind the other
abbrev pub joined : (ℕ → List ℕ) → ℕ → List ℕ
joined f zero = []
joined f (suc n) = f 0 ++ joined (λ k. f (suc k)) n

-- "the record count and total entry count, 2 bytes each; all headers; all addresses; then the values in eight planes, lowest bytes
-- of all values first"
unfoldable pub block_of : List Record → List ℕ
block_of rs =
    bytes 2 (length rs)
    ++ (bytes 2 (length (all_entries rs)) ++ (headers rs ++ (addresses (all_entries rs) ++ joined (plane (all_entries rs)) value_length)))
