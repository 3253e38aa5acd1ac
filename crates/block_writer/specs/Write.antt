-- Writing a block: number 1, then 21, 12 and 5, and the bytes.
use Rattle.std.specs.Prelude.{ℕ, zero, suc, ◌+◌, ◌*◌, List, [], ◌∷◌, ◌++◌, cond, length, take, drop, get_or, eqb, ltb, ◌≡◌, Result, Ok, Err}
use Rattle.std.proofs.lemmas.List.Edits.{sets}
use Rattle.le.specs.Width.{bytes}
use Rattle.layout.specs.Record.{header_length, value_length, record_length}
use Rattle.record.specs.Check.{check_of}
use Rattle.record.specs.Write.{Written, written}
use Rattle.block.specs.Block.{most_records, joined}
use Rattle.block.specs.Places.{counts_length, size_at}
use Rattle.refusals.specs.declared.Refusal.{Refusal}
use Rattle.refusals.specs.Refusals.{number_of}
use Rattle.block_writer.specs.declared.Counts.{Counts}

-- the number, and the records and entries before the end or before the one that is refused
pub record Scanned : Type 0 where
  pub number : ℕ
  pub count : ℕ
  pub total : ℕ

abbrev pub scanned : ℕ → ℕ → ℕ → Scanned
scanned k c t = record { number = k; count = c; total = t }

-- record by record, from `at` on, where room is left for so many more: "21 .. in writing at a 65th record", then what record check says
unfoldable pub scan_from : ℕ → List ℕ → ℕ → ℕ → ℕ → Scanned
scan_from zero s at i e = cond (ltb at (length s)) (scanned 21 i e) (scanned 0 i e)
scan_from (suc room) s at i e =
    cond (ltb at (length s))
    (cond (eqb (check_of (drop at s)) 0) (scan_from room s (at + record_length (size_at s at) 0) (suc i) (e + size_at s at)) (scanned (check_of (drop at s)) i e))
    (scanned 0 i e)

-- "not 1 to 64 records": no record at all
unfoldable pub scan_of : List ℕ → Scanned
scan_of s = cond (eqb (length s) 0) (scanned 21 0 0) (scan_from most_records s 0 0 0)

-- the code's answer to a scan, which counts nothing where it refuses
abbrev pub Finds : Result Counts Refusal → Scanned → Type 0
Finds (Ok n) x = scanned 0 n.records n.entries ≡ x
Finds (Err why) x = number_of why ≡ x.number

-- where record i starts
unfoldable pub start_of : List ℕ → ℕ → ℕ
start_of s zero = 0
start_of s (suc i) = start_of s i + record_length (size_at s (start_of s i)) 0

-- the entries of the first i records
unfoldable pub entries_in : List ℕ → ℕ → ℕ
entries_in s zero = 0
entries_in s (suc i) = entries_in s i + size_at s (start_of s i)

-- "all headers": of the first i records
unfoldable pub headers_to : List ℕ → ℕ → List ℕ
headers_to s zero = []
headers_to s (suc i) = headers_to s i ++ take header_length (drop (start_of s i) s)

-- "all addresses"
unfoldable pub addresses_to : List ℕ → ℕ → List ℕ
addresses_to s zero = []
addresses_to s (suc i) = addresses_to s i ++ take (size_at s (start_of s i)) (drop (start_of s i + header_length) s)

-- the first byte of each of n values, from `at` on
unfoldable pub column : List ℕ → ℕ → ℕ → List ℕ
column s at zero = []
column s at (suc n) = column s at n ++ (get_or s (at + value_length * n) 0 ∷ [])

-- byte k of each value of the first i records: the values stand behind header and addresses
unfoldable pub plane_to : List ℕ → ℕ → ℕ → List ℕ
plane_to s zero k = []
plane_to s (suc i) k = plane_to s i k ++ column s (start_of s i + header_length + size_at s (start_of s i) + k) (size_at s (start_of s i))

-- "the record count and total entry count, 2 bytes each; all headers; all addresses; then the values in eight planes"
unfoldable pub packed : List ℕ → ℕ → ℕ → List ℕ
packed s c t = bytes 2 c ++ (bytes 2 t ++ (headers_to s c ++ (addresses_to s c ++ joined (plane_to s c) value_length)))

-- "1 where output is under the input plus 4 in writing"
unfoldable pub block_write_of : List ℕ → List ℕ → Written
block_write_of s o =
    cond (ltb (length o) (length s + counts_length)) (written o 1)
    (cond (eqb (scan_of s).number 0) (written (sets o 0 (packed s (scan_of s).count (scan_of s).total)) 0) (written o (scan_of s).number))
