-- Reading a block, and looking up one record of it: number 1, then the block's own numbers, and the bytes.
use Rattle.std.specs.Prelude.{ℕ, zero, suc, ◌+◌, ◌-◌, ◌*◌, List, [], ◌∷◌, ◌++◌, cond, length, take, drop, get_or, eqb, ltb}
use Rattle.std.proofs.lemmas.List.Edits.{sets}
use Rattle.layout.specs.Record.{header_length, longest_record}
use Rattle.record.specs.Write.{Written, written}
use Rattle.block.specs.Places.{counts_length, record_count, entry_total, header_at, planes_at, size_at, entries_to}
use Rattle.block.specs.Check.{block_number, place_number}

-- a value, from its byte in the first plane on: a byte of each plane, the planes being t bytes long
unfoldable pub row : List ℕ → ℕ → ℕ → List ℕ
row b p t =
    get_or b p 0
    ∷ get_or b (p + t) 0 ∷ get_or b (p + 2 * t) 0 ∷ get_or b (p + 3 * t) 0 ∷ get_or b (p + 4 * t) 0 ∷ get_or b (p + 5 * t) 0 ∷ get_or b (p + 6 * t) 0 ∷ get_or b (p + 7 * t) 0 ∷ []

-- n values
unfoldable pub rows : List ℕ → ℕ → ℕ → ℕ → List ℕ
rows b p t zero = []
rows b p t (suc n) = rows b p t n ++ row b (p + n) t

-- the bytes of a record of k entries, whose header starts at h, addresses at a and values at p in the first plane
unfoldable pub record_at : List ℕ → ℕ → ℕ → ℕ → ℕ → ℕ → List ℕ
record_at b h a p t k = take header_length (drop h b) ++ (take k (drop a b) ++ rows b p t k)

-- the bytes of record i of a block
unfoldable pub record_in : List ℕ → ℕ → List ℕ
record_in b i =
    record_at b (header_at i) (header_at (record_count b) + entries_to b i) (planes_at (record_count b) (entry_total b) + entries_to b i) (entry_total b) (size_at b (header_at i))

-- the first i records, one behind the other
unfoldable pub records_to : List ℕ → ℕ → List ℕ
records_to b zero = []
records_to b (suc i) = records_to b i ++ record_in b i

-- "1 where output is under the input .. less 4 in reading"
unfoldable pub block_read_of : List ℕ → List ℕ → Written
block_read_of b o =
    cond (ltb (length o) (length b - counts_length)) (written o 1)
    (cond (eqb (block_number b) 0) (written (sets o 0 (records_to b (record_count b))) 0) (written o (block_number b)))

-- "1 where output is under .. 4,624 in look-up"
unfoldable pub block_record_of : List ℕ → ℕ → List ℕ → Written
block_record_of b i o =
    cond (ltb (length o) longest_record) (written o 1)
    (cond (eqb (place_number b i) 0) (written (sets o 0 (record_in b i)) 0) (written o (place_number b i)))
