-- Whether bytes are a block: numbers 21 and 5. Its records are all there, so none is short (12).
use Rattle.std.specs.Prelude.{ℕ, ◌+◌, List, Bool, false, ◌&&◌, cond, length, drop, eqb, ltb, leb}
use Rattle.lists.specs.Tests.{all_to}
use Rattle.record.specs.Check.{head_at, rises}
use Rattle.block.specs.Block.{most_records}
use Rattle.block.specs.Places.{counts_length, record_count, entry_total, header_at, block_length, reads_at, writes_at, entries_to}

-- number 21: "not 1 to 64 records .. or counts that disagree with each other or the length"
unfoldable pub shape_of : List ℕ → Bool
shape_of b =
    leb 1 (record_count b) && leb (record_count b) most_records && eqb (length b) (block_length (record_count b) (entry_total b))

unfoldable pub counts_agree : List ℕ → Bool
counts_agree b =
    cond (ltb (length b) counts_length) false (cond (shape_of b) (eqb (entries_to b (record_count b)) (entry_total b)) false)

-- number 5: the rules of a record, header and addresses being apart: the header starts at h, the addresses at a
unfoldable pub record_fits : List ℕ → ℕ → ℕ → Bool
record_fits b h a = head_at (drop h b) && rises b a (reads_at b h) && rises b (a + reads_at b h) (writes_at b h)

unfoldable pub record_fits_at : List ℕ → ℕ → Bool
record_fits_at b i = record_fits b (header_at i) (header_at (record_count b) + entries_to b i)

unfoldable pub all_fit : List ℕ → Bool
all_fit b = all_to (record_fits_at b) (record_count b)

-- the number of a block: 21, then 5, else 0. Its records are all there, so none is short (12)
unfoldable pub block_number : List ℕ → ℕ
block_number b = cond (counts_agree b) (cond (all_fit b) 0 5) 21

-- "The reader looks up one record of a block, by its place from 0": number 21 for "a place beyond them" too
unfoldable pub place_number : List ℕ → ℕ → ℕ
place_number b i = cond (counts_agree b) (cond (ltb i (record_count b)) (cond (all_fit b) 0 5) 21) 21
