-- Where a block of c records and t entries has what, and what its counts say.
use Rattle.std.specs.Prelude.{ℕ, zero, suc, ◌+◌, ◌*◌, List}
use Rattle.le.specs.Le.{u16_at}
use Rattle.layout.specs.Record.{header_length, value_length}
use Rattle.record.specs.Check.{read_count_from, write_count_from}

-- "the record count and total entry count, 2 bytes each"
abbrev pub record_count_from : ℕ
record_count_from = 0

abbrev pub entry_total_from : ℕ
entry_total_from = record_count_from + 2

abbrev pub counts_length : ℕ
counts_length = entry_total_from + 2

abbrev pub record_count : List ℕ → ℕ
record_count b = u16_at b record_count_from

abbrev pub entry_total : List ℕ → ℕ
entry_total b = u16_at b entry_total_from

-- "all headers": header i; behind the last one "all addresses"
abbrev pub header_at : ℕ → ℕ
header_at i = counts_length + header_length * i

-- "then the values in eight planes": byte k of value j stands at planes_at c t + k * t + j
abbrev pub planes_at : ℕ → ℕ → ℕ
planes_at c t = header_at c + t

abbrev pub block_length : ℕ → ℕ → ℕ
block_length c t = planes_at c t + value_length * t

-- the reads, and the writes, of the record whose header starts at `at`
abbrev pub reads_at : List ℕ → ℕ → ℕ
reads_at s at = u16_at s (at + read_count_from)

abbrev pub writes_at : List ℕ → ℕ → ℕ
writes_at s at = u16_at s (at + write_count_from)

-- its entries
unfoldable pub size_at : List ℕ → ℕ → ℕ
size_at s at = reads_at s at + writes_at s at

-- the entries of the first i records of a block
unfoldable pub entries_to : List ℕ → ℕ → ℕ
entries_to b zero = 0
entries_to b (suc i) = entries_to b i + size_at b (header_at i)
