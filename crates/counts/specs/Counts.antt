-- The counts of a record (docs/COUNTS.md): "commit number, addresses written and values" (document 02, wish 8), as bytes.
use Rattle.std.specs.Prelude.{ℕ, ◌+◌, ◌*◌, List, ◌++◌, take, drop}
use Rattle.le.specs.Width.{bytes}
use Rattle.layout.specs.Record.{header_length, value_length, entry_length, most_entries}
use Rattle.record.specs.Check.{read_count, write_count, commit_number}

-- "commit number (4 bytes), writes m (2)"; then m addresses of one byte and m values of 8
abbrev pub counts_header_length : ℕ
counts_header_length = 6

abbrev pub counts_length : ℕ → ℕ
counts_length m = counts_header_length + entry_length * m

abbrev pub longest_counts : ℕ
longest_counts = counts_length most_entries

unfoldable pub counts_head : ℕ → ℕ → List ℕ
counts_head commit m = bytes 4 commit ++ bytes 2 m

-- of the record at the start of t: the addresses behind those read, and the values behind those read
unfoldable pub written_addresses : List ℕ → List ℕ
written_addresses t = take (write_count t) (drop (header_length + read_count t) t)

unfoldable pub written_values : List ℕ → List ℕ
written_values t = take (value_length * write_count t) (drop (header_length + read_count t + write_count t + value_length * read_count t) t)

unfoldable pub counts_of : List ℕ → List ℕ
counts_of t = counts_head (commit_number t) (write_count t) ++ (written_addresses t ++ written_values t)

-- an output that begins with them
unfoldable pub counts_on : List ℕ → List ℕ → List ℕ
counts_on t o = counts_of t ++ drop (counts_length (write_count t)) o
