-- The record that the first of some bytes say, each field read at its place.
use Rattle.std.specs.Prelude.{ℕ, zero, suc, ◌+◌, ◌*◌, List, [], ◌∷◌, get_or}
use Rattle.le.specs.Le.{u64_at}
use Rattle.layout.specs.Record.{header_length, value_length, Entry, Record}
use Rattle.record.specs.Check.{read_count, write_count, commit_number, transaction_number, station_number, station_kind}

-- entry i of k: its address behind the header, its value behind the k addresses
abbrev pub entry_at : List ℕ → ℕ → ℕ → Entry
entry_at s k i = record { address = get_or s (header_length + i) 0; value = u64_at s (header_length + k + value_length * i) }

-- the c entries from entry i
unfoldable pub entries_at : List ℕ → ℕ → ℕ → ℕ → List Entry
entries_at s k i zero = []
entries_at s k i (suc c) = entry_at s k i ∷ entries_at s k (suc i) c

-- "Reads come first"
unfoldable pub record_of : List ℕ → Record
record_of s =
    record {
      reads = entries_at s (read_count s + write_count s) 0 (read_count s);
      writes = entries_at s (read_count s + write_count s) (read_count s) (write_count s);
      commit = commit_number s;
      transaction = transaction_number s;
      station = station_number s;
      kind = station_kind s;
    }
