-- The layout's bytes: how many they are, that they are bytes, and where each part stands.
use Rattle.std.specs.Prelude.{ℕ, ◌+◌, ◌*◌, ◌≡◌, List, ◌++◌, length, drop}
use Rattle.layout.specs.Record.{header_length, value_length, Record, entries, addresses, values}

-- where the entries' parts stand in bytes that begin with the record's
pub record Places (r : Record) (rest s : List ℕ) : Type 0 where
  pub reads_at : drop header_length s ≡ addresses r.reads ++ (addresses r.writes ++ (values (entries r) ++ rest))
  pub writes_at : drop (header_length + length r.reads) s ≡ addresses r.writes ++ (values (entries r) ++ rest)
  pub read_values_at : drop (header_length + (length r.reads + length r.writes)) s ≡ values r.reads ++ (values r.writes ++ rest)
  pub write_values_at : drop (header_length + (length r.reads + length r.writes) + value_length * length r.reads) s ≡ values r.writes ++ rest
