-- The header: what is read from it is what it was written with, and the other way round.
use Rattle.std.specs.Prelude.{ℕ, ◌+◌, ◌≡◌, List, get_or}
use Rattle.record.specs.Check.{zero_bytes_from, read_count, write_count, commit_number, transaction_number, station_number, station_kind}

-- these numbers stand in the header of s
pub record Head (n m commit transaction station kind : ℕ) (s : List ℕ) : Type 0 where
  pub reads : read_count s ≡ n
  pub writes : write_count s ≡ m
  pub commit_is : commit_number s ≡ commit
  pub transaction_is : transaction_number s ≡ transaction
  pub station_is : station_number s ≡ station
  pub kind_is : station_kind s ≡ kind
  pub zero_first : get_or s zero_bytes_from 0 ≡ 0
  pub zero_last : get_or s (zero_bytes_from + 1) 0 ≡ 0
