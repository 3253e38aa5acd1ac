-- What record check and record writer answer, from what the bytes and the arguments are.
use Rattle.std.specs.Prelude.{ℕ, ◌+◌, ◌≡◌, List, get_or}
use Rattle.std.proofs.Math.Bool.{true}
use Rattle.layout.specs.Record.{header_length}
use Rattle.record.specs.Check.{zero_bytes_from, read_count, write_count, transaction_number, station_number, station_kind, rises}
use Rattle.record.specs.Facts.{HeadFits}

-- what a layout that is not broken tells
pub record LaidOut (s : List ℕ) : Type 0 where
  pub head : HeadFits (read_count s) (write_count s) (transaction_number s) (station_number s) (station_kind s)
  pub zero_first : get_or s zero_bytes_from 0 ≡ 0
  pub zero_last : get_or s (zero_bytes_from + 1) 0 ≡ 0
  pub reads_rise : rises s header_length (read_count s) ≡ true
  pub writes_rise : rises s (header_length + read_count s) (write_count s) ≡ true
