-- The header: what is read from it is what it was written with, and the other way round.
use Rattle.std.specs.Prelude.{ℕ, ◌+◌, ◌-◌, ◌^◌, ◌≤◌, ◌<◌, ◌≡◌, refl, List, [], ◌∷◌, ◌++◌, length, take, drop, get_or}
use Rattle.std.proofs.Common.{arith, drop-cons}
use Rattle.lists.specs.Bytes.{Bytes}
use Rattle.lists.specs.Parts.{part_join}
use Rattle.le.specs.Le.{u16_at, u32_at}
use Rattle.le.specs.Width.{bytes, bytes_num_at}
use Rattle.le.specs.Laws.{u16_at_is, u32_at_is}
use Rattle.layout.specs.Record.{header_length, header}
use Rattle.record.specs.Check.{read_count_from, write_count_from, commit_number_from, transaction_number_from, station_number_from, station_kind_from, zero_bytes_from, read_count, write_count, commit_number, transaction_number, station_number, station_kind}
use Rattle.record_meaning.specs.Head.{Head}

-- what the header was written with is read from it, whatever follows
pub header_read : (n m commit transaction station kind : ℕ) (rest : List ℕ) → n < 256 ^ 2 → m < 256 ^ 2 → commit < 256 ^ 4 → transaction < 256 ^ 4
    → Head n m commit transaction station kind (header n m commit transaction station kind ++ rest)
unfolding header bytes u16_at u32_at
header_read n m c t st k rest hn hm hc ht =
    record {
      reads = omega arith;
      writes = omega arith;
      commit_is = omega arith;
      transaction_is = omega arith;
      station_is = refl;
      kind_is = refl;
      zero_first = refl;
      zero_last = refl;
    }

-- the header with the numbers that are read from s is the first bytes of s
pub header_written : (s : List ℕ) → Bytes s → header_length ≤ length s → get_or s zero_bytes_from 0 ≡ 0 → get_or s (zero_bytes_from + 1) 0 ≡ 0
    → header (read_count s) (write_count s) (commit_number s) (transaction_number s) (station_number s) (station_kind s) ≡ take header_length s
unfolding header
header_written s hs h z₁ z₂ =
    let last : take 4 (drop station_number_from s) ≡ station_number s ∷ station_kind s ∷ 0 ∷ 0 ∷ [] =
    rw (drop-cons s station_number_from 0 (omega arith), drop-cons s station_kind_from 0 (omega arith), drop-cons s zero_bytes_from 0 (omega arith), drop-cons s (zero_bytes_from + 1) 0 (omega arith), z₁, z₂) in
    rw (
      u16_at_is s read_count_from,
      u16_at_is s write_count_from,
      u32_at_is s commit_number_from,
      u32_at_is s transaction_number_from,
      bytes_num_at 2 s read_count_from hs (omega arith),
      bytes_num_at 2 s write_count_from hs (omega arith),
      bytes_num_at 4 s commit_number_from hs (omega arith),
      bytes_num_at 4 s transaction_number_from hs (omega arith),
      ← last,
      part_join 2 (header_length - write_count_from) read_count_from s,
      part_join 2 (header_length - commit_number_from) write_count_from s,
      part_join 4 (header_length - transaction_number_from) commit_number_from s,
      part_join 4 (header_length - station_number_from) transaction_number_from s,
    )
