-- Record check: the first record of some bytes, number 12, then number 5, else 0.
use Rattle.std.specs.Prelude.{ℕ, ◌+◌, ◌-◌, List, Bool, ◌&&◌, not, cond, length, get_or, eqb, ltb, leb}
use Rattle.lists.specs.Tests.{all_to}
use Rattle.le.specs.Le.{u16_at, u32_at}
use Rattle.layout.specs.Record.{header_length, most_entries, record_length}
use Rattle.kinds.specs.Kinds.{most_kind}

-- the fields of a record, at their places: "sizes first: reads n (2 bytes), writes m (2), commit number (4), transaction (4), station (1), its kind (1)"
abbrev pub read_count_from : ℕ
read_count_from = 0

abbrev pub write_count_from : ℕ
write_count_from = read_count_from + 2

abbrev pub commit_number_from : ℕ
commit_number_from = write_count_from + 2

abbrev pub transaction_number_from : ℕ
transaction_number_from = commit_number_from + 4

abbrev pub station_number_from : ℕ
station_number_from = transaction_number_from + 4

abbrev pub station_kind_from : ℕ
station_kind_from = station_number_from + 1

-- "two zero bytes"
abbrev pub zero_bytes_from : ℕ
zero_bytes_from = station_kind_from + 1

abbrev pub read_count : List ℕ → ℕ
read_count s = u16_at s read_count_from

abbrev pub write_count : List ℕ → ℕ
write_count s = u16_at s write_count_from

abbrev pub commit_number : List ℕ → ℕ
commit_number s = u32_at s commit_number_from

abbrev pub transaction_number : List ℕ → ℕ
transaction_number s = u32_at s transaction_number_from

abbrev pub station_number : List ℕ → ℕ
station_number s = get_or s station_number_from 0

abbrev pub station_kind : List ℕ → ℕ
station_kind s = get_or s station_kind_from 0

-- the length that a record's own sizes give it
abbrev pub length_of : List ℕ → ℕ
length_of s = record_length (read_count s) (write_count s)

-- the bytes that a record claims, as far as its own tell: a header where that is not whole
unfoldable pub claimed_length : List ℕ → ℕ
claimed_length s = cond (ltb (length s) header_length) header_length (length_of s)

-- "n and m are 0 to 256"; "(also station above 7, kind above 1, transaction 0)", the kind as wish 10 has it
unfoldable pub head_ok_lem : ℕ → ℕ → ℕ → ℕ → ℕ → Bool
head_ok_lem n m transaction station kind = leb n most_entries && leb m most_entries && not (eqb transaction 0) && leb station 7 && leb kind most_kind

-- the header: its numbers, and "two zero bytes"
unfoldable pub head_at : List ℕ → Bool
head_at s =
    head_ok_lem (read_count s) (write_count s) (transaction_number s) (station_number s) (station_kind s) && eqb (get_or s zero_bytes_from 0) 0 && eqb (get_or s (zero_bytes_from + 1) 0) 0

-- the address at a + i is below the one behind it
unfoldable pub rise_at : List ℕ → ℕ → ℕ → Bool
rise_at s a i = ltb (get_or s (a + i) 0) (get_or s (a + i + 1) 0)

-- "addresses rise strictly": the n addresses from a
unfoldable pub rises : List ℕ → ℕ → ℕ → Bool
rises s a n = all_to (rise_at s a) (n - 1)

-- "within reads and within writes": the addresses start right behind the header, reads first
unfoldable pub addresses_rise : List ℕ → Bool
addresses_rise s = rises s header_length (read_count s) && rises s (header_length + read_count s) (write_count s)

-- the layout of a record whose bytes are all there
abbrev pub laid_out_lem : List ℕ → Bool
laid_out_lem s = head_at s && addresses_rise s

-- "the check takes the first record of its bytes (12, then 5)"
unfoldable pub check_of : List ℕ → ℕ
check_of s = cond (ltb (length s) header_length) 12 (cond (ltb (length s) (length_of s)) 12 (cond (laid_out_lem s) 0 5))
