-- docs/PLAYBACK.md, "What is wrong, in words": what is wrong with the first record of some bytes, in checking order.
use Rattle.std.specs.Prelude.{ℕ, ◌+◌, ◌-◌, List, Bool, not, cond, length, get_or, eqb, ltb, leb}
use Rattle.layout.specs.Record.{header_length, most_entries}
use Rattle.record.specs.Check.{read_count_from, write_count_from, commit_number_from, transaction_number_from, station_number_from, station_kind_from, zero_bytes_from}
use Rattle.record.specs.Check.{read_count, write_count, commit_number, transaction_number, station_number, station_kind, length_of, rise_at, rises}
use Rattle.replay.specs.Replay.{address_at, value_from, value_at, read_agrees, reads_agree}
use Rattle.fault.specs.First.{first}
use Rattle.fault.specs.declared.Fault.{Fault}
use Rattle.fault.specs.declared.Fault.TheVariants.{Nothing, Cut, Header, Sizes, Reads, Writes, Transaction, Station, Kind, Zero, Order, Sequence, Read}
use Rattle.kinds.specs.Kinds.{most_kind}

-- the table's column "number"
abbrev pub number_of : Fault → ℕ
number_of Nothing = 0
number_of (Cut present size) = 12
number_of (Header present) = 12
number_of (Sizes present size) = 12
number_of (Reads n) = 5
number_of (Writes m) = 5
number_of Transaction = 5
number_of (Station s) = 5
number_of (Kind k) = 5
number_of (Zero at is) = 5
number_of (Order at before is) = 5
number_of (Sequence commit last) = 13
number_of (Read at address is left) = 14

-- its column "the fault's byte", counted from the record's first
abbrev pub place_of : Fault → ℕ
place_of Nothing = 0
place_of (Cut present size) = present
place_of (Header present) = present
place_of (Sizes present size) = present
place_of (Reads n) = read_count_from
place_of (Writes m) = write_count_from
place_of Transaction = transaction_number_from
place_of (Station s) = station_number_from
place_of (Kind k) = station_kind_from
place_of (Zero at is) = at
place_of (Order at before is) = at
place_of (Sequence commit last) = commit_number_from
place_of (Read at address is left) = at

-- "Where a record has several faults, the one that comes first in this table is named"
unfoldable pub or_else : Fault → Fault → Fault
or_else f g = cond (eqb (number_of f) 0) g f

-- a row of the table: the fault, unless the test holds
abbrev pub unless : Bool → Fault → Fault → Fault
unless ok f rest = cond ok rest f

-- "257 reads", "257 writes", "transaction 0"
unfoldable pub count_fault : List ℕ → Fault
count_fault t =
    unless (leb (read_count t) most_entries) (Reads (read_count t))
    (unless (leb (write_count t) most_entries) (Writes (write_count t)) (unless (not (eqb (transaction_number t) 0)) Transaction Nothing))

-- the second of a header's "two zero bytes"
abbrev pub last_zero_from : ℕ
last_zero_from = zero_bytes_from + 1

-- "station 9", "kind 3", "14 or 15, the first of them that is not 0"
unfoldable pub byte_fault : List ℕ → Fault
byte_fault t =
    unless (leb (station_number t) 7) (Station (station_number t))
    (unless (leb (station_kind t) most_kind) (Kind (station_kind t))
    (unless (eqb (get_or t zero_bytes_from 0) 0) (Zero zero_bytes_from (get_or t zero_bytes_from 0))
    (unless (eqb (get_or t last_zero_from 0) 0) (Zero last_zero_from (get_or t last_zero_from 0)) Nothing)))

-- the address behind the one at a + i
abbrev pub fall : List ℕ → ℕ → ℕ → Fault
fall t a i = Order (a + i + 1) (get_or t (a + i) 0) (get_or t (a + i + 1) 0)

-- "the first address that is not above the one before it", of the n from a
unfoldable pub order_fault : List ℕ → ℕ → ℕ → Fault
order_fault t a n = unless (rises t a n) (fall t a (first (rise_at t a) (n - 1))) Nothing

-- "reads first"
unfoldable pub address_fault : List ℕ → Fault
address_fault t = or_else (order_fault t header_length (read_count t)) (order_fault t (header_length + read_count t) (write_count t))

-- "commit 5 behind commit 2"
unfoldable pub sequence_fault : List ℕ → ℕ → Fault
sequence_fault t last = unless (eqb (commit_number t) (last + 1)) (Sequence (commit_number t) last) Nothing

-- read i of a record of k entries, and the value left at its address
abbrev pub differs : List ℕ → List ℕ → ℕ → ℕ → Fault
differs t v k i = Read (value_from k i) (address_at t i) (value_at t k i) (get_or v (address_at t i) 0)

-- "the value of the first read that differs"
unfoldable pub read_fault : List ℕ → List ℕ → Fault
read_fault t v =
    let k = read_count t + write_count t in
    unless (reads_agree t v) (differs t v k (first (read_agrees t v k) (read_count t))) Nothing

-- a record whose bytes are all there
unfoldable pub whole_fault : List ℕ → ℕ → List ℕ → Fault
whole_fault t last v =
    or_else (or_else (or_else (count_fault t) (byte_fault t)) (address_fault t)) (or_else (sequence_fault t last) (read_fault t v))

-- "the archive ends here": in a record, or in what no record can be
unfoldable pub cut_fault : List ℕ → ℕ → Fault
cut_fault t size =
    unless (leb (read_count t) most_entries) (Sizes (length t) size) (unless (leb (write_count t) most_entries) (Sizes (length t) size) (Cut (length t) size))

-- before any other fault
unfoldable pub fault_of : List ℕ → ℕ → List ℕ → Fault
fault_of t last v =
    cond (ltb (length t) header_length) (Header (length t))
    (cond (ltb (length t) (length_of t)) (cut_fault t (length_of t)) (whole_fault t last v))
