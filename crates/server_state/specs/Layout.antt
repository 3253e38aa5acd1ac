-- Where each field of the server's state stands: docs/STATE.md, "The server's state", as a table of regions. Places and length follow
-- from it and stand nowhere else. By address, by page, by station; a station's waiting entry by that station.
use Rattle.std.specs.Prelude.{ℕ, suc, ◌+◌, ◌*◌, ◌/◌, ◌%◌, ◌^◌, List, [], ◌∷◌, Bool, not, ◌&&◌, ◌||◌, length, get_or, eqb}
use Rattle.std.specs.Int.Bits.{bit_and, bit_or}
use Rattle.le.specs.Le.{u32_at, u64_at}
use Rattle.cells.specs.Cells.{Region, region, reg, base}
use Rattle.kinds.specs.Kinds.{locking, keeps}
use Rattle.station_state.specs.Layout.{value_width, number_width, page_set_width, has_bit}

-- of an age or an arrival; what a station has too is as wide as there
abbrev pub age_width : ℕ
age_width = 8

-- width, rows, columns; one behind the other
abbrev pub table : List Region
table =
    region value_width 1 256  -- value
    ∷ region value_width 8 256  -- read value
    ∷ region value_width 8 256  -- written value
    ∷ region age_width 8 1  -- age
    ∷ region age_width 8 1  -- arrival
    ∷ region age_width 1 1  -- next age
    ∷ region age_width 1 1  -- next arrival
    ∷ region number_width 1 256  -- version
    ∷ region number_width 8 256  -- read version
    ∷ region number_width 8 256  -- written version
    ∷ region number_width 8 1  -- work
    ∷ region number_width 8 1  -- latest
    ∷ region page_set_width 8 1  -- listed
    ∷ region number_width 1 1  -- last
    ∷ region page_set_width 1 1  -- asked
    ∷ region number_width 1 32  -- whole for
    ∷ region 1 1 256  -- lock
    ∷ region 1 1 32  -- whole
    ∷ region 1 8 32  -- read set
    ∷ region 1 8 32  -- written set
    ∷ region 1 8 1  -- kind
    ∷ region 1 8 1  -- want
    ∷ region 1 8 1  -- request
    ∷ region 1 8 1  -- called
    ∷ region 1 8 1  -- pend
    ∷ region 1 8 1  -- busy
    ∷ region 1 8 1  -- unfinished
    ∷ region 1 8 1  -- age kept
    ∷ []

abbrev pub server_length : ℕ
server_length = base table (length table)

-- "each transaction gets a new age, 2^63 being out of range": of ages and arrivals
abbrev pub counter_limit : ℕ
counter_limit = 2 ^ 63

-- each region's position in it

abbrev pub value_cell : ℕ
value_cell = 0

abbrev pub read_value_cell : ℕ
read_value_cell = value_cell + 1

abbrev pub written_value_cell : ℕ
written_value_cell = read_value_cell + 1

abbrev pub age_cell : ℕ
age_cell = written_value_cell + 1

abbrev pub arrival_cell : ℕ
arrival_cell = age_cell + 1

abbrev pub next_age_cell : ℕ
next_age_cell = arrival_cell + 1

abbrev pub next_arrival_cell : ℕ
next_arrival_cell = next_age_cell + 1

abbrev pub version_cell : ℕ
version_cell = next_arrival_cell + 1

abbrev pub read_version_cell : ℕ
read_version_cell = version_cell + 1

abbrev pub written_version_cell : ℕ
written_version_cell = read_version_cell + 1

abbrev pub work_cell : ℕ
work_cell = written_version_cell + 1

abbrev pub latest_cell : ℕ
latest_cell = work_cell + 1

abbrev pub listed_cell : ℕ
listed_cell = latest_cell + 1

abbrev pub last_cell : ℕ
last_cell = listed_cell + 1

abbrev pub asked_cell : ℕ
asked_cell = last_cell + 1

abbrev pub whole_for_cell : ℕ
whole_for_cell = asked_cell + 1

abbrev pub lock_cell : ℕ
lock_cell = whole_for_cell + 1

abbrev pub whole_cell : ℕ
whole_cell = lock_cell + 1

abbrev pub read_set_cell : ℕ
read_set_cell = whole_cell + 1

abbrev pub written_set_cell : ℕ
written_set_cell = read_set_cell + 1

abbrev pub kind_cell : ℕ
kind_cell = written_set_cell + 1

abbrev pub want_cell : ℕ
want_cell = kind_cell + 1

abbrev pub request_cell : ℕ
request_cell = want_cell + 1

abbrev pub called_cell : ℕ
called_cell = request_cell + 1

abbrev pub pend_cell : ℕ
pend_cell = called_cell + 1

abbrev pub busy_cell : ℕ
busy_cell = pend_cell + 1

abbrev pub unfinished_cell : ℕ
unfinished_cell = busy_cell + 1

abbrev pub age_kept_cell : ℕ
age_kept_cell = unfinished_cell + 1

-- the bytes of a row: a station's values and its versions by address, an object set for each page; of a page's eight values, and of its versions
abbrev row_of : ℕ → ℕ
row_of k = (reg table k).cols * (reg table k).w

abbrev pub value_row : ℕ
value_row = row_of value_cell

abbrev pub page_row : ℕ
page_row = 8 * value_width

abbrev pub version_row : ℕ
version_row = row_of version_cell

abbrev pub page_version_row : ℕ
page_version_row = 8 * number_width

abbrev pub set_row : ℕ
set_row = row_of read_set_cell

-- where each field begins, and what stands there

-- by address
abbrev pub value_from : ℕ
value_from = base table value_cell

-- of the eight of a page
abbrev pub page_values_from : ℕ → ℕ
page_values_from p = value_from + p * page_row

abbrev pub value_of : List ℕ → ℕ → ℕ
value_of s a = u64_at s (value_from + a * value_width)

-- a waiting commit's values, by station and address
abbrev pub read_values_from : ℕ → ℕ
read_values_from i = base table read_value_cell + i * value_row

abbrev pub written_values_from : ℕ → ℕ
written_values_from i = base table written_value_cell + i * value_row

-- by station
abbrev pub age_from : ℕ
age_from = base table age_cell

abbrev pub age_of : List ℕ → ℕ → ℕ
age_of s i = u64_at s (age_from + i * age_width)

abbrev pub arrival_from : ℕ
arrival_from = base table arrival_cell

abbrev pub arrival_of : List ℕ → ℕ → ℕ
arrival_of s i = u64_at s (arrival_from + i * age_width)

-- the counters: the next age, the next arrival
abbrev pub next_age_from : ℕ
next_age_from = base table next_age_cell

abbrev pub ages_of : List ℕ → ℕ
ages_of s = u64_at s next_age_from

abbrev pub next_arrival_from : ℕ
next_arrival_from = base table next_arrival_cell

abbrev pub arrivals_of : List ℕ → ℕ
arrivals_of s = u64_at s next_arrival_from

-- by address
abbrev pub version_from : ℕ
version_from = base table version_cell

-- of the eight of a page
abbrev pub page_versions_from : ℕ → ℕ
page_versions_from p = version_from + p * page_version_row

abbrev pub version_of : List ℕ → ℕ → ℕ
version_of s a = u32_at s (version_from + a * number_width)

-- a waiting commit's versions, by station and address: of what it read, and of what it wrote; and its transaction
abbrev pub read_versions_from : ℕ → ℕ
read_versions_from i = base table read_version_cell + i * version_row

abbrev pub read_version : List ℕ → ℕ → ℕ → ℕ
read_version s i a = u32_at s (read_versions_from i + a * number_width)

abbrev pub written_versions_from : ℕ → ℕ
written_versions_from i = base table written_version_cell + i * version_row

abbrev pub written_version : List ℕ → ℕ → ℕ → ℕ
written_version s i a = u32_at s (written_versions_from i + a * number_width)

abbrev pub work_from : ℕ
work_from = base table work_cell

abbrev pub work_number : List ℕ → ℕ → ℕ
work_number s i = u32_at s (work_from + i * number_width)

-- "latest transaction seen of the station"
abbrev pub latest_from : ℕ
latest_from = base table latest_cell

abbrev pub latest_of : List ℕ → ℕ → ℕ
latest_of s i = u32_at s (latest_from + i * number_width)

-- page set: the station is listed as holding the page
abbrev pub listed_from : ℕ
listed_from = base table listed_cell

abbrev pub listed_of : List ℕ → ℕ → ℕ
listed_of s i = u32_at s (listed_from + i * page_set_width)

-- the last commit number
abbrev pub last_from : ℕ
last_from = base table last_cell

abbrev pub last_of : List ℕ → ℕ
last_of s = u32_at s last_from

-- page set: 19 was sent for the present 18
abbrev pub asked_from : ℕ
asked_from = base table asked_cell

abbrev pub asked_of : List ℕ → ℕ
asked_of s = u32_at s asked_from

-- the transaction that the page's present whole lock was given to, 0 for none
abbrev pub whole_for_from : ℕ
whole_for_from = base table whole_for_cell

abbrev pub whole_for_of : List ℕ → ℕ → ℕ
whole_for_of s p = u32_at s (whole_for_from + p * number_width)

-- a lock's holder: 0 for none, i + 1 for station i; by address, by page
abbrev pub lock_from : ℕ
lock_from = base table lock_cell

abbrev pub lock_of : List ℕ → ℕ → ℕ
lock_of s a = get_or s (lock_from + a) 0

abbrev pub whole_from : ℕ
whole_from = base table whole_cell

abbrev pub whole_of : List ℕ → ℕ → ℕ
whole_of s p = get_or s (whole_from + p) 0

-- object sets by page that a waiter wants to read, and to write
abbrev pub read_set_from : ℕ → ℕ
read_set_from i = base table read_set_cell + i * set_row

abbrev pub written_set_from : ℕ → ℕ
written_set_from i = base table written_set_cell + i * set_row

abbrev pub read_set : List ℕ → ℕ → ℕ → ℕ
read_set s i p = get_or s (read_set_from i + p) 0

abbrev pub written_set : List ℕ → ℕ → ℕ → ℕ
written_set s i p = get_or s (written_set_from i + p) 0

abbrev pub kind_from : ℕ
kind_from = base table kind_cell

abbrev pub kind_of : List ℕ → ℕ → ℕ
kind_of s i = get_or s (kind_from + i) 0

-- 0 nothing, 1 a read, 2 a write, 3 a commit
abbrev pub want_from : ℕ
want_from = base table want_cell

abbrev pub want_of : List ℕ → ℕ → ℕ
want_of s i = get_or s (want_from + i) 0

-- the address requested
abbrev pub request_from : ℕ
request_from = base table request_cell

abbrev pub request_of : List ℕ → ℕ → ℕ
request_of s i = get_or s (request_from + i) 0

-- 1 when its 20s were sent
abbrev pub called_from : ℕ
called_from = base table called_cell

abbrev pub called_of_lem : List ℕ → ℕ → ℕ
called_of_lem s i = get_or s (called_from + i) 0

-- station sets: those that owe a 7, and those of them that sent 6
abbrev pub pend_from : ℕ
pend_from = base table pend_cell

abbrev pub pend_of : List ℕ → ℕ → ℕ
pend_of s i = get_or s (pend_from + i) 0

abbrev pub busy_from : ℕ
busy_from = base table busy_cell

abbrev pub busy_of : List ℕ → ℕ → ℕ
busy_of s i = get_or s (busy_from + i) 0

-- 1 while the latest transaction is unfinished
abbrev pub unfinished_from : ℕ
unfinished_from = base table unfinished_cell

abbrev pub unfinished_of : List ℕ → ℕ → ℕ
unfinished_of s i = get_or s (unfinished_from + i) 0

-- 1 while the station keeps its age (wish 2)
abbrev pub age_kept_from : ℕ
age_kept_from = base table age_kept_cell

abbrev pub age_kept_of : List ℕ → ℕ → ℕ
age_kept_of s i = get_or s (age_kept_from + i) 0

-- small questions, as in crate line

abbrev pub locking_b : List ℕ → ℕ → Bool
locking_b s i = locking (kind_of s i)

abbrev pub keeps_b : List ℕ → ℕ → Bool
keeps_b s i = keeps (kind_of s i)

abbrev pub waits_b : List ℕ → ℕ → Bool
waits_b s i = not (eqb (want_of s i) 0)

-- the holder h is a station other than i
unfoldable pub other_b : ℕ → ℕ → Bool
other_b h i = not (eqb h 0) && not (eqb h (i + 1))

-- "a commit wants all that it read or wrote"
abbrev pub wanted_on : List ℕ → ℕ → ℕ → ℕ
wanted_on s i p = bit_or (read_set s i p) (written_set s i p)
