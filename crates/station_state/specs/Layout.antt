-- Where each field of a station's state stands: docs/STATE.md, "A station's state". Said here alone; the code has the same in src/lib.rt.
use Rattle.std.specs.Prelude.{ℕ, ◌+◌, ◌-◌, ◌*◌, ◌/◌, ◌%◌, ◌^◌, List, [], ◌∷◌, Bool, not, ◌&&◌, ◌||◌, cond, get_or, eqb}
use Rattle.std.specs.Int.Bits.{bit_and}
use Rattle.std.specs.Int.Count.{ones}
use Rattle.sets.specs.Size.{size}
use Rattle.le.specs.Le.{u32_at, u64_at}
use Rattle.cells.specs.Cells.{Region, region}
use Rattle.kinds.specs.Kinds.{locking, keeps}

-- WIDTHS: of a value, of a transaction's number or a version, of a page set
abbrev pub value_width : ℕ
value_width = 8

abbrev pub number_width : ℕ
number_width = 4

abbrev pub page_set_width : ℕ
page_set_width = 4

-- the bytes of a row of object sets, one for each page
abbrev pub set_row : ℕ
set_row = 32

-- PLACES, each behind the field before it
abbrev pub copy_from : ℕ
copy_from = 0

abbrev pub read_value_from : ℕ
read_value_from = copy_from + 256 * value_width

abbrev pub written_value_from : ℕ
written_value_from = read_value_from + 256 * value_width

abbrev pub waiting_value_from : ℕ
waiting_value_from = written_value_from + 256 * value_width

abbrev pub kept_from : ℕ
kept_from = waiting_value_from + 8 * value_width

abbrev pub version_from : ℕ
version_from = kept_from + 8 * number_width

abbrev pub seen_from : ℕ
seen_from = version_from + 256 * number_width

abbrev pub number_from : ℕ
number_from = seen_from + 256 * number_width

abbrev pub cached_from : ℕ
cached_from = number_from + number_width

abbrev pub whole_from : ℕ
whole_from = cached_from + page_set_width

abbrev pub unavailable_from : ℕ
unavailable_from = whole_from + page_set_width

abbrev pub read_set_from : ℕ
read_set_from = unavailable_from + set_row

abbrev pub written_set_from : ℕ
written_set_from = read_set_from + set_row

abbrev pub locks_from : ℕ
locks_from = written_set_from + set_row

-- by requester
abbrev pub named_from : ℕ → ℕ
named_from r = locks_from + set_row + r * set_row

abbrev pub station_from : ℕ
station_from = named_from 8

abbrev pub kind_from : ℕ
kind_from = station_from + 1

abbrev pub open_from : ℕ
open_from = kind_from + 1

abbrev pub wait_from : ℕ
wait_from = open_from + 1

abbrev pub address_from : ℕ
address_from = wait_from + 1

abbrev pub waiting_set_from : ℕ
waiting_set_from = address_from + 1

abbrev pub state_length : ℕ
state_length = waiting_set_from + 1

-- THE SAME AS A TABLE OF REGIONS for crate cells: width, rows, columns
abbrev pub table : List Region
table =
    region value_width 1 256  -- copy
    ∷ region value_width 1 256  -- read value
    ∷ region value_width 1 256  -- written value
    ∷ region value_width 1 8  -- waiting value, by object
    ∷ region number_width 8 1  -- kept, by requester
    ∷ region number_width 1 256  -- version
    ∷ region number_width 1 256  -- seen version
    ∷ region number_width 1 1  -- number
    ∷ region page_set_width 1 1  -- cached
    ∷ region page_set_width 1 1  -- whole
    ∷ region 1 1 32  -- unavailable
    ∷ region 1 1 32  -- read set
    ∷ region 1 1 32  -- written set
    ∷ region 1 1 32  -- locks
    ∷ region 1 8 32  -- named, by requester
    ∷ region 1 1 1  -- station
    ∷ region 1 1 1  -- kind
    ∷ region 1 1 1  -- open
    ∷ region 1 1 1  -- wait
    ∷ region 1 1 1  -- address
    ∷ region 1 1 1  -- waiting set
    ∷ []

-- each region's position in it
abbrev pub copy_cell : ℕ
copy_cell = 0

abbrev pub read_value_cell : ℕ
read_value_cell = copy_cell + 1

abbrev pub written_value_cell : ℕ
written_value_cell = read_value_cell + 1

abbrev pub waiting_value_cell : ℕ
waiting_value_cell = written_value_cell + 1

abbrev pub kept_cell : ℕ
kept_cell = waiting_value_cell + 1

abbrev pub version_cell : ℕ
version_cell = kept_cell + 1

abbrev pub seen_cell : ℕ
seen_cell = version_cell + 1

abbrev pub number_cell : ℕ
number_cell = seen_cell + 1

abbrev pub cached_cell : ℕ
cached_cell = number_cell + 1

abbrev pub whole_cell : ℕ
whole_cell = cached_cell + 1

abbrev pub unavailable_cell : ℕ
unavailable_cell = whole_cell + 1

abbrev pub read_set_cell : ℕ
read_set_cell = unavailable_cell + 1

abbrev pub written_set_cell : ℕ
written_set_cell = read_set_cell + 1

abbrev pub locks_cell : ℕ
locks_cell = written_set_cell + 1

abbrev pub named_cell : ℕ
named_cell = locks_cell + 1

abbrev pub station_cell : ℕ
station_cell = named_cell + 1

abbrev pub kind_cell : ℕ
kind_cell = station_cell + 1

abbrev pub open_cell : ℕ
open_cell = kind_cell + 1

abbrev pub wait_cell : ℕ
wait_cell = open_cell + 1

abbrev pub address_cell : ℕ
address_cell = wait_cell + 1

abbrev pub waiting_set_cell : ℕ
waiting_set_cell = address_cell + 1

-- FIELDS, by address
abbrev pub copy_of : List ℕ → ℕ → ℕ
copy_of s a = u64_at s (copy_from + a * value_width)

abbrev pub read_value : List ℕ → ℕ → ℕ
read_value s a = u64_at s (read_value_from + a * value_width)

abbrev pub written_value : List ℕ → ℕ → ℕ
written_value s a = u64_at s (written_value_from + a * value_width)

-- by object: what a write that is out will write, where the object is in the waiting set
abbrev pub waiting_value : List ℕ → ℕ → ℕ
waiting_value s o = u64_at s (waiting_value_from + o * value_width)

-- by requester: the kept callback's transaction, 0 for none
abbrev pub kept_of : List ℕ → ℕ → ℕ
kept_of s r = u32_at s (kept_from + r * number_width)

-- the copy's version, and the one that it had when the transaction first used the object; by address
abbrev pub version_of : List ℕ → ℕ → ℕ
version_of s a = u32_at s (version_from + a * number_width)

abbrev pub seen_of : List ℕ → ℕ → ℕ
seen_of s a = u32_at s (seen_from + a * number_width)

abbrev pub number : List ℕ → ℕ
number s = u32_at s number_from

-- page sets
abbrev pub cached : List ℕ → ℕ
cached s = u32_at s cached_from

abbrev pub whole : List ℕ → ℕ
whole s = u32_at s whole_from

-- object sets by page
abbrev pub unavailable : List ℕ → ℕ → ℕ
unavailable s p = get_or s (unavailable_from + p) 0

abbrev pub read_set : List ℕ → ℕ → ℕ
read_set s p = get_or s (read_set_from + p) 0

abbrev pub written_set : List ℕ → ℕ → ℕ
written_set s p = get_or s (written_set_from + p) 0

abbrev pub locks : List ℕ → ℕ → ℕ
locks s p = get_or s (locks_from + p) 0

abbrev pub station : List ℕ → ℕ
station s = get_or s station_from 0

abbrev pub kind : List ℕ → ℕ
kind s = get_or s kind_from 0

abbrev pub opened : List ℕ → ℕ
opened s = get_or s open_from 0

-- 0 nothing, 1 a read, 2 a write, 3 a commit
abbrev pub wait : List ℕ → ℕ
wait s = get_or s wait_from 0

-- of a read that is out; of a write that is out, that of its page's object 0
abbrev pub address : List ℕ → ℕ
address s = get_or s address_from 0

-- the objects that the write that is out will write
abbrev pub waiting_set : List ℕ → ℕ
waiting_set s = get_or s waiting_set_from 0

-- whose rules the station has
abbrev pub locking_b : List ℕ → Bool
locking_b s = locking (kind s)

abbrev pub keeps_b : List ℕ → Bool
keeps_b s = keeps (kind s)

-- the whole locks that go with their transaction: a keeping station has none such
unfoldable pub passing_whole : List ℕ → ℕ
passing_whole s = cond (keeps_b s) 0 (whole s)

-- bit k of a set
unfoldable pub has_bit : ℕ → ℕ → Bool
has_bit x k = not (eqb (bit_and x (2 ^ k)) 0)

-- page p is under a whole lock that outlives its transaction
unfoldable pub kept_whole_b : List ℕ → ℕ → Bool
kept_whole_b s p = keeps_b s && has_bit (whole s) p

-- address a in the object sets from `at`
unfoldable pub member : List ℕ → ℕ → ℕ → Bool
member s at a = has_bit (get_or s (at + a / 8) 0) (a % 8)

-- how many addresses the object sets from `at` have
unfoldable pub count_in : List ℕ → ℕ → ℕ
count_in s at = size 256 (member s at)

-- how many addresses are written, with the objects x of page p
unfoldable pub written_with : List ℕ → ℕ → ℕ → ℕ
written_with s p x = count_in s written_set_from + ones (bit_and x (255 - written_set s p))

-- the object sets from `at` have nothing: a row's bytes, eight at a time
unfoldable pub none_in : List ℕ → ℕ → Bool
none_in s at = eqb (u64_at s at) 0 && eqb (u64_at s (at + 8)) 0 && eqb (u64_at s (at + 16)) 0 && eqb (u64_at s (at + 24)) 0

-- "a request is out" for the page
unfoldable pub requested_b : List ℕ → ℕ → Bool
requested_b s p = (eqb (wait s) 1 || eqb (wait s) 2) && eqb p (address s / 8)
