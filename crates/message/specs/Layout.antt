-- Document 01, "Messages", with document 02's wish 6, by which "every message is 144 bytes": the fields at their places, and a message made
-- of its fields.
use Rattle.std.specs.Prelude.{ℕ, ◌+◌, ◌*◌, ◌-◌, List, ◌∷◌, ◌++◌, get_or, replicate}
use Rattle.le.specs.Le.{u32_at, u64_at}
use Rattle.le.specs.Width.{bytes}
use Rattle.layout.specs.Record.{value_length}

-- "Byte 0 kind, 1 station on the line, 2 page or requester, 3 object or cause, 4–7 transaction, 8–11 page set, 12–15 .. commit number,
-- 16–47 object sets by page (one set of a single page: byte 16), 48–111 eight values", and the versions of the eight objects: "kinds 16 to
-- 18 carry eight of 4 bytes after the values and 0 in bytes 12–15". Where each stands
abbrev pub kind_from : ℕ
kind_from = 0

abbrev pub station_from : ℕ
station_from = kind_from + 1

abbrev pub page_from : ℕ
page_from = station_from + 1

abbrev pub object_from : ℕ
object_from = page_from + 1

abbrev pub transaction_from : ℕ
transaction_from = object_from + 1

abbrev pub pages_from : ℕ
pages_from = transaction_from + 4

abbrev pub version_from : ℕ
version_from = pages_from + 4

abbrev pub sets_from : ℕ
sets_from = version_from + 4

-- behind one set of a single page
abbrev pub second_set : ℕ
second_set = sets_from + 1

abbrev pub sets_length : ℕ
sets_length = 32

abbrev pub values_from : ℕ
values_from = sets_from + sets_length

abbrev pub values_length : ℕ
values_length = 8 * value_length

abbrev pub page_versions_from : ℕ
page_versions_from = values_from + values_length

abbrev pub version_width : ℕ
version_width = 4

-- values and versions, which stand behind the sets
abbrev pub behind_length : ℕ
behind_length = values_length + 8 * version_width

abbrev pub message_length : ℕ
message_length = values_from + behind_length

abbrev pub kind_of : List ℕ → ℕ
kind_of m = get_or m kind_from 0

abbrev pub station_of : List ℕ → ℕ
station_of m = get_or m station_from 0

abbrev pub page_of : List ℕ → ℕ
page_of m = get_or m page_from 0

abbrev pub requester_of : List ℕ → ℕ
requester_of m = get_or m page_from 0

abbrev pub object_of : List ℕ → ℕ
object_of m = get_or m object_from 0

abbrev pub cause_of : List ℕ → ℕ
cause_of m = get_or m object_from 0

abbrev pub transaction_of : List ℕ → ℕ
transaction_of m = u32_at m transaction_from

abbrev pub pages_of : List ℕ → ℕ
pages_of m = u32_at m pages_from

abbrev pub version_of : List ℕ → ℕ
version_of m = u32_at m version_from

abbrev pub set_of : List ℕ → ℕ → ℕ
set_of m p = get_or m (sets_from + p) 0

abbrev pub value_of : List ℕ → ℕ → ℕ
value_of m o = u64_at m (values_from + o * value_length)

abbrev pub page_version_of : List ℕ → ℕ → ℕ
page_version_of m o = u32_at m (page_versions_from + o * version_width)

-- a message of these fields: `sets` are bytes, and so is what stands behind them
unfoldable pub message : ℕ → ℕ → ℕ → ℕ → ℕ → ℕ → ℕ → List ℕ → List ℕ → List ℕ
message kind station page object transaction pages version sets behind =
    kind ∷ station ∷ page ∷ object ∷ (bytes 4 transaction ++ (bytes 4 pages ++ (bytes 4 version ++ (sets ++ behind))))

-- "one set of a single page: byte 16"
abbrev pub single : ℕ → List ℕ
single x = x ∷ replicate (sets_length - 1) 0

-- what stations send: no version and no values; "Fields that a kind doesn't name are 0"
abbrev pub up_message : ℕ → ℕ → ℕ → ℕ → ℕ → ℕ → ℕ → List ℕ
up_message kind station page object transaction pages set =
    message kind station page object transaction pages 0 (single set) (replicate behind_length 0)
