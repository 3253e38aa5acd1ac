-- Document 02, wish 5: where each register stands in the 32 that are lent. Said here alone; the code has the same in src/lib.rt.
use Rattle.std.specs.Prelude.{ℕ, ◌+◌, List, get_or}
use Rattle.le.specs.Le.{u32_at, u64_at}
use Rattle.station_state.specs.Layout.{value_width, number_width}

-- PLACES: "Registers 0–1 are page and object, 2 is the command .., 3 the last command's refusal or 0"
abbrev pub page_from : ℕ
page_from = 0

abbrev pub object_from : ℕ
object_from = page_from + 1

abbrev pub command_from : ℕ
command_from = object_from + 1

abbrev pub refusal_from : ℕ
refusal_from = command_from + 1

-- "Registers 4–11 are the value and, read only, 12–15 the commit number."
abbrev pub value_from : ℕ
value_from = refusal_from + 1

abbrev pub commit_from : ℕ
commit_from = value_from + value_width

-- "Register 16 has flags", "the mask in register 17"
abbrev pub flags_from : ℕ
flags_from = commit_from + number_width

abbrev pub mask_from : ℕ
mask_from = flags_from + 1

-- "Registers 18–31 read 0"
abbrev pub blank_from : ℕ
blank_from = mask_from + 1

-- .. eight bytes, four and two
abbrev pub blank_four_from : ℕ
blank_four_from = blank_from + 8

abbrev pub blank_two_from : ℕ
blank_two_from = blank_four_from + 4

-- "32 byte registers"
abbrev pub registers : ℕ
registers = 32

-- FIELDS
abbrev pub page : List ℕ → ℕ
page r = get_or r page_from 0

abbrev pub object : List ℕ → ℕ
object r = get_or r object_from 0

abbrev pub refusal : List ℕ → ℕ
refusal r = get_or r refusal_from 0

abbrev pub value : List ℕ → ℕ
value r = u64_at r value_from

abbrev pub commit : List ℕ → ℕ
commit r = u32_at r commit_from

-- done and aborted; open and waiting are the station's
abbrev pub raised : List ℕ → ℕ
raised r = get_or r flags_from 0

abbrev pub mask : List ℕ → ℕ
mask r = get_or r mask_from 0

-- FLAGS: "bit 0 open, bit 1 waiting, bit 2 done, bit 3 aborted"
abbrev pub open_flag : ℕ
open_flag = 1

abbrev pub waiting_flag : ℕ
waiting_flag = 2

abbrev pub done_flag : ℕ
done_flag = 4

abbrev pub aborted_flag : ℕ
aborted_flag = 8
