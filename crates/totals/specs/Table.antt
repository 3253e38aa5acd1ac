-- The table of counters (docs/PLAYBACK.md), as bytes, each line ended by byte 10.
use Rattle.std.specs.Prelude.{ℕ, ◌+◌, ◌/◌, ◌%◌, ◌^◌, ◌≤◌, ◌<◌, List, ◌++◌, length}
use Rattle.std.proofs.Common.{arith, length-append}
use Rattle.text.specs.Text.{ascii, field64}
use Rattle.text.specs.Decimal.{decimal64_short, field64_length}
use Rattle.report.specs.Text.{longest}

unfoldable pub heading : List ℕ
heading = ascii "counter page object value writes\n"

-- "its address, page and object, its value behind the last record, and how many records wrote it"; a page has 8 objects
unfoldable pub counter_line : ℕ → ℕ → ℕ → ℕ → List ℕ
counter_line sep a value writes =
    field64 a sep ++ (field64 (a / 8) sep ++ (field64 (a % 8) sep ++ (field64 value sep ++ field64 writes 10)))

-- "closed by `at N`", which says that it looked no further
unfoldable pub at_line : ℕ → List ℕ
at_line commit = ascii "at " ++ (field64 commit 58 ++ ascii " what follows was not looked at\n")

-- "there is no commit 9: the archive ends behind commit 2"
unfoldable pub missing_line : ℕ → ℕ → List ℕ
missing_line commit last =
    ascii "playback: there is no commit " ++ (field64 commit 58 ++ (ascii " the archive ends behind commit " ++ field64 last 10))

-- no message is longer
abbrev pub longest_message : ℕ
longest_message = 128

-- a number below 10 ^ k and the byte behind it
pub field_within : (k n b : ℕ) → n < 10 ^ k → 0 < k → k ≤ 20 → length (field64 n b) ≤ k + 1
field_within k n b h some le = omega (arith, field64_length n b, decimal64_short k n h some le)

-- no line is longer than the longest
pub heading_fits : length heading ≤ longest
unfolding heading
heading_fits = omega arith

pub counter_fits : (sep a value writes : ℕ) → a < 256 → value < 2 ^ 64 → writes < 2 ^ 64 → length (counter_line sep a value writes) ≤ longest
unfolding counter_line
counter_fits sep a value writes ha hv hw =
    simp length-append
    (omega
    (arith, field_within 3 a sep (omega arith) (omega arith) (omega arith), field_within 2 (a / 8) sep (omega arith) (omega arith) (omega arith), field_within 1 (a % 8) sep (omega arith) (omega arith) (omega arith), field_within 20 value sep (omega arith) (omega arith) (omega arith), field_within 20 writes 10 (omega arith) (omega arith) (omega arith)))

pub at_fits : (commit : ℕ) → commit < 2 ^ 32 → length (at_line commit) ≤ longest
unfolding at_line
at_fits commit h = simp length-append (omega (arith, field_within 10 commit 58 (omega arith) (omega arith) (omega arith)))

pub missing_fits : (commit last : ℕ) → commit < 2 ^ 32 → last < 2 ^ 32 → length (missing_line commit last) ≤ longest_message
unfolding missing_line
missing_fits commit last hc hl =
    simp length-append
    (omega (arith, field_within 10 commit 58 (omega arith) (omega arith) (omega arith), field_within 10 last 10 (omega arith) (omega arith) (omega arith)))
