-- The text of a field, and that no line is longer than the longest.
use Rattle.std.specs.Prelude.{ℕ, ◌^◌, ◌≤◌, ◌<◌, ◌≡◌, length}
use Rattle.std.proofs.Common.{arith, length-append}
use Rattle.text.specs.Text.{decimal64, field64}
use Rattle.text.specs.Decimal.{decimal_short, decimal_same}
use Rattle.archive.specs.declared.Fields.{Fields}
use Rattle.report.specs.Text.{decimal, field, heading, line_of, line_with, end_line, refused_line, longest}

pub field_short : (n b : ℕ) → length (field n b) ≤ 11
unfolding field decimal
field_short n b = rw length-append (omega (arith, decimal_short 10 n))

-- a number of 32 bits has one text, with room for ten digits and for twenty
pub field_same : (n b : ℕ) {m : ℕ} → m ≡ n → n < 2 ^ 32 → field64 m b ≡ field n b
unfolding field field64 decimal decimal64
field_same n b e h = rw (e, decimal_same 10 20 n (omega arith) (omega arith) (omega arith))

pub field_room : (n b : ℕ) {m : ℕ} → m ≡ n → n < 2 ^ 32 → length (field64 m b) ≤ 11
field_room n b e h = rw (field_same n b e h) (field_short n b)

-- no line is longer than the longest
pub heading_fits : length heading ≤ longest
unfolding heading
heading_fits = omega arith

pub line_fits : (f : Fields) → length (line_of f) ≤ longest
unfolding line_of
line_fits f =
    simp length-append
    (omega
    (arith, field_short f.commit 32, field_short f.station 32, field_short f.transaction 32, field_short f.reads 32, field_short f.writes 10))

pub line_with_fits : (sep : ℕ) (f : Fields) → length (line_with sep f) ≤ longest
unfolding line_with
line_with_fits sep f =
    simp length-append
    (omega
    (arith, field_short f.commit sep, field_short f.station sep, field_short f.transaction sep, field_short f.reads sep, field_short f.writes 10))

pub end_fits : (last : ℕ) → length (end_line last) ≤ longest
unfolding end_line
end_fits last = omega (arith, field_short last 10)

pub refused_fits : (k last : ℕ) → length (refused_line k last) ≤ longest
unfolding refused_line
refused_fits k last = simp length-append (omega (arith, field_short k 32, field_short last 10))
