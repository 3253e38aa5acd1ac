-- One record in full (docs/PLAYBACK.md, "--record N"), as bytes, each line ended by byte 10.
use Rattle.std.specs.Prelude.{ℕ, zero, suc, ◌+◌, ◌*◌, ◌/◌, ◌%◌, ◌≤◌, ◌≡◌, List, ◌++◌, Bool, cond, length, get_or, eqb, ltb, leb}
use Rattle.std.proofs.Common.{ap, ◌∙◌, arith}
use Rattle.le.specs.Le.{u64_at}
use Rattle.text.specs.Decimal.{decimal_short, field64_length}
use Rattle.text.specs.Text.{ascii, decimal64, field64, columns, Put, put, line_within}
use Rattle.layout.specs.Record.{value_length}
use Rattle.archive.specs.declared.Fields.{Fields}
use Rattle.archive.specs.Parts.{address_part, value_part}

-- no line is longer
abbrev pub longest : ℕ
longest = 192

unfoldable pub heading : List ℕ
heading = ascii "commit station kind transaction reads writes byte length\n"

-- a number of 64 bits and the byte behind it
pub field_short : (n b : ℕ) → length (field64 n b) ≤ 21
unfolding decimal64
field_short n b = omega (arith, field64_length n b, decimal_short 20 n)

-- a record's own numbers, the byte of the archive where it starts, and how many bytes it has
unfoldable pub names : ℕ → Fields → List ℕ
names sep f = field64 f.commit sep ++ (field64 f.station sep ++ (field64 f.kind sep ++ field64 f.transaction sep))

unfoldable pub sizes : ℕ → Fields → ℕ → ℕ → List ℕ
sizes sep f byte size = field64 f.reads sep ++ (field64 f.writes sep ++ (field64 byte sep ++ field64 size 10))

unfoldable pub record_line : ℕ → Fields → ℕ → ℕ → List ℕ
record_line sep f byte size = names sep f ++ sizes sep f byte size

unfoldable pub entry_heading : List ℕ
entry_heading = ascii "entry counter page object value\n"

-- "reads come first"
unfoldable pub entry_word : Bool → List ℕ
entry_word read = cond read (ascii "read ") (ascii "write ")

unfoldable pub entry_line : ℕ → Bool → ℕ → ℕ → List ℕ
entry_line sep read a value =
    columns sep (entry_word read) ++ (field64 a sep ++ (field64 (a / 8) sep ++ (field64 (a % 8) sep ++ field64 value 10)))

-- the lines of the first i entries, n of which are reads
unfoldable pub entries_to : ℕ → ℕ → List ℕ → List ℕ → Put → ℕ → Put
entries_to sep n xs vs p zero = p
entries_to sep n xs vs p (suc i) =
    let q = entries_to sep n xs vs p i in
    line_within longest q.out q.at (entry_line sep (ltb i n) (get_or xs i 0) (u64_at vs (value_length * i)))

-- of all, where there is a value for each address
unfoldable pub entries_of : ℕ → ℕ → List ℕ → List ℕ → Put → Put
entries_of sep n xs vs p = cond (eqb (length vs) (value_length * length xs)) (entries_to sep n xs vs p (length xs)) p

-- how many entries a record of these fields has: size fields hold no more than 65,535
unfoldable pub entry_count : Fields → ℕ
entry_count f = cond (leb f.reads 65535) (cond (leb f.writes 65535) (f.reads + f.writes) 0) 0

-- a line behind what is there
abbrev pub line_put : Put → List ℕ → Put
line_put p line = line_within longest p.out p.at line

-- the whole listing of the record at the start of s: two tables, its own numbers and its entries
unfoldable pub record_put : ℕ → List ℕ → Fields → ℕ → ℕ → Put → Put
record_put sep s f byte size p =
    entries_of sep f.reads (address_part s 0 (entry_count f)) (value_part s 0 (entry_count f))
    (line_put (line_put (line_put p (columns sep heading)) (record_line sep f byte size)) (columns sep entry_heading))

-- its lines put one behind the other
pub record_chain : (sep : ℕ) (s : List ℕ) (f : Fields) (byte size : ℕ) (o : List ℕ) (a : ℕ) {o1 o2 o3 : List ℕ} {a1 a2 a3 n : ℕ} {xs vs : List ℕ} {p : Put}
    → put o1 a1 ≡ line_within longest o a (columns sep heading)
    → put o2 a2 ≡ line_within longest o1 a1 (record_line sep f byte size)
    → put o3 a3 ≡ line_within longest o2 a2 (columns sep entry_heading)
    → n ≡ f.reads → xs ≡ address_part s 0 (entry_count f) → vs ≡ value_part s 0 (entry_count f)
    → p ≡ entries_of sep n xs vs (put o3 a3) → p ≡ record_put sep s f byte size (put o a)
unfolding record_put
record_chain sep s f byte size o a e1 e2 e3 en ex ev e4 =
    let x2 = e2 ∙ ap (λ (q : Put). line_put q (record_line sep f byte size)) e1 in
    let x3 = e3 ∙ ap (λ (q : Put). line_put q (columns sep entry_heading)) x2 in
    e4 ∙ rw (en, ex, ev) (ap (entries_of sep f.reads (address_part s 0 (entry_count f)) (value_part s 0 (entry_count f))) x3)
