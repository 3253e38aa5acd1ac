-- Cases of document 02's wish 13, computed: what writing, reading and looking up answer, byte for byte.
use Rattle.std.specs.Prelude.{ℕ, zero, suc, ◌+◌, ◌*◌, ◌≡◌, refl, List, [], ◌∷◌, ◌++◌, take, replicate, set}
use Rattle.lists.specs.Tests.{all_to}
use Rattle.le.specs.Le.{u16_at, u32_at}
use Rattle.le.specs.Width.{bytes}
use Rattle.layout.specs.Record.{header}
use Rattle.record.specs.Check.{head_ok_lem, head_at, rise_at, rises, addresses_rise, check_of}
use Rattle.record.specs.Write.{Written, written}
use Rattle.block.specs.Places.{size_at, entries_to}
use Rattle.block.specs.Check.{shape_of, counts_agree, record_fits, record_fits_at, all_fit, block_number, place_number}
use Rattle.block_reader.specs.Read.{row, rows, record_at, record_in, records_to, block_read_of, block_record_of}
use Rattle.block_writer.specs.Write.{scan_from, scan_of, start_of, entries_in, headers_to, addresses_to, column, plane_to, packed, block_write_of}

-- C12's record, and document 01's read of 8 behind it
abbrev c12 : List ℕ
c12 = header 1 1 1 1 0 0 ++ (8 ∷ 8 ∷ (bytes 8 0 ++ bytes 8 1))

abbrev read_of8 : List ℕ
read_of8 = header 1 0 2 1 1 1 ++ (8 ∷ bytes 8 1)

abbrev two : List ℕ
two = c12 ++ read_of8

-- their block: counts; headers; addresses; planes of three bytes, of which the first has the values 0, 1 and 1
abbrev block : List ℕ
block = 2 ∷ 0 ∷ 3 ∷ 0 ∷ (header 1 1 1 1 0 0 ++ (header 1 0 2 1 1 1 ++ (8 ∷ 8 ∷ 8 ∷ 0 ∷ 1 ∷ 1 ∷ replicate 21 0)))

-- a record of no entry, so many times
abbrev empties : ℕ → List ℕ
empties zero = []
empties (suc n) = header 0 0 0 1 0 0 ++ empties n

-- a record of 257 reads, in a block whose counts agree
abbrev too_many : List ℕ
too_many = 1 ∷ 0 ∷ 1 ∷ 1 ∷ (header 257 0 1 1 0 0 ++ replicate (257 + 8 * 257) 0)

-- output of so many bytes, each 7
abbrev room : ℕ → List ℕ
room n = replicate n 7

-- what is handed in, and what comes of it
pub record Case : Type 0 where
  pub given : Written
  pub wanted : Written

abbrev case : Written → Written → Case
case g w = record { given = g; wanted = w }

abbrev pub AllHold : List Case → Type 0
AllHold [] = Unit {0}
AllHold (c ∷ cs) = (c.given ≡ c.wanted) × AllHold cs

unfoldable pub table : List Case
table =
    -- "Writing and reading a block are inverses"; what lies behind stays
    case (block_write_of two (room 65)) (written (block ++ (7 ∷ 7 ∷ [])) 0)
    ∷ case (block_read_of block (room 60)) (written (two ++ (7 ∷ [])) 0)
    -- "1 where output is under the input plus 4 in writing, less 4 in reading, 4,624 in look-up": first of all
    ∷ case (block_write_of [] (room 3)) (written (room 3) 1)
    ∷ case (block_read_of block (room 58)) (written (room 58) 1)
    ∷ case (block_record_of [] 9 (room 4623)) (written (room 4623) 1)
    -- "not 1 to 64 records": none, 64, "at a 65th record", whatever it is
    ∷ case (block_write_of [] (room 4)) (written (room 4) 21)
    ∷ case (block_write_of (empties 64) (room 1028)) (written (64 ∷ 0 ∷ 0 ∷ 0 ∷ empties 64) 0)
    ∷ case (block_write_of (empties 64 ++ (0 ∷ [])) (room 1029)) (written (room 1029) 21)
    -- short before broken, record by record
    ∷ case (block_write_of (take 58 two) (room 62)) (written (room 62) 12)
    ∷ case (block_write_of (set two 14 1) (room 63)) (written (room 63) 5)
    ∷ case (block_write_of (take 33 (set two 14 1)) (room 63)) (written (room 63) 12)
    -- "counts that disagree with each other or the length"; fewer bytes than the counts
    ∷ case (block_read_of (set block 0 3) (room 59)) (written (room 59) 21)
    ∷ case (block_read_of (set block 2 4) (room 59)) (written (room 59) 21)
    ∷ case (block_read_of (set block 4 2) (room 59)) (written (room 59) 21)
    ∷ case (block_read_of (take 62 block) (room 59)) (written (room 59) 21)
    ∷ case (block_read_of (1 ∷ 0 ∷ 0 ∷ []) []) (written [] 21)
    -- a record that breaks the rules, or has too many reads, though all counts agree
    ∷ case (block_read_of (set block 35 1) (room 59)) (written (room 59) 5)
    ∷ case (block_read_of too_many (room 2329)) (written (room 2329) 5)
    -- a look-up by place; "a place beyond them"; a fault of another record
    ∷ case (block_record_of block 0 (room 4624)) (written (c12 ++ room 4590) 0)
    ∷ case (block_record_of block 1 (room 4624)) (written (read_of8 ++ room 4599) 0)
    ∷ case (block_record_of block 2 (room 4624)) (written (room 4624) 21)
    ∷ case (block_record_of (set block 35 1) 0 (room 4624)) (written (room 4624) 5)
    ∷ case (block_record_of (set block 35 1) 2 (room 4624)) (written (room 4624) 21)
    ∷ []

pub table_holds : AllHold table
unfolding table all_to u16_at u32_at bytes header head_ok_lem head_at rise_at rises addresses_rise check_of size_at entries_to shape_of counts_agree record_fits record_fits_at all_fit block_number row rows record_at record_in records_to block_read_of place_number block_record_of scan_from scan_of start_of entries_in headers_to addresses_to column plane_to packed block_write_of
table_holds = (refl, (refl, (refl, (refl, (refl, (refl, (refl, (refl, (refl, (refl, (refl, (refl, (refl, (refl, (refl, (refl, (refl, (refl, (refl, (refl, (refl, (refl, (refl, tt)))))))))))))))))))))))
