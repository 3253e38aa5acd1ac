-- The theorems: writing and reading are inverses, both ways; a look_up answers as reading the whole would.
use Rattle.std.specs.Prelude.{ℕ, ◌+◌, ◌-◌, ◌≤◌, ◌<◌, ◌≡◌, refl, Bool, true, false, cond, List, [], ◌∷◌, length, take, eqb, ltb}
use Rattle.std.proofs.Common.{sym, ap, ◌∙◌, arith, take_at, le-ltb, lt-ltb, eq-eqb, ltb-false, eqb-true}
use Rattle.std.proofs.lemmas.List.Edits.{sets}
use Rattle.std.proofs.lemmas.Bool.{eqb-false}
use Rattle.lists.specs.Bytes.{Bytes, bytes_append}
use Rattle.lists.specs.Stores.{sets_front}
use Rattle.layout.specs.Record.{Record, AllWellFormed, longest_record, bytes_of, archive_of}
use Rattle.record.specs.Write.{Written, written}
use Rattle.record_meaning.proofs.LayoutLaws.{bytes_of_are}
use Rattle.record_meaning.proofs.Meaning.{archive_one_way}
use Rattle.block.specs.Block.{Blocked, block_of}
use Rattle.block.specs.Places.{counts_length, record_count}
use Rattle.block.specs.Check.{counts_agree, all_fit, block_number, place_number}
use Rattle.block.specs.Facts.{agreed, taken}
use Rattle.block_reader.specs.Read.{records_to, record_in, block_read_of, block_record_of}
use Rattle.block_reader.specs.Stores.{length_records_to}
use Rattle.block_writer.specs.Write.{scan_of, packed, block_write_of}
use Rattle.block_writer.specs.Facts.{whole}
use Rattle.block_meaning.specs.Held.{held_to, archive_held, block_held, blocked_held, count_held}
use Rattle.block_meaning.specs.Laid as laid
use Rattle.block_meaning.specs.Laid.{record_at_place}
use Rattle.block_meaning.specs.Packed.{scan_takes, taken_to, archive_taken, packed_taken, blocked_taken}

-- a block is four bytes longer than its records
pub block_longer : (rs : List Record) → Blocked rs → length (block_of rs) ≡ length (archive_of rs) + counts_length
block_longer rs k =
    let g = agreed (block_of rs) (laid.agree rs k) in
    let n = ap length (laid.all_laid rs k) in
    let m = length_records_to (block_of rs) (record_count (block_of rs)) g (omega arith) in
    omega (arith, g.shape.length_is, g.total_is)

-- READING. The block of every list of 1 to 64 well_formed records is read as their bytes, one behind the other
pub read_block : (rs : List Record) (o : List ℕ) → Blocked rs → length (archive_of rs) ≤ length o
    → block_read_of (block_of rs) o ≡ written (sets o 0 (archive_of rs)) 0
unfolding block_read_of
read_block rs o k h =
    let n = block_longer rs k in
    rw (
      le-ltb (length o) (length (block_of rs) - counts_length) (omega arith),
      eq-eqb (block_number (block_of rs)) 0 (laid.accepted rs k),
      laid.all_laid rs k,
    )

-- .. and every accepted block is the block of such a list, byte for byte, and is read as its bytes
pub record Read (b o : List ℕ) : Type 0 where
  pub records : List Record
  pub blocked : Blocked records
  pub block_is : block_of records ≡ b
  pub out_is : (block_read_of b o).out ≡ sets o 0 (archive_of records)
  -- its records by place
  pub each : (i : ℕ) → i < length records → record_in b i ≡ bytes_of (record_at_place records i)
  pub count_is : record_count b ≡ length records

read_taken : (b o : List ℕ) → (block_read_of b o).number ≡ 0 → (block_number b ≡ 0) × ((block_read_of b o).out ≡ sets o 0 (records_to b (record_count b)))
unfolding block_read_of
read_taken b o h = by_tests (ltb (length o) (length b - counts_length)) (eqb (block_number b) 0) refl refl h
  where
    good : Written
    good = written (sets o 0 (records_to b (record_count b))) 0

    bad : Written
    bad = written o (block_number b)

    by_tests : (x y : Bool) → ltb (length o) (length b - counts_length) ≡ x → eqb (block_number b) 0 ≡ y
        → (cond x (written o 1) (cond y good bad)).number ≡ 0
        → (block_number b ≡ 0) × ((cond x (written o 1) (cond y good bad)).out ≡ sets o 0 (records_to b (record_count b)))
    by_tests true y ex ey e = absurd (omega arith)
    by_tests false true ex ey e = (eqb-true _ _ ey, refl)
    by_tests false false ex ey e = absurd (eqb-false _ _ ey e)

read_room : (b o : List ℕ) → (block_read_of b o).number ≡ 0 → length b - counts_length ≤ length o
unfolding block_read_of
read_room b o h = by_test (ltb (length o) (length b - counts_length)) refl h
  where
    rest : Written
    rest = cond (eqb (block_number b) 0) (written (sets o 0 (records_to b (record_count b))) 0) (written o (block_number b))

    by_test : (x : Bool) → ltb (length o) (length b - counts_length) ≡ x → (cond x (written o 1) rest).number ≡ 0 → length b - counts_length ≤ length o
    by_test true ex e = absurd (omega arith)
    by_test false ex e = ltb-false _ _ ex

pub read_accepted : (b o : List ℕ) → Bytes b → (block_read_of b o).number ≡ 0 → Read b o
read_accepted b o hb h =
    let two = read_taken b o h in
    let f = taken b two.0 in
    let g = agreed b f.counts in
    let rs = held_to b (record_count b) in
    let k = blocked_held b hb g f.fit in
    let same : block_of rs ≡ b = block_held b hb g f.fit in
    record {
      records = rs;
      blocked = k;
      block_is = same;
      out_is = two.1 ∙ ap (sets o 0) (sym (archive_held b hb g f.fit (record_count b) (omega arith)));
      each = λ i l. ap (λ (u : List ℕ). record_in u i) (sym same) ∙ laid.record_laid rs k i l;
      count_is = sym (count_held b hb g f.fit (record_count b));
    }

-- a block can be read in one way only
pub block_one_way : (rs rs' : List Record) → Blocked rs → Blocked rs' → block_of rs ≡ block_of rs' → rs ≡ rs'
block_one_way rs rs' k k' e =
    archive_one_way rs rs' k.well_formed k'.well_formed
    (sym (laid.all_laid rs k) ∙ ap (λ (u : List ℕ). records_to u (record_count u)) e ∙ laid.all_laid rs' k')

-- WRITING. What is accepted is the bytes of 1 to 64 well_formed records, one behind the other, and what is written is their block
pub record Wrote (s o : List ℕ) : Type 0 where
  pub records : List Record
  pub blocked : Blocked records
  pub archive_is : archive_of records ≡ s
  pub out_is : (block_write_of s o).out ≡ sets o 0 (block_of records)

write_taken : (s o : List ℕ) → (block_write_of s o).number ≡ 0
    → ((scan_of s).number ≡ 0) × ((block_write_of s o).out ≡ sets o 0 (packed s (scan_of s).count (scan_of s).total)) × (length s + counts_length ≤ length o)
unfolding block_write_of
write_taken s o h = by_tests (ltb (length o) (length s + counts_length)) (eqb (scan_of s).number 0) refl refl h
  where
    good : Written
    good = written (sets o 0 (packed s (scan_of s).count (scan_of s).total)) 0

    bad : Written
    bad = written o (scan_of s).number

    by_tests : (x y : Bool) → ltb (length o) (length s + counts_length) ≡ x → eqb (scan_of s).number 0 ≡ y
        → (cond x (written o 1) (cond y good bad)).number ≡ 0
        → ((scan_of s).number ≡ 0) × ((cond x (written o 1) (cond y good bad)).out ≡ sets o 0 (packed s (scan_of s).count (scan_of s).total)) × (length s + counts_length ≤ length o)
    by_tests true y ex ey e = absurd (omega arith)
    by_tests false true ex ey e = (eqb-true _ _ ey, refl, ltb-false _ _ ex)
    by_tests false false ex ey e = absurd (eqb-false _ _ ey e)

pub write_accepted : (s o : List ℕ) → Bytes s → (block_write_of s o).number ≡ 0 → Wrote s o
write_accepted s o hs h =
    let two = write_taken s o h in
    let w = whole s two.0 in
    let c = (scan_of s).count in
    let t = (scan_of s).total in
    record {
      records = taken_to s c;
      blocked = blocked_taken s c t hs w.1 w.0;
      archive_is = archive_taken s c t hs w.1;
      out_is = two.1 ∙ ap (sets o 0) (packed_taken s c t hs w.1);
    }

writes : (s o : List ℕ) → (scan_of s).number ≡ 0 → length s + counts_length ≤ length o → (block_write_of s o).number ≡ 0
unfolding block_write_of
writes s o h l = rw (le-ltb (length o) (length s + counts_length) l, eq-eqb (scan_of s).number 0 h)

archive_bytes : (rs : List Record) → AllWellFormed rs → Bytes (archive_of rs)
unfolding archive_of
archive_bytes [] w = tt
archive_bytes (r ∷ rs) w = bytes_append (bytes_of r) (archive_of rs) (bytes_of_are r w.0) (archive_bytes rs w.1)

-- .. and every such list is accepted
pub write_block : (rs : List Record) (o : List ℕ) → Blocked rs → length (archive_of rs) + counts_length ≤ length o
    → block_write_of (archive_of rs) o ≡ written (sets o 0 (block_of rs)) 0
write_block rs o k h =
    let hs = archive_bytes rs k.well_formed in
    let n = writes (archive_of rs) o (scan_takes rs k) h in
    let w = write_accepted (archive_of rs) o hs n in
    let same : w.records ≡ rs = archive_one_way w.records rs w.blocked.well_formed k.well_formed w.archive_is in
    let out : (block_write_of (archive_of rs) o).out ≡ sets o 0 (block_of rs) = w.out_is ∙ ap (λ (q : List Record). sets o 0 (block_of q)) same in
    λ i. record { out = out i; number = n i }

-- INVERSES, on bytes. What was written, read, is what was handed in
front : (x o : List ℕ) (n : ℕ) → n ≡ length x → n ≤ length o → take n (sets o 0 x) ≡ x
front x o n e h = rw (sets_front x o n e h) (take_at x _ n (sym e))

pub read_of_written : (s o o' : List ℕ) → Bytes s → (block_write_of s o).number ≡ 0 → length s ≤ length o'
    → block_read_of (take (length s + counts_length) (block_write_of s o).out) o' ≡ written (sets o' 0 s) 0
read_of_written s o o' hs h l =
    let w = write_accepted s o hs h in
    let rs = w.records in
    let n = block_longer rs w.blocked in
    let m = ap length w.archive_is in
    let room = (write_taken s o h).2 in
    let block : take (length s + counts_length) (block_write_of s o).out ≡ block_of rs =
    ap (take (length s + counts_length)) w.out_is ∙ front (block_of rs) o (length s + counts_length) (omega arith) room in
    rw block (read_block rs o' w.blocked (omega arith) ∙ ap (λ (u : List ℕ). written (sets o' 0 u) 0) w.archive_is)

-- .. and what was read, written, is the block that was handed in
pub written_of_read : (b o o' : List ℕ) → Bytes b → (block_read_of b o).number ≡ 0 → length b ≤ length o'
    → block_write_of (take (length b - counts_length) (block_read_of b o).out) o' ≡ written (sets o' 0 b) 0
written_of_read b o o' hb h l =
    let r = read_accepted b o hb h in
    let rs = r.records in
    let n = block_longer rs r.blocked in
    let m = ap length r.block_is in
    let room = read_room b o h in
    let archive : take (length b - counts_length) (block_read_of b o).out ≡ archive_of rs =
    ap (take (length b - counts_length)) r.out_is ∙ front (archive_of rs) o (length b - counts_length) (omega arith) room in
    rw archive (write_block rs o' r.blocked (omega arith) ∙ ap (λ (u : List ℕ). written (sets o' 0 u) 0) r.block_is)

-- LOOK-UP. Its number is the one of reading the whole, and 21 for a place beyond; a record is the one that stands there
pub look_up_number : (b : List ℕ) (i : ℕ) → place_number b i ≡ cond (ltb i (record_count b)) (block_number b) 21
unfolding place_number block_number
look_up_number b i = by_tests (counts_agree b) (ltb i (record_count b))
  where
    by_tests : (x y : Bool) → ◌≡◌ {A = ℕ} (cond x (cond y (cond (all_fit b) 0 5) 21) 21) (cond y (cond x (cond (all_fit b) 0 5) 21) 21)
    by_tests true y = refl
    by_tests false true = refl
    by_tests false false = refl

pub look_up : (b o o' : List ℕ) (i : ℕ) (hb : Bytes b) (h : (block_read_of b o).number ≡ 0) → i < length (read_accepted b o hb h).records → longest_record ≤ length o'
    → block_record_of b i o' ≡ written (sets o' 0 (bytes_of (record_at_place (read_accepted b o hb h).records i))) 0
unfolding block_record_of
look_up b o o' i hb h l room =
    let r = read_accepted b o hb h in
    let here : i < record_count b = rw r.count_is l in
    let n : place_number b i ≡ 0 = look_up_number b i ∙ rw (lt-ltb i (record_count b) here) (read_taken b o h).0 in
    rw (le-ltb (length o') longest_record room, eq-eqb (place_number b i) 0 n, r.each i l)

-- refused as the whole is
pub look_up_refused : (b o o' : List ℕ) (i : ℕ) → i < record_count b → longest_record ≤ length o' → length b - counts_length ≤ length o
    → (block_record_of b i o').number ≡ (block_read_of b o).number
unfolding block_record_of block_read_of
look_up_refused b o o' i l room room' =
    let n : place_number b i ≡ block_number b = look_up_number b i ∙ rw (lt-ltb i (record_count b) l) in
    rw (le-ltb (length o') longest_record room, le-ltb (length o) (length b - counts_length) room', n) (by_test (eqb (block_number b) 0))
  where
    by_test : (x : Bool) → (cond x (written (sets o' 0 (record_in b i)) 0) (written o' (block_number b))).number
        ≡ (cond x (written (sets o 0 (records_to b (record_count b))) 0) (written o (block_number b))).number
    by_test true = refl
    by_test false = refl
