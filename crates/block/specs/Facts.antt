-- What the tests of a block tell.
use Rattle.std.specs.Prelude.{ℕ, zero, suc, ◌+◌, ◌*◌, ◌≤◌, ◌<◌, ◌≡◌, refl, List, Bool, true, false, ◌&&◌, cond, length, drop, get_or, eqb, ltb, leb}
use Rattle.std.proofs.Common.{⊎_elim, eq-or-lt_of_le, le_of_suc-le-suc, not-suc-le-zero, add_assoc, arith, get_or-drop, leb-true, ltb-true, ltb-false, eqb-true}
use Rattle.lists.specs.Tests.{and_l, and_r, all_to_at}
use Rattle.le.specs.Le.{u16_at}
use Rattle.layout.specs.Record.{header_length, most_entries}
use Rattle.record.specs.Check.{read_count_from, write_count_from, zero_bytes_from, read_count, write_count, transaction_number, station_number, station_kind, head_ok_lem, head_at, rises}
use Rattle.record.specs.Facts.{head_fits}
use Rattle.block.specs.Block.{most_records}
use Rattle.block.specs.Places.{counts_length, record_count, entry_total, header_at, planes_at, block_length, reads_at, writes_at, size_at, entries_to}
use Rattle.block.specs.Check.{shape_of, counts_agree, record_fits, record_fits_at, all_fit, block_number, place_number}

pub record Shaped (b : List ℕ) : Type 0 where
  pub some : 1 ≤ record_count b
  pub at_most : record_count b ≤ most_records
  pub length_is : length b ≡ block_length (record_count b) (entry_total b)

pub shaped : (b : List ℕ) → shape_of b ≡ true → Shaped b
unfolding shape_of
shaped b h =
    let x = leb 1 (record_count b) in
    let y = leb (record_count b) most_records in
    let z = eqb (length b) (block_length (record_count b) (entry_total b)) in
    let xy = and_l (x && y) z h in
    record { some = leb-true _ _ (and_l x y xy); at_most = leb-true _ _ (and_r x y xy); length_is = eqb-true _ _ (and_r (x && y) z h) }

pub record Agreed (b : List ℕ) : Type 0 where
  pub counts_there : counts_length ≤ length b
  pub shape : Shaped b
  pub total_is : entries_to b (record_count b) ≡ entry_total b

pub agreed : (b : List ℕ) → counts_agree b ≡ true → Agreed b
unfolding counts_agree
agreed b h = by_tests (ltb (length b) counts_length) (shape_of b) (eqb (entries_to b (record_count b)) (entry_total b)) refl refl refl h
  where
    by_tests : (x y z : Bool) → ltb (length b) counts_length ≡ x → shape_of b ≡ y → eqb (entries_to b (record_count b)) (entry_total b) ≡ z
        → cond x false (cond y z false) ≡ true → Agreed b
    by_tests false true true ex ey ez e = record { counts_there = ltb-false _ _ ex; shape = shaped b ey; total_is = eqb-true _ _ ez }
    by_tests true y z ex ey ez e = let w : ◌≡◌ {A = ℕ} 0 1 = cc in absurd (omega arith)
    by_tests false false z ex ey ez e = let w : ◌≡◌ {A = ℕ} 0 1 = cc in absurd (omega arith)
    by_tests false true false ex ey ez e = let w : ◌≡◌ {A = ℕ} 0 1 = cc in absurd (omega arith)

-- a record's entries end before those of all
pub entries_within : (b : List ℕ) (i c : ℕ) → i < c → entries_to b i + size_at b (header_at i) ≤ entries_to b c
unfolding entries_to
entries_within b i zero l = absurd (not-suc-le-zero l)
entries_within b i (suc c) l =
    ⊎_elim (λ e. rw e (omega arith)) (λ m. omega (arith, entries_within b i c m)) (eq-or-lt_of_le (le_of_suc-le-suc l))

-- a number of two bytes in a part
pub u16_at_drop : (a : ℕ) (s : List ℕ) (i : ℕ) → u16_at (drop a s) i ≡ u16_at s (a + i)
unfolding u16_at
u16_at_drop a s i = rw (get_or-drop a s i 0, get_or-drop a s (i + 1) 0, add_assoc a i 1)

-- a record's sizes, read where its header starts
pub size_at_is : (s : List ℕ) (at : ℕ) → size_at s at ≡ read_count (drop at s) + write_count (drop at s)
unfolding size_at
size_at_is s at = rw (u16_at_drop at s read_count_from, u16_at_drop at s write_count_from)

-- what a header that keeps the rules says of the record's sizes
pub head_size : (s : List ℕ) (at : ℕ) → head_at (drop at s) ≡ true → size_at s at ≤ 2 * most_entries
unfolding head_at
head_size s at h =
    let t = drop at s in
    let ok = head_ok_lem (read_count t) (write_count t) (transaction_number t) (station_number t) (station_kind t) in
    let x = eqb (get_or t zero_bytes_from 0) 0 in
    let y = eqb (get_or t (zero_bytes_from + 1) 0) 0 in
    let f = head_fits (read_count t) (write_count t) _ _ _ (and_l ok x (and_l (ok && x) y h)) in
    rw (size_at_is s at) (omega (arith, f.reads_count, f.writes_count))

-- the header of a record of a block that fits
head_there : (b : List ℕ) (i : ℕ) → all_fit b ≡ true → i < record_count b → head_at (drop (header_at i) b) ≡ true
unfolding all_fit record_fits_at record_fits
head_there b i h l =
    let at = header_at i in
    let a = header_at (record_count b) + entries_to b i in
    let x = head_at (drop at b) in
    let y = rises b a (reads_at b at) in
    let z = rises b (a + reads_at b at) (writes_at b at) in
    and_l x y (and_l (x && y) z (all_to_at (record_fits_at b) (record_count b) h i l))

-- an accepted look-up
pub record Found (b : List ℕ) (i : ℕ) : Type 0 where
  pub counts : counts_agree b ≡ true
  pub place : i < record_count b
  pub fit : all_fit b ≡ true

pub found : (b : List ℕ) (i : ℕ) → place_number b i ≡ 0 → Found b i
unfolding place_number
found b i h = by_tests (counts_agree b) (ltb i (record_count b)) (all_fit b) refl refl refl h
  where
    by_tests : (x y z : Bool) → counts_agree b ≡ x → ltb i (record_count b) ≡ y → all_fit b ≡ z → ◌≡◌ {A = ℕ} (cond x (cond y (cond z 0 5) 21) 21) 0 → Found b i
    by_tests true true true ex ey ez e = record { counts = ex; place = ltb-true _ _ ey; fit = ez }
    by_tests true true false ex ey ez e = absurd (omega arith)
    by_tests true false z ex ey ez e = absurd (omega arith)
    by_tests false y z ex ey ez e = absurd (omega arith)

pub found_size : (b : List ℕ) (i : ℕ) → Found b i → size_at b (header_at i) ≤ 2 * most_entries
found_size b i f = head_size b (header_at i) (head_there b i f.fit f.place)

-- an accepted block
pub record Taken (b : List ℕ) : Type 0 where
  pub counts : counts_agree b ≡ true
  pub fit : all_fit b ≡ true

pub taken : (b : List ℕ) → block_number b ≡ 0 → Taken b
unfolding block_number
taken b h = by_tests (counts_agree b) (all_fit b) refl refl h
  where
    by_tests : (x y : Bool) → counts_agree b ≡ x → all_fit b ≡ y → ◌≡◌ {A = ℕ} (cond x (cond y 0 5) 21) 0 → Taken b
    by_tests true true ex ey e = record { counts = ex; fit = ey }
    by_tests true false ex ey e = absurd (omega arith)
    by_tests false y ex ey e = absurd (omega arith)

-- what the counts say of the record at a place
pub record Placed (b : List ℕ) (i : ℕ) : Type 0 where
  pub header_there : header_at i + header_length ≤ length b
  pub addresses_there : header_at (record_count b) + entries_to b i + size_at b (header_at i) ≤ length b
  pub values_there : planes_at (record_count b) (entry_total b) + entries_to b i + size_at b (header_at i) + 7 * entry_total b ≤ length b
  pub so_far : entries_to b i + size_at b (header_at i) ≤ entry_total b
  pub length_is : length b ≡ block_length (record_count b) (entry_total b)

pub placed : (b : List ℕ) (i : ℕ) → Agreed b → i < record_count b → Placed b i
placed b i g l =
    let w = entries_within b i (record_count b) l in
    let e = g.total_is in
    let n = g.shape.length_is in
    record { header_there = omega arith; addresses_there = omega arith; values_there = omega arith; so_far = omega arith; length_is = n }
