-- One record of a block, header, addresses and values apart: the block's tests of it are record check's of its bytes.
use Rattle.std.specs.Prelude.{ℕ, ◌+◌, ◌≤◌, ◌≡◌, cond, length, take, drop}
use Rattle.std.proofs.Math.Path.{sym, ap}
use Rattle.std.proofs.Common.{◌∙◌, add-zero, arith, take-append-drop}
use mathlib.Core.List.{List, ◌++◌}
use Rattle.std.proofs.Math.ListN.{get_or-append}
use borrow.Author.Tests.{le-ltb}
use Rattle.le.specs.Le.{u16_at}
use Rattle.layout.specs.Record.{header_length}
use Rattle.record.specs.Check.{read_count_from, write_count_from, transaction_number_from, station_number_from, station_kind_from, zero_bytes_from, read_count, write_count, length_of, head_at, rises, addresses_rise, laid_out_lem, check_of}
use Rattle.record_meaning.proofs.Rise.{rises_behind}
use Rattle.block.specs.Places.{reads_at, writes_at, size_at}
use Rattle.block.specs.Check.{record_fits}
use Rattle.block.specs.Facts.{u16_at_drop}
use Rattle.block.specs.Parts.{length_part}
use Rattle.block_reader.specs.Read.{rows, record_at}
use Rattle.block_reader.specs.Stores.{length_record_at}
use Rattle.block_meaning.specs.Lists.{and_assoc, u16_at_front, u32_at_front}

-- the header's test looks at the header alone
pub head_front : (x y : List ℕ) → header_length ≤ length x → head_at (x ++ y) ≡ head_at x
unfolding head_at
head_front x y l =
    rw (
      u16_at_front x y read_count_from (omega arith),
      u16_at_front x y write_count_from (omega arith),
      u32_at_front x y transaction_number_from (omega arith),
      get_or-append x y 0 station_number_from (omega arith),
      get_or-append x y 0 station_kind_from (omega arith),
      get_or-append x y 0 zero_bytes_from (omega arith),
      get_or-append x y 0 (zero_bytes_from + 1) (omega arith),
    )

-- a part and what follows it
part_rest : (n a : ℕ) (s : List ℕ) → drop a s ≡ take n (drop a s) ++ drop n (drop a s)
part_rest n a s = sym (take-append-drop n (drop a s))

-- addresses rise in a part just if they rise in the whole
rises_part : (s : List ℕ) (a k i n : ℕ) → a + k ≤ length s → i + n ≤ k → rises s (a + i) n ≡ rises (take k (drop a s)) i n
rises_part s a k i n h l =
    let y = take k (drop a s) in
    let whole : s ≡ take a s ++ (y ++ drop k (drop a s)) = sym (take-append-drop a s) ∙ ap (λ (u : List ℕ). take a s ++ u) (part_rest k a s) in
    let m : length (take a s) ≡ a = length_part a 0 s (omega arith) in
    ap (λ (u : List ℕ). rises u (a + i) n) whole ∙ rises_behind (take a s) y (drop k (drop a s)) i n (a + i) (omega arith) (rw (length_part k a s h) l)

-- the record of k entries in b whose header starts at h, addresses at a, values at p
module _ (b : List ℕ) (h a p t k : ℕ) (hh : h + header_length ≤ length b) (ha : a + k ≤ length b) (hk : k ≡ size_at b h) where
  abbrev x : List ℕ
  x = take header_length (drop h b)

  abbrev y : List ℕ
  y = take k (drop a b)

  lx : length x ≡ header_length
  lx = length_part header_length h b hh

  ly : length y ≡ k
  ly = length_part k a b ha

  number_there : (at : ℕ) → at + 2 ≤ header_length → u16_at (record_at b h a p t k) at ≡ u16_at b (h + at)
  unfolding record_at
  number_there at l =
      u16_at_front x (y ++ rows b p t k) at (omega (arith, lx))
      ∙ sym (u16_at_front x (drop header_length (drop h b)) at (omega (arith, lx)))
      ∙ ap (λ (u : List ℕ). u16_at u at) (sym (part_rest header_length h b))
      ∙ u16_at_drop h b at

  pub reads_there : read_count (record_at b h a p t k) ≡ reads_at b h
  reads_there = number_there read_count_from (omega arith)

  pub writes_there : write_count (record_at b h a p t k) ≡ writes_at b h
  writes_there = number_there write_count_from (omega arith)

  pub size_there : read_count (record_at b h a p t k) + write_count (record_at b h a p t k) ≡ k
  unfolding size_at
  size_there = rw (reads_there, writes_there) (sym hk)

  pub length_there : length_of (record_at b h a p t k) ≡ length (record_at b h a p t k)
  length_there = let e = size_there in rw (length_record_at b h a p t k hh ha) (omega arith)

  head_there : head_at (record_at b h a p t k) ≡ head_at (drop h b)
  unfolding record_at
  head_there =
      head_front x (y ++ rows b p t k) (omega (arith, lx))
      ∙ sym (head_front x (drop header_length (drop h b)) (omega (arith, lx)))
      ∙ ap head_at (sym (part_rest header_length h b))

  rise_there : (i n : ℕ) → i + n ≤ k → rises (record_at b h a p t k) (header_length + i) n ≡ rises b (a + i) n
  unfolding record_at
  rise_there i n l =
      rises_behind x y (rows b p t k) i n (header_length + i) (omega (arith, lx)) (omega (arith, ly)) ∙ sym (rises_part b a k i n ha l)

  pub laid_there : laid_out_lem (record_at b h a p t k) ≡ record_fits b h a
  unfolding record_fits addresses_rise
  laid_there =
      let n = reads_at b h in
      let m = writes_at b h in
      let e : n + m ≡ k = rw (← reads_there, ← writes_there) size_there in
      let r1 : rises (record_at b h a p t k) header_length n ≡ rises b a n = rise_there 0 n (omega arith) ∙ ap (λ (j : ℕ). rises b j n) (add-zero a) in
      let r2 = rise_there n m (omega arith) in
      rw (head_there, reads_there, writes_there, r1, r2) (sym (and_assoc (head_at (drop h b)) (rises b a n) (rises b (a + n) m)))

  pub check_there : check_of (record_at b h a p t k) ≡ cond (record_fits b h a) 0 5
  unfolding check_of
  check_there =
      let l = length_record_at b h a p t k hh ha in
      let e = length_there in
      rw (le-ltb (length (record_at b h a p t k)) header_length (omega arith), le-ltb (length (record_at b h a p t k)) (length_of (record_at b h a p t k)) (omega arith), laid_there)
