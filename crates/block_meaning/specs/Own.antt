-- What a look-up looks at: the block's counts, headers and addresses, and the values of its own record.
use Prim.Native.Nat.{ℕ, zero, suc, ◌+◌, ◌≤◌, ◌<◌}
use Rattle.std.proofs.Math.Path.{◌≡◌, refl, ap}
use Rattle.std.proofs.Common.{sym, ◌∙◌, zero-add, arith, eqb-true}
use Rattle.std.specs.Prelude.{Bool, length, take, drop, ltb}
use Rattle.std.proofs.Math.Bool.{true, false, cond}
use mathlib.Core.List.{List, [], ◌++◌}
use Rattle.std.proofs.Math.ListN.{length-append, length-drop}
use Rattle.std.proofs.lemmas.List.Edits.{sets}
use Rattle.std.proofs.lemmas.List.{take-append-le, drop-append-le}
use Rattle.std.proofs.Math.Dec.{eqb}
use Rattle.lists.specs.Parts.{all_to_same}
use Rattle.layout.specs.Record.{header_length, longest_record}
use Rattle.record.specs.Check.{read_count_from, write_count_from, head_at, rises}
use Rattle.record.specs.Write.{written}
use Rattle.record_meaning.proofs.Rise.{rises_behind}
use Rattle.block.specs.Places.{record_count_from, entry_total_from, record_count, entry_total, header_at, planes_at, reads_at, writes_at, size_at, entries_to}
use Rattle.block.specs.Check.{shape_of, counts_agree, record_fits, record_fits_at, all_fit, place_number}
use Rattle.block.specs.Facts.{Agreed, agreed, found, entries_within}
use Rattle.block_reader.specs.Read.{rows, record_at, record_in, block_record_of}
use Rattle.block_meaning.specs.Lists.{u16_at_front}
use Rattle.block_meaning.specs.Parts.{head_front}

-- the bytes of a record's values, out of the planes
abbrev pub own_values : List ℕ → ℕ → List ℕ
own_values b i = rows b (planes_at (record_count b) (entry_total b) + entries_to b i) (entry_total b) (size_at b (header_at i))

-- bytes that end where the planes begin, and what follows them
module _ (f x : List ℕ) (whole : length f ≡ planes_at (record_count f) (entry_total f)) where
  count_front : record_count (f ++ x) ≡ record_count f
  count_front = u16_at_front f x record_count_from (omega arith)

  total_front : entry_total (f ++ x) ≡ entry_total f
  total_front = u16_at_front f x entry_total_from (omega arith)

  reads_front : (h : ℕ) → h + header_length ≤ length f → reads_at (f ++ x) h ≡ reads_at f h
  reads_front h l = u16_at_front f x (h + read_count_from) (omega arith)

  writes_front : (h : ℕ) → h + header_length ≤ length f → writes_at (f ++ x) h ≡ writes_at f h
  writes_front h l = u16_at_front f x (h + write_count_from) (omega arith)

  size_front : (h : ℕ) → h + header_length ≤ length f → size_at (f ++ x) h ≡ size_at f h
  unfolding size_at
  size_front h l = rw (reads_front h l, writes_front h l)

  entries_front : (i : ℕ) → i ≤ record_count f → entries_to (f ++ x) i ≡ entries_to f i
  unfolding entries_to
  entries_front zero l = refl
  entries_front (suc i) l = rw (entries_front i (omega arith), size_front (header_at i) (omega arith))

  part_front : (n a : ℕ) → a + n ≤ length f → take n (drop a (f ++ x)) ≡ take n (drop a f)
  part_front n a l = rw (drop-append-le a f x (omega arith)) (take-append-le n (drop a f) x (rw length-drop (omega arith)))

  rises_front : (a n : ℕ) → a + n ≤ length f → rises (f ++ x) a n ≡ rises f a n
  rises_front a n l = rises_behind [] f x a n a (sym (zero-add a)) l

  fits_front : (h a : ℕ) → h + header_length ≤ length f → a + size_at f h ≤ length f → record_fits (f ++ x) h a ≡ record_fits f h a
  unfolding record_fits size_at
  fits_front h a lh la =
      let head : head_at (drop h (f ++ x)) ≡ head_at (drop h f) =
      ap head_at (drop-append-le h f x (omega arith)) ∙ head_front (drop h f) x (rw length-drop (omega arith)) in
      rw (head, reads_front h lh, writes_front h lh, rises_front a (reads_at f h) (omega arith), rises_front (a + reads_at f h) (writes_at f h) (omega arith))

  -- where header and addresses of record i stand before the planes
  record Before (i : ℕ) : Type 0 where
    place : i < record_count f
    addresses_there : header_at (record_count f) + entries_to f i + size_at f (header_at i) ≤ length f

  before : (i : ℕ) → Agreed (f ++ x) → i < record_count f → Before i
  before i g l =
      let w = entries_within (f ++ x) i (record_count (f ++ x)) (rw count_front l) in
      let e = g.total_is in
      let k = size_front (header_at i) (omega arith) in
      let q = entries_front i (omega arith) in
      record { place = l; addresses_there = omega (arith, count_front, total_front) }

  -- a record: its header and addresses from before the planes, and its own values
  record_front : (i : ℕ) → Before i
      → record_in (f ++ x) i ≡ take header_length (drop (header_at i) f) ++ (take (size_at f (header_at i)) (drop (header_at (record_count f) + entries_to f i) f) ++ own_values (f ++ x) i)
  unfolding record_in record_at
  record_front i w =
      let l = w.place in
      rw (
        count_front,
        total_front,
        entries_front i (omega arith),
        size_front (header_at i) (omega arith),
        part_front header_length (header_at i) (omega arith),
        part_front (size_at f (header_at i)) (header_at (record_count f) + entries_to f i) w.addresses_there,
      )

-- two blocks that differ behind their addresses alone
module _ (f x x' : List ℕ) (whole : length f ≡ planes_at (record_count f) (entry_total f)) (same : length x ≡ length x') where
  agree_same : counts_agree (f ++ x) ≡ counts_agree (f ++ x')
  unfolding counts_agree shape_of
  agree_same =
      let c = record_count f in
      rw (
        count_front f x whole,
        count_front f x' whole,
        total_front f x whole,
        total_front f x' whole,
        entries_front f x whole c (omega arith),
        entries_front f x' whole c (omega arith),
        length-append f x,
        length-append f x',
        same,
      )

  fits_same : (i : ℕ) → Agreed (f ++ x) → i < record_count f → record_fits_at (f ++ x) i ≡ record_fits_at (f ++ x') i
  unfolding record_fits_at
  fits_same i g l =
      let room = (before f x whole i g l).addresses_there in
      rw (
        count_front f x whole,
        count_front f x' whole,
        entries_front f x whole i (omega arith),
        entries_front f x' whole i (omega arith),
        fits_front f x whole (header_at i) (header_at (record_count f) + entries_to f i) (omega arith) room,
        fits_front f x' whole (header_at i) (header_at (record_count f) + entries_to f i) (omega arith) room,
      )

  all_same : Agreed (f ++ x) → all_fit (f ++ x) ≡ all_fit (f ++ x')
  unfolding all_fit
  all_same g =
      rw (count_front f x whole, count_front f x' whole) (all_to_same (record_fits_at (f ++ x)) (record_fits_at (f ++ x')) (record_count f) (λ i l. fits_same i g l))

  number_same : (i : ℕ) → place_number (f ++ x) i ≡ place_number (f ++ x') i
  unfolding place_number
  number_same i = by_test (counts_agree (f ++ x)) refl
    where
      by_test : (v : Bool) → counts_agree (f ++ x) ≡ v
          → ◌≡◌ {A = ℕ} (cond v (cond (ltb i (record_count (f ++ x))) (cond (all_fit (f ++ x)) 0 5) 21) 21) (cond (counts_agree (f ++ x')) (cond (ltb i (record_count (f ++ x'))) (cond (all_fit (f ++ x')) 0 5) 21) 21)
      by_test true e = rw (← agree_same, e, all_same (agreed (f ++ x) e), count_front f x whole, count_front f x' whole)
      by_test false e = rw (← agree_same, e)

  record_same : (i : ℕ) → place_number (f ++ x) i ≡ 0 → own_values (f ++ x) i ≡ own_values (f ++ x') i → record_in (f ++ x) i ≡ record_in (f ++ x') i
  record_same i n own =
      let d = found (f ++ x) i n in
      let w = before f x whole i (agreed (f ++ x) d.counts) (rw (count_front f x whole) at d.place) in
      let v : Before f x' whole i = record { place = w.place; addresses_there = w.addresses_there } in
      record_front f x whole i w ∙ rw own (sym (record_front f x' whole i v))

  -- A look-up answers the same in both where the record's own values are the same: what it is made of is the counts, headers and
  -- addresses of the block and the values of that record, and no other value
  pub look_up_own : (i : ℕ) (o : List ℕ) → own_values (f ++ x) i ≡ own_values (f ++ x') i → block_record_of (f ++ x) i o ≡ block_record_of (f ++ x') i o
  unfolding block_record_of
  look_up_own i o own = ap (cond (ltb (length o) longest_record) (written o 1)) (rw (← number_same i) (by_test (eqb (place_number (f ++ x) i) 0) refl))
    where
      by_test : (v : Bool) → eqb (place_number (f ++ x) i) 0 ≡ v
          → cond v (written (sets o 0 (record_in (f ++ x) i)) 0) (written o (place_number (f ++ x) i)) ≡ cond v (written (sets o 0 (record_in (f ++ x') i)) 0) (written o (place_number (f ++ x) i))
      by_test true e = ap (λ (u : List ℕ). written (sets o 0 u) 0) (record_same i (eqb-true _ _ e) own)
      by_test false e = refl
