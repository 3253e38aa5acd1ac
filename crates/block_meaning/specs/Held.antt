-- What an accepted block holds: records that are well_formed, whose block it is, and whose bytes the reader gives.
use Prim.Native.Nat.{ℕ, zero, suc, ◌+◌, ◌*◌, ◌≤◌, ◌<◌}
use Rattle.std.specs.Prelude.{◌≡◌, Bool, true, drop}
use Rattle.std.proofs.Math.Path.{refl, sym, ap}
use Rattle.std.proofs.Common.{◌∙◌, zero-mul, suc-mul}
use Rattle.std.proofs.Math.Bool.{cond}
use mathlib.Core.List.{List, [], ◌∷◌, ◌++◌, append-nil}
use native.Mathlib.Omega.{arith}
use Rattle.std.proofs.Math.ListN.{length, take, length-append}
use Rattle.std.proofs.Math.Seq.{take-length, take_all}
use Rattle.lists.specs.Tests.{all_to_at}
use Rattle.lists.specs.Bytes.{Bytes, bytes_append, bytes_take, bytes_drop, byte_at}
use Rattle.lists.specs.Parts.{part_join}
use Rattle.le.specs.Width.{bytes, bytes_num_at}
use Rattle.le.specs.Le.{u16_at}
use Rattle.le.specs.Laws.{u16_at_is}
use Rattle.layout.specs.Record.{header_length, value_length, Entry, Record, AllWellFormed, entries, header, addresses, values, bytes_of, archive_of}
use Rattle.record.specs.Check.{check_of, length_of}
use Rattle.record.specs.Stores.{length_header}
use Rattle.record_meaning.specs.Parse.{record_of}
use Rattle.record_meaning.proofs.LayoutLaws.{length_bytes_of, addresses_append, length_addresses}
use Rattle.record_meaning.specs.Meaning.{WrittenBack}
use Rattle.record_meaning.proofs.Meaning.{read_written}
use Rattle.block.specs.Block.{Blocked, all_entries, headers, plane, joined, block_of}
use Rattle.block.specs.Places.{record_count_from, entry_total_from, counts_length, record_count, entry_total, header_at, planes_at, size_at, entries_to}
use Rattle.block.specs.Check.{record_fits, record_fits_at, all_fit}
use Rattle.block.specs.Facts.{Agreed, placed}
use Rattle.block.specs.Parts.{length_part}
use Rattle.block_reader.specs.Read.{row, rows, record_at, record_in, records_to}
use Rattle.block_reader.specs.Stores.{length_record_at}
use Rattle.block_meaning.specs.Lists.{split, entries_append, headers_append, archive_append, formed_append, plane_append, joined_same}
use Rattle.block_meaning.specs.Parts.{length_there, check_there}
use Rattle.block_meaning.specs.Planes.{planes_of_rows}

-- the records of a block, the first i of them
unfoldable pub held_to : List ℕ → ℕ → List Record
held_to b zero = []
held_to b (suc i) = held_to b i ++ (record_of (record_in b i) ∷ [])

row_bytes : (b : List ℕ) (p t : ℕ) → Bytes b → Bytes (row b p t)
unfolding row
row_bytes b p t h = (
  byte_at b p h,
  (
    byte_at b (p + t) h,
    (
      byte_at b (p + 2 * t) h,
      (
        byte_at b (p + 3 * t) h,
        (byte_at b (p + 4 * t) h, (byte_at b (p + 5 * t) h, (byte_at b (p + 6 * t) h, (byte_at b (p + 7 * t) h, tt)))),
      ),
    ),
  ),
)

rows_bytes : (b : List ℕ) (p t n : ℕ) → Bytes b → Bytes (rows b p t n)
unfolding rows
rows_bytes b p t zero h = tt
rows_bytes b p t (suc n) h = bytes_append (rows b p t n) (row b (p + n) t) (rows_bytes b p t n h) (row_bytes b (p + n) t h)

record_bytes : (b : List ℕ) (h a p t k : ℕ) → Bytes b → Bytes (record_at b h a p t k)
unfolding record_at
record_bytes b h a p t k hb =
    bytes_append (take header_length (drop h b)) (take k (drop a b) ++ rows b p t k) (bytes_take header_length (drop h b) (bytes_drop h b hb))
    (bytes_append (take k (drop a b)) (rows b p t k) (bytes_take k (drop a b) (bytes_drop a b hb)) (rows_bytes b p t k hb))

-- runs of t bytes, one behind the other, are one part
joined_parts : (s : List ℕ) (t n p : ℕ) → joined (λ k. take t (drop (p + k * t) s)) n ≡ take (n * t) (drop p s)
joined_parts s t zero p = rw (zero-mul t)
joined_parts s t (suc n) p =
    let first : p + 0 * t ≡ p = omega arith in
    let rest : joined (λ k. take t (drop (p + suc k * t) s)) n ≡ take (n * t) (drop (p + t) s) =
    joined_same (λ k. take t (drop (p + suc k * t) s)) (λ k. take t (drop (p + t + k * t) s)) n
    (λ k l. ap (λ (j : ℕ). take t (drop j s)) (next k)) ∙ joined_parts s t n (p + t) in
    let all : suc n * t ≡ t + n * t = rw (suc-mul n t) (omega arith) in
    rw (first, rest, all, part_join t (n * t) p s)
  where
    next : (k : ℕ) → p + suc k * t ≡ p + t + k * t
    next k = rw (suc-mul k t) (omega arith)

module _ (b : List ℕ) (hb : Bytes b) (g : Agreed b) (f : all_fit b ≡ true) where
  abbrev c : ℕ
  c = record_count b

  abbrev t : ℕ
  t = entry_total b

  fits_at : (i : ℕ) → i < c → record_fits b (header_at i) (header_at c + entries_to b i) ≡ true
  unfolding all_fit record_fits_at
  fits_at i l = all_to_at (record_fits_at b) c f i l

  pub check_at : (i : ℕ) → i < c → check_of (record_in b i) ≡ 0
  unfolding record_in
  check_at i l =
      let q = placed b i g l in
      check_there b (header_at i) (header_at c + entries_to b i) (planes_at c t + entries_to b i) t (size_at b (header_at i)) q.header_there q.addresses_there refl
      ∙ ap (λ (v : Bool). cond v 0 5) (fits_at i l)

  record_is_bytes : (i : ℕ) → Bytes (record_in b i)
  unfolding record_in
  record_is_bytes i = record_bytes b (header_at i) (header_at c + entries_to b i) (planes_at c t + entries_to b i) t (size_at b (header_at i)) hb

  record_whole : (i : ℕ) → i < c → length_of (record_in b i) ≡ length (record_in b i)
  unfolding record_in
  record_whole i l =
      let q = placed b i g l in
      length_there b (header_at i) (header_at c + entries_to b i) (planes_at c t + entries_to b i) t (size_at b (header_at i)) q.header_there q.addresses_there refl

  back_at : (i : ℕ) → i < c → WrittenBack (record_in b i)
  back_at i l = read_written (record_in b i) (record_is_bytes i) (check_at i l)

  -- the bytes of a record of the block are those of what it says
  pub bytes_at : (i : ℕ) → i < c → bytes_of (record_of (record_in b i)) ≡ record_in b i
  bytes_at i l = (back_at i l).bytes_are ∙ ap (λ (n : ℕ). take n (record_in b i)) (record_whole i l) ∙ take-length (record_in b i)

  -- what record i says, in its parts
  record Said (i : ℕ) : Type 0 where
    header_is : headers (record_of (record_in b i) ∷ []) ≡ take header_length (drop (header_at i) b)
    count : length (entries (record_of (record_in b i))) ≡ size_at b (header_at i)
    addresses_are : addresses (entries (record_of (record_in b i))) ≡ take (size_at b (header_at i)) (drop (header_at c + entries_to b i) b)
    values_are : values (entries (record_of (record_in b i))) ≡ rows b (planes_at c t + entries_to b i) t (size_at b (header_at i))

  said : (i : ℕ) → i < c → Said i
  unfolding record_in record_at bytes_of
  said i l =
      let q = placed b i g l in
      let r = record_of (record_in b i) in
      let k = size_at b (header_at i) in
      let x = take header_length (drop (header_at i) b) in
      let y = take k (drop (header_at c + entries_to b i) b) in
      let z = rows b (planes_at c t + entries_to b i) t k in
      let head = header (length r.reads) (length r.writes) r.commit r.transaction r.station r.kind in
      let lh = length_header (length r.reads) (length r.writes) r.commit r.transaction r.station r.kind in
      let lx = length_part header_length (header_at i) b q.header_there in
      let ly = length_part k (header_at c + entries_to b i) b q.addresses_there in
      let whole : length (bytes_of r) ≡ length (record_in b i) = ap length (bytes_at i l) in
      let lr = length_bytes_of r in
      let lb = length_record_at b (header_at i) (header_at c + entries_to b i) (planes_at c t + entries_to b i) t k q.header_there q.addresses_there in
      let n : length (entries r) ≡ k = length-append r.reads r.writes ∙ omega arith in
      let one = split head x (addresses (entries r) ++ values (entries r)) (y ++ z) (omega arith) (bytes_at i l) in
      let two = split (addresses (entries r)) y (values (entries r)) z (length_addresses (entries r) ∙ omega arith) one.1 in
      record { header_is = append-nil head ∙ one.0; count = n; addresses_are = two.0; values_are = two.1 }

  pub formed_held : (i : ℕ) → i ≤ c → AllWellFormed (held_to b i)
  unfolding held_to
  formed_held zero l = tt
  formed_held (suc i) l = formed_append (held_to b i) (record_of (record_in b i) ∷ []) (formed_held i (omega arith)) ((back_at i l).well_formed, tt)

  pub count_held : (i : ℕ) → length (held_to b i) ≡ i
  unfolding held_to
  count_held zero = refl
  count_held (suc i) = length-append (held_to b i) (record_of (record_in b i) ∷ []) ∙ omega (arith, count_held i)

  pub archive_held : (i : ℕ) → i ≤ c → archive_of (held_to b i) ≡ records_to b i
  unfolding held_to records_to archive_of
  archive_held zero l = refl
  archive_held (suc i) l =
      archive_append (held_to b i) (record_of (record_in b i) ∷ [])
      ∙ rw (archive_held i (omega arith), append-nil (bytes_of (record_of (record_in b i))), bytes_at i l)

  -- the entries of one record more
  more : (i : ℕ) → all_entries (held_to b (suc i)) ≡ all_entries (held_to b i) ++ entries (record_of (record_in b i))
  unfolding held_to
  more i = entries_append (held_to b i) (record_of (record_in b i) ∷ []) ∙ ap (λ (u : List Entry). all_entries (held_to b i) ++ u) (append-nil (entries (record_of (record_in b i))))

  entries_held : (i : ℕ) → i ≤ c → length (all_entries (held_to b i)) ≡ entries_to b i
  unfolding held_to entries_to
  entries_held zero l = refl
  entries_held (suc i) l =
      ap length (more i) ∙ length-append (all_entries (held_to b i)) (entries (record_of (record_in b i))) ∙ rw (entries_held i (omega arith), (said i l).count)

  headers_held : (i : ℕ) → i ≤ c → headers (held_to b i) ≡ take (header_length * i) (drop (header_at 0) b)
  unfolding held_to
  headers_held zero l = refl
  headers_held (suc i) l =
      let e : header_length * suc i ≡ header_length * i + header_length = omega arith in
      headers_append (held_to b i) (record_of (record_in b i) ∷ [])
      ∙ rw (headers_held i (omega arith), (said i l).header_is, e, part_join (header_length * i) header_length (header_at 0) b)

  addresses_held : (i : ℕ) → i ≤ c → addresses (all_entries (held_to b i)) ≡ take (entries_to b i) (drop (header_at c) b)
  unfolding entries_to held_to
  addresses_held zero l = refl
  addresses_held (suc i) l =
      ap addresses (more i)
      ∙ addresses_append (all_entries (held_to b i)) (entries (record_of (record_in b i)))
      ∙ rw (addresses_held i (omega arith), (said i l).addresses_are, part_join (entries_to b i) (size_at b (header_at i)) (header_at c) b)

  plane_said : (i k : ℕ) → i < c → k < value_length
      → plane (entries (record_of (record_in b i))) k ≡ take (size_at b (header_at i)) (drop (planes_at c t + k * t + entries_to b i) b)
  plane_said i k l m =
      let q = placed b i g l in
      let s = said i l in
      let n = s.count in
      let place : planes_at c t + entries_to b i + k * t ≡ planes_at c t + k * t + entries_to b i = omega arith in
      planes_of_rows (entries (record_of (record_in b i))) b (planes_at c t + entries_to b i) t k m (omega (arith, q.values_there)) (rw n s.values_are)
      ∙ rw (n, place)

  planes_held : (i k : ℕ) → i ≤ c → k < value_length → plane (all_entries (held_to b i)) k ≡ take (entries_to b i) (drop (planes_at c t + k * t) b)
  unfolding entries_to held_to
  planes_held zero k l m = refl
  planes_held (suc i) k l m =
      ap (λ (u : List Entry). plane u k) (more i)
      ∙ plane_append (all_entries (held_to b i)) (entries (record_of (record_in b i))) k
      ∙ rw (planes_held i k (omega arith) m, plane_said i k l m, part_join (entries_to b i) (size_at b (header_at i)) (planes_at c t + k * t) b)

  counts_held : (at : ℕ) → at + 2 ≤ length b → bytes 2 (u16_at b at) ≡ take 2 (drop at b)
  counts_held at l = ap (bytes 2) (u16_at_is b at) ∙ bytes_num_at 2 b at hb l

  -- the block of the records that it holds is the block
  pub block_held : block_of (held_to b c) ≡ b
  unfolding block_of
  block_held =
      let w = g.shape.length_is in
      let e = g.total_is in
      let z = joined_same (plane (all_entries (held_to b c))) (λ k. take t (drop (planes_at c t + k * t) b)) value_length
      (λ k m. planes_held c k (omega arith) m ∙ ap (λ (n : ℕ). take n (drop (planes_at c t + k * t) b)) e)
      ∙ joined_parts b t value_length (planes_at c t) in
      let y = addresses_held c (omega arith) ∙ ap (λ (n : ℕ). take n (drop (header_at c) b)) e in
      let x = headers_held c (omega arith) in
      let first = take 2 (drop record_count_from b) in
      let second = take 2 (drop entry_total_from b) in
      rw (count_held c, entries_held c (omega arith), e, counts_held record_count_from (omega arith), counts_held entry_total_from (omega arith), x, y, z)
      (sym (ap (λ (u : List ℕ). first ++ (second ++ (take (header_length * c) (drop counts_length b) ++ u))) (part_join t (value_length * t) (header_at c) b))
      ∙ sym (ap (λ (u : List ℕ). first ++ (second ++ u)) (part_join (header_length * c) (t + value_length * t) counts_length b))
      ∙ sym (ap (λ (u : List ℕ). first ++ u) (part_join 2 (header_length * c + (t + value_length * t)) entry_total_from b))
      ∙ sym (part_join 2 (2 + (header_length * c + (t + value_length * t))) record_count_from b)
      ∙ take_all (2 + (2 + (header_length * c + (t + value_length * t)))) b (omega arith))

  -- what an accepted block holds
  pub blocked_held : Blocked (held_to b c)
  blocked_held =
      let n = count_held c in
      record { some = omega (arith, g.shape.some); at_most = omega (arith, g.shape.at_most); well_formed = formed_held c (omega arith) }
