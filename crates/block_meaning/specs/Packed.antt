-- Records that the writer takes: what they are, and that what it packs is their block.
use Prim.Native.Nat.{ℕ, zero, suc, ◌+◌, ◌≤◌, ◌<◌}
use Rattle.std.specs.Prelude.{◌≡◌}
use Rattle.std.proofs.Math.Path.{refl, sym, ap}
use Rattle.std.proofs.Common.{◌∙◌, zero-add, length-drop, take-append-drop, lt-ltb, eq-eqb, ne_eqb}
use mathlib.Core.List.{List, [], ◌∷◌, ◌++◌, append_assoc, append-nil}
use native.Mathlib.Omega.{arith}
use Rattle.std.proofs.Math.ListN.{length, take, drop, length-append}
use Rattle.std.proofs.Math.Seq.{take_at, take-length}
use Rattle.lists.specs.Bytes.{Bytes, bytes_drop}
use Rattle.lists.specs.Parts.{part_join, drop_behind}
use Rattle.layout.specs.Record.{header_length, value_length, Entry, Record, AllWellFormed, entries, header, addresses, values, bytes_of, archive_of, record_length}
use Rattle.record.specs.Check.{check_of, length_of}
use Rattle.record.specs.Stores.{length_header}
use Rattle.record_meaning.specs.Parse.{record_of}
use Rattle.record_meaning.proofs.LayoutLaws.{length_bytes_of, addresses_append, length_addresses}
use Rattle.record_meaning.specs.Meaning.{WrittenBack}
use Rattle.record_meaning.proofs.Meaning.{written_read, read_written}
use Rattle.block.specs.Block.{most_records, Blocked, all_entries, headers, plane, block_of}
use Rattle.block.specs.Places.{size_at}
use Rattle.block.specs.Parts.{length_part}
use Rattle.block_writer.specs.Write.{scan_from, scan_of, start_of, entries_in, headers_to, addresses_to, column, plane_to, packed}
use Rattle.block_writer.specs.Facts.{Whole, checked, scan_ends}
use Rattle.block_meaning.specs.Lists.{entries_append, headers_append, archive_append, formed_append, plane_append, joined_same}
use Rattle.block_meaning.specs.Planes.{column_of_values}

one_more : (room : ℕ) (s : List ℕ) (at i e : ℕ) → at < length s → check_of (drop at s) ≡ 0
    → (scan_from room s (at + record_length (size_at s at) 0) (suc i) (e + size_at s at)).number ≡ 0 → (scan_from (suc room) s at i e).number ≡ 0
unfolding scan_from
one_more room s at i e l ok h = rw (lt-ltb at (length s) l, eq-eqb (check_of (drop at s)) 0 ok) h

-- a list of records, one behind the other, is scanned to its end
scan_records : (rs : List Record) (room : ℕ) (s : List ℕ) (at i e : ℕ) → length rs ≤ room → at ≤ length s → drop at s ≡ archive_of rs → AllWellFormed rs
    → (scan_from room s at i e).number ≡ 0
unfolding archive_of
scan_records [] room s at i e lr la d w =
    let n = ap length d in
    let m = length-drop at s in
    rw (scan_ends room s at i e (omega arith))
scan_records (r ∷ rs) zero s at i e lr la d w = absurd (omega arith)
scan_records (r ∷ rs) (suc room) s at i e lr la d w =
    let back = written_read r (archive_of rs) w.0 in
    let ok : check_of (drop at s) ≡ 0 = rw d back.accepts in
    let h = checked s at ok in
    let lr' = length_bytes_of r in
    let span : length_of (drop at s) ≡ length (bytes_of r) = rw d back.length_is in
    let n = ap length d ∙ length-append (bytes_of r) (archive_of rs) in
    let m = length-drop at s in
    let next : at + record_length (size_at s at) 0 ≡ at + length (bytes_of r) = omega (arith, h.length_is) in
    let rest = scan_records rs room s (at + length (bytes_of r)) (suc i) (e + size_at s at) (omega arith) (omega arith)
    (drop_behind (bytes_of r) (archive_of rs) s at (at + length (bytes_of r)) d refl) w.1 in
    one_more room s at i e (omega arith) ok (rw next rest)

some_bytes : (rs : List Record) → 1 ≤ length rs → length (archive_of rs) ≡ 0 → ⊥
unfolding archive_of
some_bytes [] l e = absurd (omega arith)
some_bytes (r ∷ rs) l e = absurd (omega (arith, length-append (bytes_of r) (archive_of rs), length_bytes_of r))

length_cut : (d : List ℕ) (n : ℕ) → n ≤ length d → length (take n d) ≡ n
length_cut d n h = length_part n 0 d (omega arith)

-- a list of 1 to 64 well_formed records is taken
pub scan_takes : (rs : List Record) → Blocked rs → (scan_of (archive_of rs)).number ≡ 0
unfolding scan_of
scan_takes rs k = rw (ne_eqb (length (archive_of rs)) 0 (some_bytes rs k.some)) (scan_records rs most_records (archive_of rs) 0 0 0 k.at_most (omega arith) refl k.well_formed)

-- the records that were taken, the first i of them
unfoldable pub taken_to : List ℕ → ℕ → List Record
taken_to s zero = []
taken_to s (suc i) = taken_to s i ++ (record_of (drop (start_of s i) s) ∷ [])

module _ (s : List ℕ) (c t : ℕ) (hs : Bytes s) (w : Whole s c t) where
  back : (i : ℕ) → i < c → WrittenBack (drop (start_of s i) s)
  back i l = read_written (drop (start_of s i) s) (bytes_drop (start_of s i) s hs) (w.each i l)

  -- what record i says, and where it stands
  record Stands (i : ℕ) : Type 0 where
    bytes_are : bytes_of (record_of (drop (start_of s i) s)) ≡ take (record_length (size_at s (start_of s i)) 0) (drop (start_of s i) s)
    header_is : headers (record_of (drop (start_of s i) s) ∷ []) ≡ take header_length (drop (start_of s i) s)
    count : length (entries (record_of (drop (start_of s i) s))) ≡ size_at s (start_of s i)
    addresses_are : addresses (entries (record_of (drop (start_of s i) s))) ≡ take (size_at s (start_of s i)) (drop (start_of s i + header_length) s)
    planes_are : (k : ℕ) → k < value_length
        → plane (entries (record_of (drop (start_of s i) s))) k ≡ column s (start_of s i + header_length + size_at s (start_of s i) + k) (size_at s (start_of s i))

  stands : (i : ℕ) → i < c → Stands i
  unfolding bytes_of
  stands i l =
      let at = start_of s i in
      let d = drop at s in
      let r = record_of d in
      let q = checked s at (w.each i l) in
      let n = size_at s at in
      let head = header (length r.reads) (length r.writes) r.commit r.transaction r.station r.kind in
      let lh = length_header (length r.reads) (length r.writes) r.commit r.transaction r.station r.kind in
      let bytes : bytes_of r ≡ take (record_length n 0) d = (back i l).bytes_are ∙ ap (λ (j : ℕ). take j d) q.length_is in
      let rest = drop (record_length n 0) d in
      let whole : d ≡ head ++ ((addresses (entries r) ++ values (entries r)) ++ rest) =
      sym (take-append-drop (record_length n 0) d) ∙ ap (λ (u : List ℕ). u ++ rest) (sym bytes) ∙ append_assoc head (addresses (entries r) ++ values (entries r)) rest in
      let la : length (bytes_of r) ≡ record_length n 0 = ap length bytes ∙ length_cut d (record_length n 0) (rw (length-drop at s) q.there) in
      let lr = length_bytes_of r in
      let count : length (entries r) ≡ n = length-append r.reads r.writes ∙ omega arith in
      let adr = drop_behind head ((addresses (entries r) ++ values (entries r)) ++ rest) s at (at + header_length) whole (omega arith) ∙ append_assoc (addresses (entries r)) (values (entries r)) rest in
      let lad = length_addresses (entries r) in
      let val = drop_behind (addresses (entries r)) (values (entries r) ++ rest) s (at + header_length) (at + header_length + n) adr (omega arith) in
      record {
        bytes_are = bytes;
        header_is = append-nil head ∙ sym (ap (take header_length) whole ∙ take_at head ((addresses (entries r) ++ values (entries r)) ++ rest) header_length lh);
        count = count;
        addresses_are = sym (ap (take n) adr ∙ take_at (addresses (entries r)) (values (entries r) ++ rest) n (lad ∙ count));
        planes_are = λ k m. sym (ap (column s (at + header_length + n + k)) (sym count) ∙ column_of_values (entries r) s rest (at + header_length + n) k m val);
      }

  formed_taken : (i : ℕ) → i ≤ c → AllWellFormed (taken_to s i)
  unfolding taken_to
  formed_taken zero l = tt
  formed_taken (suc i) l = formed_append (taken_to s i) (record_of (drop (start_of s i) s) ∷ []) (formed_taken i (omega arith)) ((back i l).well_formed, tt)

  count_taken : (i : ℕ) → length (taken_to s i) ≡ i
  unfolding taken_to
  count_taken zero = refl
  count_taken (suc i) = length-append (taken_to s i) (record_of (drop (start_of s i) s) ∷ []) ∙ omega (arith, count_taken i)

  archive_to : (i : ℕ) → i ≤ c → archive_of (taken_to s i) ≡ take (start_of s i) (drop 0 s)
  unfolding taken_to start_of archive_of
  archive_to zero l = refl
  archive_to (suc i) l =
      archive_append (taken_to s i) (record_of (drop (start_of s i) s) ∷ [])
      ∙ rw (archive_to i (omega arith), append-nil (bytes_of (record_of (drop (start_of s i) s))), (stands i l).bytes_are)
      (sym (part_join (start_of s i) (record_length (size_at s (start_of s i)) 0) 0 s ∙ ap (λ (j : ℕ). take (start_of s i) s ++ take (record_length (size_at s (start_of s i)) 0) (drop j s)) (zero-add (start_of s i))))

  -- nothing else stood there
  pub archive_taken : archive_of (taken_to s c) ≡ s
  archive_taken = archive_to c (omega arith) ∙ ap (λ (n : ℕ). take n s) w.ends ∙ take-length s

  more : (i : ℕ) → all_entries (taken_to s (suc i)) ≡ all_entries (taken_to s i) ++ entries (record_of (drop (start_of s i) s))
  unfolding taken_to
  more i =
      entries_append (taken_to s i) (record_of (drop (start_of s i) s) ∷ [])
      ∙ ap (λ (u : List Entry). all_entries (taken_to s i) ++ u) (append-nil (entries (record_of (drop (start_of s i) s))))

  entries_taken : (i : ℕ) → i ≤ c → length (all_entries (taken_to s i)) ≡ entries_in s i
  unfolding taken_to entries_in
  entries_taken zero l = refl
  entries_taken (suc i) l =
      ap length (more i) ∙ length-append (all_entries (taken_to s i)) (entries (record_of (drop (start_of s i) s))) ∙ rw (entries_taken i (omega arith), (stands i l).count)

  headers_taken : (i : ℕ) → i ≤ c → headers (taken_to s i) ≡ headers_to s i
  unfolding taken_to headers_to
  headers_taken zero l = refl
  headers_taken (suc i) l = headers_append (taken_to s i) (record_of (drop (start_of s i) s) ∷ []) ∙ rw (headers_taken i (omega arith), (stands i l).header_is)

  addresses_taken : (i : ℕ) → i ≤ c → addresses (all_entries (taken_to s i)) ≡ addresses_to s i
  unfolding taken_to addresses_to
  addresses_taken zero l = refl
  addresses_taken (suc i) l =
      ap addresses (more i)
      ∙ addresses_append (all_entries (taken_to s i)) (entries (record_of (drop (start_of s i) s)))
      ∙ rw (addresses_taken i (omega arith), (stands i l).addresses_are)

  planes_taken : (i k : ℕ) → i ≤ c → k < value_length → plane (all_entries (taken_to s i)) k ≡ plane_to s i k
  unfolding taken_to plane_to
  planes_taken zero k l m = refl
  planes_taken (suc i) k l m =
      ap (λ (u : List Entry). plane u k) (more i)
      ∙ plane_append (all_entries (taken_to s i)) (entries (record_of (drop (start_of s i) s))) k
      ∙ rw (planes_taken i k (omega arith) m, (stands i l).planes_are k m)

  -- what is packed is their block
  pub packed_taken : packed s c t ≡ block_of (taken_to s c)
  unfolding packed block_of
  packed_taken =
      let z = joined_same (plane (all_entries (taken_to s c))) (plane_to s c) value_length (λ k m. planes_taken c k (omega arith) m) in
      let e = entries_taken c (omega arith) ∙ w.total_is in
      rw (count_taken c, e, headers_taken c (omega arith), addresses_taken c (omega arith), z)

  not_none : (i : ℕ) → start_of s i ≡ length s → 0 < length s → 0 < i
  unfolding start_of
  not_none zero e h = absurd (omega arith)
  not_none (suc i) e h = omega arith

  pub blocked_taken : 0 < length s → Blocked (taken_to s c)
  blocked_taken h =
      let n = count_taken c in
      record { some = omega (arith, not_none c w.ends h); at_most = omega (arith, w.at_most); well_formed = formed_taken c (omega arith) }
