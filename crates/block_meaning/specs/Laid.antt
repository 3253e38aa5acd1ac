-- The block of a list of records: what stands where, and that each record is read from it.
use Prim.Native.Nat.{ℕ, zero, suc, ◌+◌, ◌*◌, ◌≤◌, ◌<◌}
use Rattle.std.specs.Prelude.{◌≡◌, Bool, true, false, cond, get_or}
use Rattle.std.proofs.Math.Path.{refl, ap}
use Rattle.std.proofs.Common.{sym, ◌∙◌, arith, take-append-drop, take-suc, drop-cons, get_or-append-add, get_or-drop}
use mathlib.Core.List.{List, [], ◌∷◌, ◌++◌, append_assoc, append-nil}
use Rattle.std.proofs.Math.ListN.{length, take, drop, length-append, get_or-append}
use Rattle.std.proofs.Math.Seq.{take_at, take-length}
use borrow.Author.Tests.{le-leb, le-ltb, eq-eqb}
use Rattle.lists.specs.Tests.{all_to_of}
use Rattle.lists.specs.Parts.{drop_behind}
use Rattle.le.specs.Le.{u16_at}
use Rattle.le.specs.Width.{bytes, length_bytes, num_at_bytes}
use Rattle.le.specs.Laws.{u16_at_is}
use Rattle.layout.specs.Record.{header_length, value_length, most_entries, Entry, Record, WellFormed, AllWellFormed, entries, header, addresses, bytes_of, archive_of}
use Rattle.record.specs.Check.{check_of}
use Rattle.record.specs.Stores.{length_header}
use Rattle.record_meaning.proofs.LayoutLaws.{addresses_append, length_addresses}
use Rattle.record_meaning.proofs.Head.{header_read}
use Rattle.record_meaning.proofs.Meaning.{written_read}
use Rattle.block.specs.Block.{most_records, Blocked, all_entries, headers, plane, joined, block_of}
use Rattle.block.specs.Places.{record_count_from, entry_total_from, counts_length, record_count, entry_total, header_at, planes_at, block_length, size_at, entries_to}
use Rattle.block.specs.Check.{shape_of, counts_agree, record_fits, record_fits_at, all_fit, block_number}
use Rattle.block.specs.Facts.{agreed, u16_at_drop, size_at_is, placed}
use Rattle.block_reader.specs.Read.{record_at, record_in, records_to}
use Rattle.block_meaning.specs.Lists.{entries_append, archive_append, archive_one, plane_append, length_plane, length_joined, joined_at}
use Rattle.block_meaning.specs.Parts.{check_there}
use Rattle.block_meaning.specs.Planes.{rows_of_planes}

-- what stands in for a record where a list has none
abbrev pub no_record : Record
no_record = record { reads = []; writes = []; commit = 0; transaction = 0; station = 0; kind = 0 }

abbrev pub record_at_place : List Record → ℕ → Record
record_at_place rs i = get_or rs i no_record

abbrev header_of : Record → List ℕ
header_of r = header (length r.reads) (length r.writes) r.commit r.transaction r.station r.kind

header_of_length : (r : Record) → length (header_of r) ≡ header_length
header_of_length r = length_header (length r.reads) (length r.writes) r.commit r.transaction r.station r.kind

pub formed_at : (rs : List Record) (i : ℕ) → AllWellFormed rs → i < length rs → WellFormed (record_at_place rs i)
formed_at [] i h l = absurd (omega arith)
formed_at (r ∷ rs) zero h l = h.0
formed_at (r ∷ rs) (suc i) h l = formed_at rs i h.1 (omega arith)

pub few : (rs : List Record) → AllWellFormed rs → length (all_entries rs) ≤ 2 * most_entries * length rs
few [] h = omega arith
few (r ∷ rs) h =
    let w = h.0 in
    rw (length-append (entries r) (all_entries rs), length-append r.reads r.writes) (omega (arith, few rs h.1, w.reads_count, w.writes_count))

headers_length : (rs : List Record) → length (headers rs) ≡ header_length * length rs
headers_length [] = refl
headers_length (r ∷ rs) = length-append (header_of r) (headers rs) ∙ omega (arith, header_of_length r, headers_length rs)

number_first : (v : ℕ) (rest : List ℕ) → v < 65536 → u16_at (bytes 2 v ++ rest) 0 ≡ v
number_first v rest h = u16_at_is (bytes 2 v ++ rest) 0 ∙ num_at_bytes 2 v rest h

passed : (v : Bool) → ◌≡◌ {A = ℕ} (cond v 0 5) 0 → v ≡ true
passed true e = refl
passed false e = absurd (omega arith)

module _ (rs : List Record) (k : Blocked rs) where
  abbrev es : List Entry
  es = all_entries rs

  abbrev c : ℕ
  c = length rs

  abbrev t : ℕ
  t = length es

  abbrev pl : List ℕ
  pl = joined (plane es) value_length

  abbrev b : List ℕ
  b = block_of rs

  few_all : t ≤ 2 * most_entries * most_records
  few_all = omega (arith, few rs k.well_formed, k.at_most)

  total_at : drop entry_total_from b ≡ bytes 2 t ++ (headers rs ++ (addresses es ++ pl))
  unfolding block_of
  total_at = drop_behind (bytes 2 c) (bytes 2 t ++ (headers rs ++ (addresses es ++ pl))) b record_count_from entry_total_from refl (rw length_bytes)

  headers_at : drop counts_length b ≡ headers rs ++ (addresses es ++ pl)
  headers_at = drop_behind (bytes 2 t) (headers rs ++ (addresses es ++ pl)) b entry_total_from counts_length total_at (rw length_bytes)

  addresses_at : drop (header_at c) b ≡ addresses es ++ pl
  addresses_at = drop_behind (headers rs) (addresses es ++ pl) b counts_length (header_at c) headers_at (rw headers_length)

  planes_at_lem : drop (planes_at c t) b ≡ pl
  planes_at_lem = drop_behind (addresses es) pl b (header_at c) (planes_at c t) addresses_at (rw length_addresses)

  pub count_is : record_count b ≡ c
  unfolding block_of
  count_is = number_first c (bytes 2 t ++ (headers rs ++ (addresses es ++ pl))) (omega (arith, k.at_most))

  pub total_is : entry_total b ≡ t
  total_is =
      sym (u16_at_drop entry_total_from b 0)
      ∙ ap (λ (s : List ℕ). u16_at s 0) total_at
      ∙ number_first t (headers rs ++ (addresses es ++ pl)) (omega (arith, few_all))

  pub length_is : length b ≡ block_length c t
  unfolding block_of
  length_is =
      rw (
        length-append (bytes 2 c),
        length-append (bytes 2 t),
        length-append (headers rs),
        length-append (addresses es),
        length_bytes 2 c,
        length_bytes 2 t,
        headers_length rs,
        length_addresses es,
        length_joined (plane es) value_length t (length_plane es),
      )
      (omega arith)

  -- where the headers from record i on stand, its own is the first
  header_first : (i : ℕ) → i < c → drop (header_at i) b ≡ headers (drop i rs) ++ (addresses es ++ pl)
      → drop (header_at i) b ≡ header_of (record_at_place rs i) ++ (headers (drop (suc i) rs) ++ (addresses es ++ pl))
  header_first i l e =
      e
      ∙ ap (λ (q : List Record). headers q ++ (addresses es ++ pl)) (drop-cons rs i no_record l)
      ∙ append_assoc (header_of (record_at_place rs i)) (headers (drop (suc i) rs)) (addresses es ++ pl)

  header_at_lem : (i : ℕ) → i ≤ c → drop (header_at i) b ≡ headers (drop i rs) ++ (addresses es ++ pl)
  header_at_lem zero l = headers_at
  header_at_lem (suc i) l =
      let r = record_at_place rs i in
      let rest = headers (drop (suc i) rs) ++ (addresses es ++ pl) in
      drop_behind (header_of r) rest b (header_at i) (header_at (suc i)) (header_first i l (header_at_lem i (omega arith))) (omega (arith, header_of_length r))

  header_there : (i : ℕ) → i < c → drop (header_at i) b ≡ header_of (record_at_place rs i) ++ (headers (drop (suc i) rs) ++ (addresses es ++ pl))
  header_there i l = header_first i l (header_at_lem i (omega arith))

  size_is : (i : ℕ) → i < c → size_at b (header_at i) ≡ length (entries (record_at_place rs i))
  size_is i l =
      let r = record_at_place rs i in
      let w = formed_at rs i k.well_formed l in
      let h = header_read (length r.reads) (length r.writes) r.commit r.transaction r.station r.kind (headers (drop (suc i) rs) ++ (addresses es ++ pl))
      (omega (arith, w.reads_count)) (omega (arith, w.writes_count)) w.commit_fits w.transaction_fits in
      size_at_is b (header_at i) ∙ rw (header_there i l, h.reads, h.writes, length-append r.reads r.writes)

  -- the entries before record i, of it, and behind it
  before : ℕ → List Entry
  before i = all_entries (take i rs)

  entries_are : (i : ℕ) → i < c → es ≡ before i ++ (entries (record_at_place rs i) ++ all_entries (drop (suc i) rs))
  unfolding before
  entries_are i l =
      ap all_entries (sym (take-append-drop i rs)) ∙ entries_append (take i rs) (drop i rs) ∙ ap (λ (q : List Record). before i ++ all_entries q) (drop-cons rs i no_record l)

  entries_before : (i : ℕ) → i ≤ c → entries_to b i ≡ length (before i)
  unfolding before entries_to
  entries_before zero l = refl
  entries_before (suc i) l =
      let r = record_at_place rs i in
      let more : all_entries (take (suc i) rs) ≡ before i ++ (entries r ++ []) = ap all_entries (take-suc rs i no_record l) ∙ entries_append (take i rs) (r ∷ []) in
      rw (entries_before i (omega arith), size_is i l, more, length-append (before i) (entries r ++ []), append-nil (entries r))

  -- byte j of value e of record i
  byte_of : (i j e : ℕ) → i < c → j < value_length → e < length (entries (record_at_place rs i))
      → get_or b (planes_at c t + length (before i) + j * t + e) 0 ≡ get_or (plane (entries (record_at_place rs i)) j) e 0
  byte_of i j e l lj le =
      let r = record_at_place rs i in
      let n = length (before i) in
      let post = all_entries (drop (suc i) rs) in
      let whole = entries_are i l in
      let lt : t ≡ n + (length (entries r) + length post) = ap length whole ∙ length-append (before i) (entries r ++ post) ∙ ap (λ (u : ℕ). n + u) (length-append (entries r) post) in
      let place : planes_at c t + n + j * t + e ≡ planes_at c t + (j * t + (n + e)) = omega arith in
      let split : plane es j ≡ plane (before i) j ++ (plane (entries r) j ++ plane post j) =
      ap (λ (u : List Entry). plane u j) whole ∙ plane_append (before i) (entries r ++ post) j ∙ ap (λ (u : List ℕ). plane (before i) j ++ u) (plane_append (entries r) post j) in
      let start : n + e ≡ length (plane (before i) j) + e = rw length_plane in
      rw (place, ← get_or-drop (planes_at c t) b (j * t + (n + e)) 0, planes_at_lem)
      (joined_at (plane es) value_length t j (n + e) (length_plane es) lj (omega arith)
      ∙ rw (split, start, get_or-append-add) (get_or-append (plane (entries r) j) (plane post j) 0 e (rw length_plane le)))

  pub record_laid : (i : ℕ) → i < c → record_in b i ≡ bytes_of (record_at_place rs i)
  unfolding record_in record_at bytes_of
  record_laid i l =
      let r = record_at_place rs i in
      let n = length (before i) in
      let m = length (entries r) in
      let post = all_entries (drop (suc i) rs) in
      let whole = entries_are i l in
      let lt : t ≡ n + (m + length post) = ap length whole ∙ length-append (before i) (entries r ++ post) ∙ ap (λ (j : ℕ). n + j) (length-append (entries r) post) in
      let head : take header_length (drop (header_at i) b) ≡ header_of r = ap (take header_length) (header_there i l) ∙ take_at (header_of r) _ header_length (header_of_length r) in
      let addrs : addresses es ≡ addresses (before i) ++ (addresses (entries r) ++ addresses post) =
      ap addresses whole ∙ addresses_append (before i) (entries r ++ post) ∙ ap (λ (u : List ℕ). addresses (before i) ++ u) (addresses_append (entries r) post) in
      let there : drop (header_at c) b ≡ addresses (before i) ++ ((addresses (entries r) ++ addresses post) ++ pl) =
      addresses_at ∙ ap (λ (u : List ℕ). u ++ pl) addrs ∙ append_assoc (addresses (before i)) (addresses (entries r) ++ addresses post) pl in
      let own = drop_behind (addresses (before i)) ((addresses (entries r) ++ addresses post) ++ pl) b (header_at c) (header_at c + n) there (rw length_addresses)
      ∙ append_assoc (addresses (entries r)) (addresses post) pl in
      let mid : take m (drop (header_at c + n) b) ≡ addresses (entries r) = ap (take m) own ∙ take_at (addresses (entries r)) (addresses post ++ pl) m (length_addresses (entries r)) in
      let vals = rows_of_planes (entries r) b (planes_at c t + n) t (λ j e lj le. byte_of i j e l lj le) in
      rw (count_is, total_is, size_is i l, entries_before i (omega arith), head, mid, vals)

  before_all : length (before c) ≡ t
  unfolding before
  before_all = ap (λ (q : List Record). length (all_entries q)) (take-length rs)

  pub agree : counts_agree b ≡ true
  unfolding counts_agree shape_of
  agree =
      let n = length_is in
      let lc = count_is in
      let lt = total_is in
      let whole : entries_to b c ≡ t = entries_before c (omega arith) ∙ before_all in
      rw (
        le-ltb (length b) counts_length (omega arith),
        lc,
        lt,
        le-leb 1 c k.some,
        le-leb c most_records k.at_most,
        eq-eqb (length b) (block_length c t) n,
        eq-eqb (entries_to b c) t whole,
      )

  fits_laid : (i : ℕ) → i < c → record_fits_at b i ≡ true
  unfolding record_fits_at record_in
  fits_laid i l =
      let r = record_at_place rs i in
      let q = placed b i (agreed b agree) (rw count_is l) in
      let good : check_of (bytes_of r) ≡ 0 = ap check_of (sym (append-nil (bytes_of r))) ∙ (written_read r [] (formed_at rs i k.well_formed l)).accepts in
      let same = check_there b (header_at i) (header_at (record_count b) + entries_to b i) (planes_at (record_count b) (entry_total b) + entries_to b i) (entry_total b) (size_at b (header_at i)) q.header_there q.addresses_there refl in
      passed (record_fits b (header_at i) (header_at (record_count b) + entries_to b i)) (sym same ∙ ap check_of (record_laid i l) ∙ good)

  pub all_fit_lem : all_fit b ≡ true
  unfolding all_fit
  all_fit_lem = all_to_of (record_fits_at b) (record_count b) (λ i l. fits_laid i (rw count_is at l))

  -- the block is accepted
  pub accepted : block_number b ≡ 0
  unfolding block_number
  accepted = rw (agree, all_fit_lem)

  -- .. and read as the records' bytes, one behind the other
  records_laid : (i : ℕ) → i ≤ c → records_to b i ≡ archive_of (take i rs)
  unfolding records_to archive_of
  records_laid zero l = refl
  records_laid (suc i) l =
      let r = record_at_place rs i in
      rw (records_laid i (omega arith), record_laid i l)
      (sym (ap archive_of (take-suc rs i no_record l) ∙ archive_append (take i rs) (r ∷ []) ∙ ap (λ (u : List ℕ). archive_of (take i rs) ++ u) (archive_one r)))

  pub all_laid : records_to b (record_count b) ≡ archive_of rs
  all_laid = ap (records_to b) count_is ∙ records_laid c (omega arith) ∙ ap archive_of (take-length rs)
