-- A message that the server takes is, byte for byte, document 01's of what it is read as: kinds 1 to 8.
use Rattle.std.specs.Prelude.{ℕ, ◌+◌, ◌-◌, ◌*◌, ◌/◌, ◌%◌, ◌≤◌, ◌≡◌, List, [], ◌++◌, ◌≢◌, take, drop, get_or}
use Rattle.std.proofs.Math.Path.{refl, sym}
use Rattle.std.proofs.Common.{ap, ◌∙◌, append-nil, arith, take_all}
use Rattle.std.proofs.Math.Nat.{zero-add}
use Rattle.std.proofs.Math.ListN.{length, length-drop}
use Rattle.lists.specs.Bytes.{Bytes, byte_at, bytes_drop}
use Rattle.sets.specs.Base.{table}
use Rattle.sets.specs.Laws.{by_eq}
use Rattle.sets.proofs.Laws.{eqb_yes, eqb_no}
use Rattle.le.specs.Width.{num_at}
use Rattle.le.specs.Laws.{u32_at_is}
use Rattle.record.specs.Check.{length_of}
use Rattle.record_meaning.specs.Parse.{record_of}
use Rattle.record_meaning.proofs.Meaning.{read_written}
use Rattle.line.specs.Messages.{address, Up, ReadRequest, WriteRequest, Commit, Abort, Purge, Busy, Done, WrittenSet}
use Rattle.line.specs.Server.{used_page}
use Rattle.line.specs.Fields.{no_values, no_versions, one_set_lem, object_set, page_set, fields, work_fields, entry_versions, up_fields}
use Rattle.layout.specs.Record.{value_length}
use Rattle.message.specs.Layout.{page_from, object_from, transaction_from, pages_from, version_from, sets_from, sets_length, second_set, values_from, version_width, behind_length, message_length, kind_of, station_of, page_of, requester_of, object_of, transaction_of, pages_of, set_of}
use Rattle.message.specs.Accepted.{Zero, fields_fit}
use Rattle.message.specs.Commit.{versions_at, record_at, entries_of as entries_in, entry_version}
use Rattle.message_meaning.specs.Meant.{objects_on, pages_in, work_at, up_of}
use Rattle.message_meaning.proofs.KindsLaws.{up_1, up_2, up_3, up_4, up_5, up_6, up_7, up_8}
use Rattle.message_meaning.proofs.Numbers.{numbers_written}
use Rattle.message_meaning.specs.Sent.{Reads}
use Rattle.message_meaning.specs.UpAccepted.{RequestFields, WriteRequestFields, AbortFields, PurgeFields, BusyFields, DoneFields, WrittenSetFields, CommitFields, UpAccepted}
use Rattle.message_meaning.proofs.UpAccepted.{up_accepted, commit_record, entries_are}
use Rattle.line_cases.specs.Wire.{words, wire_record, wire}
use Rattle.line_cases.specs.Parts.{part_rest, two_join, made, inside, zero_at, zero_32, zero_part, bits_back, table_same, table_join, words_table, set_of_page, pages_back, none_behind, zero_behind, one_set, no_sets_lem, none_behind_lem, none_from_pages}
use Rattle.line_cases.specs.Records.{versions_back, record_back}

-- KINDS OF ONE MESSAGE

module _ (i k : ℕ) (m : List ℕ) (hm : Bytes m) (hl : length m ≡ message_length) (own : station_of m ≡ i) where
  -- page and object are one address
  module _ (f : RequestFields m) where
    abbrev a : ℕ
    a = address (page_of m) (object_of m)

    page_is : page_of m ≡ a / 8
    page_is = omega (arith, f.object_is)

    object_is : object_of m ≡ a % 8
    object_is = omega (arith, f.object_is)

  bytes_1 : kind_of m ≡ 1 → RequestFields m → m ≡ wire (up_fields i k (ReadRequest (address (page_of m) (object_of m)) (transaction_of m)))
  bytes_1 e f = let r = none_from_pages m hl f.unnamed_pages in made m hm (omega arith) e own (page_is f) (object_is f) refl r.0 r.1 r.2 r.3

  -- a page, a transaction and a set
  with_set : (c : ℕ) → kind_of m ≡ c → Zero m object_from 1 → Zero m pages_from (sets_from - pages_from) → Zero m second_set (message_length - second_set)
      → m ≡ wire (fields c i (page_of m) 0 (transaction_of m) 0 0 (one_set_lem (object_set (objects_on (page_of m) (set_of m 0)) (page_of m))) no_values)
  with_set c e no_object no_pages z =
      let set_is = one_set m (omega arith) (inside m second_set (message_length - second_set) second_set (values_from - second_set) z (omega arith) (omega arith)) ∙ ap one_set_lem (sym (set_of_page (page_of m) (set_of m 0) (byte_at m sets_from hm))) in
      made m hm (omega arith) e own refl (zero_at m object_from 1 no_object (omega arith)) refl (zero_32 m pages_from (inside m pages_from (sets_from - pages_from) pages_from 4 no_pages (omega arith) (omega arith)))
      (zero_32 m version_from (inside m pages_from (sets_from - pages_from) version_from 4 no_pages (omega arith) (omega arith))) set_is (none_behind_lem m hl (inside m second_set (message_length - second_set) values_from behind_length z (omega arith) (omega arith)))

  bytes_2 : kind_of m ≡ 2 → WriteRequestFields m → m ≡ wire (up_fields i k (WriteRequest (page_of m) (transaction_of m) (objects_on (page_of m) (set_of m 0))))
  bytes_2 e f = with_set 2 e f.unnamed_object f.unnamed_pages f.unnamed_other_sets

  bytes_4 : kind_of m ≡ 4 → AbortFields m → m ≡ wire (up_fields i k (Abort (transaction_of m)))
  bytes_4 e f =
      let r = none_from_pages m hl f.unnamed_pages in
      made m hm (omega arith) e own (zero_at m page_from (transaction_from - page_from) f.unnamed_page (omega arith)) (zero_at m object_from 1 (inside m page_from (transaction_from - page_from) object_from 1 f.unnamed_page (omega arith) (omega arith)) (omega arith)) refl
      r.0 r.1 r.2 r.3

  bytes_5 : kind_of m ≡ 5 → PurgeFields m → m ≡ wire (up_fields i k (Purge (page_of m)))
  bytes_5 e f =
      let z = f.unnamed_object in
      let r = none_from_pages m hl (inside m object_from (message_length - object_from) pages_from (message_length - pages_from) z (omega arith) (omega arith)) in
      made m hm (omega arith) e own refl (zero_at m object_from (message_length - object_from) z (omega arith)) (zero_32 m transaction_from (inside m object_from (message_length - object_from) transaction_from 4 z (omega arith) (omega arith))) r.0 r.1 r.2 r.3

  bytes_6 : kind_of m ≡ 6 → BusyFields m → m ≡ wire (up_fields i k (Busy (requester_of m) (transaction_of m)))
  bytes_6 e f =
      let r = none_from_pages m hl f.unnamed_pages in
      made m hm (omega arith) e own refl (zero_at m object_from 1 f.unnamed_object (omega arith)) refl r.0 r.1 r.2 r.3

  bytes_7 : kind_of m ≡ 7 → DoneFields m → m ≡ wire (up_fields i k (Done (requester_of m) (transaction_of m) (pages_in (pages_of m))))
  bytes_7 e f =
      let z = f.unnamed_version in
      made m hm (omega arith) e own refl (zero_at m object_from 1 f.unnamed_object (omega arith)) refl (sym (pages_back m hm)) (zero_32 m version_from (inside m version_from (message_length - version_from) version_from 4 z (omega arith) (omega arith)))
      (no_sets_lem m (omega arith) (inside m version_from (message_length - version_from) sets_from sets_length z (omega arith) (omega arith))) (none_behind_lem m hl (inside m version_from (message_length - version_from) values_from behind_length z (omega arith) (omega arith)))

  bytes_8 : kind_of m ≡ 8 → WrittenSetFields m → m ≡ wire (up_fields i k (WrittenSet (page_of m) (transaction_of m) (objects_on (page_of m) (set_of m 0))))
  bytes_8 e f = with_set 8 e f.unnamed_object f.unnamed_pages f.unnamed_other_sets

-- THE COMMIT: "one version for each entry of its record, in record order", then the record

module _ (i k : ℕ) (m : List ℕ) (hm : Bytes m) (own : station_of m ≡ i) (f : CommitFields k m) where
  abbrev s : List ℕ
  s = drop (record_at m) m

  long : record_at m ≤ length m
  long = omega (arith, f.length_is)

  whole : message_length ≤ length m
  whole = omega (arith, long, f.parts_are.versions)

  pages_are : pages_of m ≡ page_set (used_page (work_at m))
  pages_are = sym (bits_back 32 0 (pages_of m) (used_page (work_at m)) (fields_fit m hm).pages_fit (λ p l. ap (used_page (work_at m)) (zero-add p) ∙ sym (f.pages_are p)))

  -- those of the reads, then those of the writes
  listed : table (entries_in m) 0 (entry_version m) ≡ entry_versions (work_at m)
  unfolding work_at
  listed =
      let r = record_of s in
      let w = commit_record k m hm f in
      rw (
        entries_are k m hm f,
        table_join (length r.reads) (length r.writes) 0 (entry_version m),
        zero-add (length r.reads),
        versions_back r.reads w.reads_rise w.reads_fit (entry_version m) 0,
        versions_back r.writes w.writes_rise w.writes_fit (entry_version m) (length r.reads),
      )

  versions_are : take (entries_in m * version_width) (drop versions_at m) ≡ words version_width (entry_versions (work_at m))
  versions_are =
      let n = entries_in m in
      sym (numbers_written version_width versions_at m n 0 hm (omega (arith, long, f.parts_are.versions)))
      ∙ sym (words_table version_width n 0 (λ e. num_at version_width m (versions_at + e * version_width)))
      ∙ ap (words version_width) (table_same n 0 (λ e. num_at version_width m (versions_at + e * version_width)) (entry_version m) (λ e l q. sym (u32_at_is m (versions_at + e * version_width))) ∙ listed)

  record_is : s ≡ wire_record (work_fields i k (work_at m)) ++ []
  unfolding work_at
  record_is =
      let w = commit_record k m hm f in
      let size : length_of s ≡ length s = omega (arith, f.length_is, length-drop (record_at m) m) in
      let back = (read_written s (bytes_drop (record_at m) m hm) f.record_accepted).bytes_are in
      sym (take_all (length_of s) s (omega (arith, size)))
      ∙ sym back
      ∙ sym (record_back (record_of s) w 0 (transaction_of m) i k f.commit_0 f.transaction_is (f.station_is ∙ own) f.kind_is)
      ∙ sym (append-nil (wire_record (work_fields i k (work_at m))))

  behind_message : drop versions_at m ≡ words version_width (entry_versions (work_at m)) ++ (wire_record (work_fields i k (work_at m)) ++ [])
  behind_message = sym (part_rest (entries_in m * version_width) versions_at (record_at m) m f.parts_are.versions) ∙ rw (versions_are, ← record_is)

  behind_sets : drop values_from m ≡ words value_length no_values ++ (words version_width no_versions ++ (words version_width (entry_versions (work_at m)) ++ (wire_record (work_fields i k (work_at m)) ++ [])))
  behind_sets =
      let zeros = inside m version_from (message_length - version_from) values_from behind_length f.unnamed_version (omega arith) (omega arith) in
      let none : take behind_length (drop values_from m) ≡ none_behind = zero_part m values_from behind_length zeros (omega (arith, whole)) ∙ zero_behind in
      sym (part_rest behind_length values_from versions_at m refl)
      ∙ ap (λ (l : List ℕ). l ++ drop versions_at m) none
      ∙ two_join (words value_length no_values) (words version_width no_versions) (drop versions_at m)
      ∙ ap (λ (l : List ℕ). words value_length no_values ++ (words version_width no_versions ++ l)) behind_message

  bytes_3 : kind_of m ≡ 3 → m ≡ wire (up_fields i k (Commit (work_at m)))
  unfolding work_at
  bytes_3 e =
      made m hm (omega (arith, whole)) e own (zero_at m page_from (transaction_from - page_from) f.unnamed_page (omega arith)) (zero_at m object_from 1 (inside m page_from (transaction_from - page_from) object_from 1 f.unnamed_page (omega arith) (omega arith)) (omega arith)) refl
      pages_are (zero_32 m version_from (inside m version_from (message_length - version_from) version_from 4 f.unnamed_version (omega arith) (omega arith))) (no_sets_lem m (omega (arith, whole)) (inside m version_from (message_length - version_from) sets_from sets_length f.unnamed_version (omega arith) (omega arith)))
      behind_sets

-- EVERY KIND THAT THE SERVER TAKES

module _ (kinds : List ℕ) (i : ℕ) (m : List ℕ) (hm : Bytes m) (own : station_of m ≡ i) where
  abbrev k : ℕ
  k = get_or kinds i 0

  written : UpAccepted kinds m → m ≡ wire (up_fields i k (up_of m))
  written h =
      let c = kind_of m in
      by_eq c 1 (λ e. let q = eqb_yes c 1 e in bytes_1 i k m hm (short 1 q (omega arith)) own q (h.request q) ∙ said (up_1 m q))
      (λ e1.
      let l2 : 2 ≤ c = omega (arith, h.kind_from_lem, eqb_no c 1 e1) in
      by_eq c 2 (λ e. let q = eqb_yes c 2 e in bytes_2 i k m hm (short 2 q (omega arith)) own q (h.write_request q) ∙ said (up_2 m q))
      (λ e2.
      let l3 : 3 ≤ c = omega (arith, l2, eqb_no c 2 e2) in
      by_eq c 3
      (λ e.
      let q = eqb_yes c 3 e in
      let f : CommitFields k m = rw own at (h.commit q) in
      bytes_3 i k m hm own f q ∙ said (up_3 m q))
      (λ e3.
      let l4 : 4 ≤ c = omega (arith, l3, eqb_no c 3 e3) in
      by_eq c 4 (λ e. let q = eqb_yes c 4 e in bytes_4 i k m hm (short 4 q (omega arith)) own q (h.abort q) ∙ said (up_4 m q))
      (λ e4.
      let l5 : 5 ≤ c = omega (arith, l4, eqb_no c 4 e4) in
      by_eq c 5 (λ e. let q = eqb_yes c 5 e in bytes_5 i k m hm (short 5 q (omega arith)) own q (h.purge q) ∙ said (up_5 m q))
      (λ e5.
      let l6 : 6 ≤ c = omega (arith, l5, eqb_no c 5 e5) in
      by_eq c 6 (λ e. let q = eqb_yes c 6 e in bytes_6 i k m hm (short 6 q (omega arith)) own q (h.busy q) ∙ said (up_6 m q))
      (λ e6.
      let l7 : 7 ≤ c = omega (arith, l6, eqb_no c 6 e6) in
      by_eq c 7 (λ e. let q = eqb_yes c 7 e in bytes_7 i k m hm (short 7 q (omega arith)) own q (h.done q) ∙ said (up_7 m q))
      (λ e7.
      let q : c ≡ 8 = omega (arith, l7, h.kind_to, eqb_no c 7 e7) in
      bytes_8 i k m hm (short 8 q (omega arith)) own q (h.written_set q) ∙ said (up_8 m q))))))))
    where
      short : (n : ℕ) → kind_of m ≡ n → n ≢ 3 → length m ≡ message_length
      short n e d = h.length_is (λ q. d (sym e ∙ q))

      said : {u : Up} → up_of m ≡ u → wire (up_fields i k u) ≡ wire (up_fields i k (up_of m))
      said e = ap (λ (u : Up). wire (up_fields i k u)) (sym e)

-- what the server reads as u is the bytes of u
pub up_written : (kinds : List ℕ) (i n : ℕ) (m : List ℕ) (u : Up) → Reads kinds i n m u → m ≡ wire (up_fields i (get_or kinds i 0) u)
up_written kinds i n m u h =
    written kinds i m h.bytes_are h.station_is (up_accepted kinds m h.accepted) ∙ ap (λ (v : Up). wire (up_fields i (get_or kinds i 0) v)) h.meant
