-- Record writer means document 01's record: it writes the bytes of every record, and of nothing else.
use Rattle.std.specs.Prelude.{ℕ, ◌+◌, ◌*◌, ◌^◌, ◌≤◌, ◌<◌, ◌≡◌, Bool, cond, List, [], ◌++◌}
use Rattle.std.proofs.Math.Path.{refl}
use Rattle.std.proofs.Common.{sym, ◌∙◌, append-nil, arith, take_at, take_all, le-ltb, eq-eqb, ltb-false}
use Rattle.std.proofs.Math.Bool.{true, false}
use Rattle.std.proofs.Math.ListN.{length, drop}
use Rattle.std.proofs.Math.Seq.{take-length}
use Rattle.std.proofs.Math.Dec.{ltb}
use Rattle.lists.specs.Bytes.{Bytes}
use Rattle.lists.specs.Parts.{drop_behind}
use Rattle.layout.specs.Record.{header_length, value_length, Record, entries, WellFormed, header, addresses, values, bytes_of, record_length}
use Rattle.record.specs.Check.{length_of, check_of}
use Rattle.record.specs.Write.{written, fits, record_bytes, write_of}
use Rattle.record.specs.Facts.{Fit, fit, head_fits}
use Rattle.record.specs.Stores.{length_header}
use Rattle.record_meaning.specs.Parse.{record_of}
use Rattle.record_meaning.proofs.LayoutLaws.{bytes_of_is, length_bytes_of, length_record_bytes, record_bytes_are}
use Rattle.record_meaning.specs.Head.{Head}
use Rattle.record_meaning.proofs.Entries.{length_entries_at, addresses_of, values_of}
use Rattle.record_meaning.proofs.Answers.{fit_of, head_of, checks}
use Rattle.record_meaning.proofs.Meaning.{read_written}

fits_of : (n m transaction station kind : ℕ) (addrs vals : List ℕ) → Fit n m transaction station kind addrs vals → fits n m transaction station kind addrs vals ≡ true
unfolding fits
fits_of n m t st k addrs vals f =
    rw (eq-eqb (length addrs) (n + m) f.addresses_length, f.head, eq-eqb (length vals) (value_length * (n + m)) f.values_length, f.reads_rise, f.writes_rise)

module _ (n m commit transaction station kind : ℕ) (addrs vals out : List ℕ) where
  -- arguments that fit, and an output with room, are written
  writes : record_length n m ≤ length out → fits n m transaction station kind addrs vals ≡ true
      → write_of n m commit transaction station kind addrs vals out ≡ written (record_bytes n m commit transaction station kind addrs vals ++ drop (record_length n m) out) 0
  unfolding write_of
  writes h f = rw (le-ltb (length out) (record_length n m) h, f)

  -- and nothing else is
  wrote : (write_of n m commit transaction station kind addrs vals out).number ≡ 0 → (record_length n m ≤ length out) × (fits n m transaction station kind addrs vals ≡ true)
  unfolding write_of
  wrote e = by_tests (ltb (length out) (record_length n m)) (fits n m transaction station kind addrs vals) refl refl e
    where
      by_tests : (a b : Bool) → ltb (length out) (record_length n m) ≡ a → fits n m transaction station kind addrs vals ≡ b
          → (cond a (written out 1) (cond b (written (record_bytes n m commit transaction station kind addrs vals ++ drop (record_length n m) out) 0) (written out 5))).number ≡ 0
          → (record_length n m ≤ length out) × (fits n m transaction station kind addrs vals ≡ true)
      by_tests true b ea eb e = absurd (omega arith)
      by_tests false true ea eb e = (ltb-false _ _ ea, eb)
      by_tests false false ea eb e = absurd (omega arith)

-- handed a record's fields, and an output with room, the writer writes the record's bytes
pub writer_writes : (r : Record) (out : List ℕ) → WellFormed r → length (bytes_of r) ≤ length out
    → write_of (length r.reads) (length r.writes) r.commit r.transaction r.station r.kind (addresses (entries r)) (values (entries r)) out
    ≡ written (bytes_of r ++ drop (length (bytes_of r)) out) 0
writer_writes r out w h =
    let n = length r.reads in
    let m = length r.writes in
    let addrs = addresses (entries r) in
    let vals = values (entries r) in
    let room : record_length n m ≤ length out = rw length_bytes_of at h in
    rw (length_bytes_of r, bytes_of_is r)
    (writes n m r.commit r.transaction r.station r.kind addrs vals out room (fits_of n m r.transaction r.station r.kind addrs vals (fit_of r w)))

-- the arguments that the writer takes are the fields of a record, and it writes that record's bytes
pub record WroteRecord (n m commit transaction station kind : ℕ) (addrs vals out : List ℕ) : Type 0 where
  pub from : Record
  pub well_formed : WellFormed from
  pub bytes : record_bytes n m commit transaction station kind addrs vals ≡ bytes_of from
  pub leaves : write_of n m commit transaction station kind addrs vals out ≡ written (bytes_of from ++ drop (length (bytes_of from)) out) 0
  pub reads_count : length from.reads ≡ n
  pub writes_count : length from.writes ≡ m
  pub commit_is : from.commit ≡ commit
  pub transaction_is : from.transaction ≡ transaction
  pub station_is : from.station ≡ station
  pub kind_is : from.kind ≡ kind
  pub addresses_are : addresses (entries from) ≡ addrs
  pub values_are : values (entries from) ≡ vals

pub writer_accepts_only : (n m commit transaction station kind : ℕ) (addrs vals out : List ℕ) → Bytes addrs → Bytes vals → commit < 256 ^ 4 → transaction < 256 ^ 4
    → (write_of n m commit transaction station kind addrs vals out).number ≡ 0 → WroteRecord n m commit transaction station kind addrs vals out
unfolding record_of record_bytes
writer_accepts_only n m c t st k addrs vals out ha hv hc ht e =
    let b = record_bytes n m c t st k addrs vals in
    let done = wrote n m c t st k addrs vals out e in
    let f = fit n m t st k addrs vals done.1 in
    let hf = head_fits n m t st k f.head in
    let hb = record_bytes_are n m c t st k addrs vals (omega arith) (omega arith) ha hv in
    let check : check_of b ≡ 0 = rw append-nil at (checks n m c t st k addrs vals f hc ht []) in
    let h : Head n m c t st k b = rw append-nil at (head_of n m c t st k addrs vals f hc ht []) in
    let back = read_written b hb check in
    let size = length_record_bytes n m c t st k addrs vals f.addresses_length f.values_length in
    let whole : length_of b ≡ length b = rw (h.reads, h.writes, size) in
    let same : b ≡ bytes_of (record_of b) = sym (back.bytes_are ∙ rw whole (take-length b)) in
    let addresses_at : drop header_length b ≡ addrs ++ vals = drop_behind (header n m c t st k) (addrs ++ vals) b 0 header_length refl (rw length_header) in
    let values_at : drop (header_length + (n + m)) b ≡ vals = drop_behind addrs vals b header_length (header_length + (n + m)) addresses_at (omega arith) in
    record {
      from = record_of b;
      well_formed = back.well_formed;
      bytes = same;
      leaves = rw (← same, size) (writes n m c t st k addrs vals out done.0 done.1);
      reads_count = rw length_entries_at h.reads;
      writes_count = rw length_entries_at h.writes;
      commit_is = h.commit_is;
      transaction_is = h.transaction_is;
      station_is = h.station_is;
      kind_is = h.kind_is;
      addresses_are = addresses_of b (omega arith) ∙ rw (h.reads, h.writes, addresses_at) (take_at addrs vals (n + m) f.addresses_length);
      values_are = values_of b hb (omega arith) ∙ rw (h.reads, h.writes, values_at) (take_all (value_length * (n + m)) vals (omega arith));
    }
