-- One record: the bytes that the counts reader puts out are those of its shown fields.
use Rattle.std.specs.Prelude.{ℕ, ◌+◌, ◌*◌, ◌≡◌, List, ◌++◌, drop}
use native.Mathlib.Omega.{arith}
use Rattle.std.proofs.Math.ListN.{length}
use Rattle.std.proofs.Common.{length-append, take-append-drop}
use Rattle.std.proofs.Math.Seq.{take_at}
use Rattle.lists.specs.Bytes.{Bytes}
use Rattle.layout.specs.Record.{header_length, value_length, Record, WellFormed, addresses, values, bytes_of}
use Rattle.record.specs.Check.{read_count, write_count, commit_number, length_of, check_of}
use Rattle.record_meaning.specs.Parse.{record_of}
use Rattle.record_meaning.proofs.LayoutLaws.{length_addresses, length_values, places}
use Rattle.record_meaning.proofs.Meaning.{read_written}
use Rattle.archive.specs.Read.{fields_of}
use Rattle.archive_meaning.proofs.Facts.{fields_said}
use Rattle.counts.specs.Counts.{counts_length, written_addresses, written_values, counts_of, counts_on}
use Rattle.counts.specs.Facts.{length_counts_head}
use Rattle.counts_meaning.specs.View.{Counts, shown_of, counts_bytes, put_out}

pub length_counts_bytes : (c : Counts) → length (counts_bytes c) ≡ counts_length (length c.writes)
unfolding counts_bytes
length_counts_bytes c = simp (length-append, length_counts_head, length_addresses, length_values) (omega arith)

-- the counts of bytes that begin with a record are the record's
module _ (r : Record) (rest : List ℕ) (w : WellFormed r) where
  sizes : (read_count (bytes_of r ++ rest) ≡ length r.reads) × (write_count (bytes_of r ++ rest) ≡ length r.writes) × (commit_number (bytes_of r ++ rest) ≡ r.commit)
  unfolding fields_of
  sizes = let f = fields_said r rest 0 w in (f.reads_is, f.writes_is, f.commit_is)

  pub counts_mean : counts_of (bytes_of r ++ rest) ≡ counts_bytes (shown_of r)
  unfolding counts_of counts_bytes written_addresses written_values
  counts_mean =
      let p = places r rest in
      let n = length r.reads in
      let m = length r.writes in
      let place : header_length + n + m + value_length * n ≡ header_length + (n + m) + value_length * n = omega arith in
      rw (sizes.0, sizes.1, sizes.2, place, p.writes_at, p.write_values_at)
      (rw (take_at (addresses r.writes) _ m (length_addresses r.writes), take_at (values r.writes) rest (value_length * m) (length_values r.writes)))

  pub writes_said : write_count (bytes_of r ++ rest) ≡ length r.writes
  writes_said = sizes.1

-- an accepted record is put out as its shown fields
pub puts_out : (t o : List ℕ) → Bytes t → check_of t ≡ 0 → counts_on t o ≡ put_out (shown_of (record_of t)) o
unfolding counts_on
puts_out t o hs c =
    let b = read_written t hs c in
    let r = record_of t in
    let rest = drop (length_of t) t in
    let front : bytes_of r ++ rest ≡ t = rw b.bytes_are (take-append-drop (length_of t) t) in
    let counts : counts_of t ≡ counts_bytes (shown_of r) = rw front at (counts_mean r rest b.well_formed) in
    let count : write_count t ≡ length r.writes = rw front at (writes_said r rest b.well_formed) in
    rw (counts, count, length_counts_bytes (shown_of r))
