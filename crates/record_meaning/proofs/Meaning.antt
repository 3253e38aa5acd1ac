-- Record check means document 01's record: what it accepts, what that says, and in how many ways bytes can be read.
use Rattle.std.specs.Prelude.{ℕ, ◌+◌, ◌*◌, ◌<◌, ◌≡◌, refl, List, [], ◌∷◌, ◌++◌, length, take}
use Rattle.std.proofs.Common.{sym, ap, ◌∙◌, append-nil, add-zero, arith, length-append}
use Rattle.std.proofs.lemmas.List.{append_cancel_left}
use Rattle.std.proofs.lemmas.Bool.{eqb-false}
use Rattle.lists.specs.Bytes.{Bytes}
use Rattle.lists.specs.Parts.{part_join}
use Rattle.le.specs.Width.{num_at_lt}
use Rattle.le.specs.Laws.{u32_at_is}
use Rattle.layout.specs.Record.{header_length, value_length, Record, WellFormed, AllWellFormed, values, bytes_of, archive_of}
use Rattle.record.specs.Check.{commit_number_from, transaction_number_from, read_count, write_count, transaction_number, length_of, check_of}
use Rattle.record.specs.Facts.{Accepted, accepted}
use Rattle.record_meaning.specs.Parse.{entries_at, record_of}
use Rattle.record_meaning.proofs.LayoutLaws.{bytes_of_is, length_bytes_of, places}
use Rattle.record_meaning.specs.Head.{Head}
use Rattle.record_meaning.proofs.Head.{header_written}
use Rattle.record_meaning.proofs.Entries.{entries_read, length_entries_at, read_fits, rising_read, addresses_of, values_of}
use Rattle.record_meaning.specs.Answers.{LaidOut}
use Rattle.record_meaning.proofs.Answers.{laid, short_take, fit_of, head_of, checks}
use Rattle.record_meaning.specs.Meaning.{ReadBack, WrittenBack}

head_read : (r : Record) (rest : List ℕ) → WellFormed r
    → Head (length r.reads) (length r.writes) r.commit r.transaction r.station r.kind (bytes_of r ++ rest)
head_read r rest w = rw bytes_of_is (head_of _ _ _ _ _ _ _ _ (fit_of r w) w.commit_fits w.transaction_fits rest)

record_read : (r : Record) (rest : List ℕ) → WellFormed r → record_of (bytes_of r ++ rest) ≡ r
unfolding record_of
record_read r rest w =
    let h = head_read r rest w in
    let p = places r rest in
    let s = bytes_of r ++ rest in
    let n = length r.reads in
    let k = n + length r.writes in
    let reads_are : entries_at s (read_count s + write_count s) 0 (read_count s) ≡ r.reads =
    rw (h.reads, h.writes) (entries_read r.reads s _ (values r.writes ++ rest) k 0 p.reads_at (rw add-zero p.read_values_at) w.reads_fit) in
    let writes_are : entries_at s (read_count s + write_count s) (read_count s) (write_count s) ≡ r.writes =
    rw (h.reads, h.writes) (entries_read r.writes s _ rest k n p.writes_at p.write_values_at w.writes_fit) in
    λ t.
    record {
      reads = reads_are t;
      writes = writes_are t;
      commit = h.commit_is t;
      transaction = h.transaction_is t;
      station = h.station_is t;
      kind = h.kind_is t;
    }

pub written_read : (r : Record) (rest : List ℕ) → WellFormed r → ReadBack r rest
written_read r rest w =
    let h = head_read r rest w in
    record {
      accepts = rw bytes_of_is (checks _ _ _ _ _ _ _ _ (fit_of r w) w.commit_fits w.transaction_fits rest);
      record_is = record_read r rest w;
      length_is = rw (h.reads, h.writes, length_bytes_of r);
    }

bytes_read : (s : List ℕ) → Bytes s → Accepted s → LaidOut s → bytes_of (record_of s) ≡ take (length_of s) s
unfolding bytes_of record_of
bytes_read s hs a l =
    let n = read_count s in
    let m = write_count s in
    let k = n + m in
    let sizes : length_of s ≡ header_length + (k + value_length * k) = omega arith in
    rw (
      length_entries_at s k 0 n,
      length_entries_at s k n m,
      header_written s hs a.header_there l.zero_first l.zero_last,
      addresses_of s a.all_there,
      values_of s hs a.all_there,
      sizes,
      part_join header_length (k + value_length * k) 0 s,
      part_join k (value_length * k) header_length s,
    )

pub read_written : (s : List ℕ) → Bytes s → check_of s ≡ 0 → WrittenBack s
unfolding record_of
read_written s hs h =
    let a = accepted s h in
    let l = laid s a.layout in
    let n = read_count s in
    let m = write_count s in
    let k = n + m in
    record {
      well_formed =
          record {
            reads_count = rw length_entries_at l.head.reads_count;
            writes_count = rw length_entries_at l.head.writes_count;
            reads_rise = rising_read s k 0 n (omega arith) l.reads_rise;
            writes_rise = rising_read s k n m (omega arith) l.writes_rise;
            reads_fit = read_fits s k 0 n hs;
            writes_fit = read_fits s k n m hs;
            commit_fits = rw u32_at_is (num_at_lt 4 s commit_number_from hs);
            transaction_not_0 = omega (arith, eqb-false (transaction_number s) 0 l.head.transaction_not_0);
            transaction_fits = rw u32_at_is (num_at_lt 4 s transaction_number_from hs);
            station_is = l.head.station_is;
            kind_is = l.head.kind_is;
          };
      bytes_are = bytes_read s hs a l;
    }

-- bytes that begin with a record begin with no other, and what follows it is the same
pub same_bytes : (r r' : Record) (t t' : List ℕ) → WellFormed r → WellFormed r' → bytes_of r ++ t ≡ bytes_of r' ++ t' → (r ≡ r') × (t ≡ t')
same_bytes r r' t t' w w' e =
    let same : r ≡ r' = sym (record_read r t w) ∙ ap record_of e ∙ record_read r' t' w' in
    (same, append_cancel_left (bytes_of r) t t' (rw (← same) at e))

-- an archive can be read in one way only
pub archive_one_way : (rs rs' : List Record) → AllWellFormed rs → AllWellFormed rs' → archive_of rs ≡ archive_of rs' → rs ≡ rs'
unfolding archive_of
archive_one_way [] [] w w' e = refl
archive_one_way [] (r' ∷ rs') w w' e = absurd (omega (arith, simp (length-append, length_bytes_of) at (ap length e)))
archive_one_way (r ∷ rs) [] w w' e = absurd (omega (arith, simp (length-append, length_bytes_of) at (ap length e)))
archive_one_way (r ∷ rs) (r' ∷ rs') w w' e =
    let same = same_bytes r r' (archive_of rs) (archive_of rs') w.0 w'.0 e in
    let rest = archive_one_way rs rs' w.1 w'.1 same.1 in
    λ i. same.0 i ∷ rest i

-- number 12: bytes that end inside a record, the empty ones too
pub cut_short : (r : Record) (k : ℕ) → WellFormed r → k < length (bytes_of r) → check_of (take k (bytes_of r)) ≡ 12
cut_short r k w h =
    let sizes : length_of (bytes_of r) ≡ length (bytes_of r) = rw append-nil at (written_read r [] w).length_is in
    short_take k (bytes_of r) (omega arith) (omega arith)
