-- What record check and record writer answer, from what the bytes and the arguments are.
use Rattle.std.specs.Prelude.{ℕ, ◌+◌, ◌^◌, ◌≤◌, ◌<◌, ◌≡◌, refl, Bool, false, ◌&&◌, cond, List, [], ◌++◌, length, take, drop, get_or, eqb, ltb}
use Rattle.std.proofs.Common.{◌∙◌, append-nil, arith, length-append, get_or-take, length-take-le, le-ltb, lt-ltb, le-leb, ne_eqb, ltb-true, ltb-false, eqb-true}
use Rattle.std.proofs.Math.Bool.{true}
use Rattle.lists.specs.Tests.{and_l, and_r}
use Rattle.lists.specs.Parts.{drop_behind}
use Rattle.le.specs.Le.{u16_at}
use Rattle.layout.specs.Record.{header_length, most_entries, Record, entries, WellFormed, header, addresses, values}
use Rattle.record.specs.Check.{zero_bytes_from, read_count, write_count, transaction_number, station_number, station_kind, length_of, head_ok_lem, head_at, rises, addresses_rise, laid_out_lem, check_of}
use Rattle.record.specs.Write.{record_bytes}
use Rattle.record.specs.Facts.{head_fits, Fit}
use Rattle.record.specs.Stores.{length_header}
use Rattle.record_meaning.proofs.LayoutLaws.{record_bytes_front, length_record_bytes, addresses_append, length_addresses, length_values}
use Rattle.record_meaning.proofs.Rise.{rises_behind, rises_of_rising}
use Rattle.record_meaning.specs.Head.{Head}
use Rattle.record_meaning.proofs.Head.{header_read}
use Rattle.kinds.specs.Kinds.{most_kind}
use Rattle.record_meaning.specs.Answers.{LaidOut}

pub laid : (s : List ℕ) → laid_out_lem s ≡ true → LaidOut s
unfolding head_at addresses_rise
laid s h =
    let ok = head_ok_lem (read_count s) (write_count s) (transaction_number s) (station_number s) (station_kind s) in
    let z₁ = eqb (get_or s zero_bytes_from 0) 0 in
    let z₂ = eqb (get_or s (zero_bytes_from + 1) 0) 0 in
    let reads = rises s header_length (read_count s) in
    let writes = rises s (header_length + read_count s) (write_count s) in
    let h-head = and_l (ok && z₁ && z₂) (reads && writes) h in
    let h-rise = and_r (ok && z₁ && z₂) (reads && writes) h in
    let h-ok = and_l (ok && z₁) z₂ h-head in
    record {
      head = head_fits _ _ _ _ _ (and_l ok z₁ h-ok);
      zero_first = eqb-true _ _ (and_r ok z₁ h-ok);
      zero_last = eqb-true _ _ (and_r (ok && z₁) z₂ h-head);
      reads_rise = and_l reads writes h-rise;
      writes_rise = and_r reads writes h-rise;
    }

accept : (s : List ℕ) → length_of s ≤ length s → laid_out_lem s ≡ true → check_of s ≡ 0
unfolding check_of
accept s h l = rw (le-ltb (length s) header_length (omega arith), le-ltb (length s) (length_of s) h, l)

short : (s : List ℕ) → length s < length_of s → check_of s ≡ 12
unfolding check_of
short s h = rw (lt-ltb (length s) (length_of s) h) (either (ltb (length s) header_length))
  where
    either : (b : Bool) → ◌≡◌ {A = ℕ} (cond b 12 12) 12
    either true = refl
    either false = refl

-- the sizes stand in the first four bytes
length_of_take : (k : ℕ) (s : List ℕ) → 4 ≤ k → length_of (take k s) ≡ length_of s
unfolding u16_at
length_of_take k s h = rw (get_or-take k s 0 0 (omega arith), get_or-take k s 1 0 (omega arith), get_or-take k s 2 0 (omega arith), get_or-take k s 3 0 (omega arith))

-- bytes that are cut inside their first record
pub short_take : (k : ℕ) (s : List ℕ) → k ≤ length s → k < length_of s → check_of (take k s) ≡ 12
short_take k s hk h = short (take k s) (rw (length-take-le k s hk) (by_test (ltb k 4) refl))
  where
    by_test : (b : Bool) → ltb k 4 ≡ b → k < length_of (take k s)
    by_test true e = let l = ltb-true k 4 e in omega arith
    by_test false e = rw (length_of_take k s (ltb-false k 4 e)) h

head_ok : (n m transaction station kind : ℕ) → n ≤ most_entries → m ≤ most_entries → 0 < transaction → station ≤ 7 → kind ≤ most_kind → head_ok_lem n m transaction station kind ≡ true
unfolding head_ok_lem
head_ok n m t s k hn hm ht hs hk = rw (le-leb n most_entries hn, le-leb m most_entries hm, ne_eqb t 0 (omega arith), le-leb s 7 hs, le-leb k most_kind hk)

-- the fields of a record fit
pub fit_of : (r : Record) → WellFormed r → Fit (length r.reads) (length r.writes) r.transaction r.station r.kind (addresses (entries r)) (values (entries r))
fit_of r w =
    let addrs = addresses (entries r) in
    let reads_at : drop 0 addrs ≡ addresses r.reads ++ addresses r.writes = addresses_append r.reads r.writes in
    let writes_at : drop (length r.reads) addrs ≡ addresses r.writes ++ [] =
    drop_behind (addresses r.reads) (addresses r.writes ++ []) addrs 0 (length r.reads) (rw append-nil reads_at) (rw length_addresses (omega arith)) in
    record {
      head = head_ok _ _ _ _ _ w.reads_count w.writes_count w.transaction_not_0 w.station_is w.kind_is;
      addresses_length = rw (length_addresses, length-append);
      values_length = rw (length_values, length-append);
      reads_rise = rises_of_rising r.reads (addresses r.writes) addrs 0 reads_at w.reads_rise;
      writes_rise = rises_of_rising r.writes [] addrs (length r.reads) writes_at w.writes_rise;
    }

-- arguments that fit, of which the numbers fit their bytes
module _ (n m commit transaction station kind : ℕ) (addrs vals : List ℕ) (f : Fit n m transaction station kind addrs vals) (hc : commit < 256 ^ 4) (ht : transaction < 256 ^ 4) where
  pub head_of : (rest : List ℕ) → Head n m commit transaction station kind (record_bytes n m commit transaction station kind addrs vals ++ rest)
  head_of rest =
      let h = head_fits n m transaction station kind f.head in
      rw record_bytes_front (header_read n m commit transaction station kind (addrs ++ (vals ++ rest)) (omega arith) (omega arith) hc ht)

  laid_out : (rest : List ℕ) → laid_out_lem (record_bytes n m commit transaction station kind addrs vals ++ rest) ≡ true
  unfolding head_at addresses_rise
  laid_out rest =
      let h = head_of rest in
      let p = header n m commit transaction station kind in
      let front = record_bytes_front n m commit transaction station kind addrs vals rest in
      let l = length_header n m commit transaction station kind in
      let s = record_bytes n m commit transaction station kind addrs vals ++ rest in
      let reads_rise : rises s header_length n ≡ true = rw front (rises_behind p addrs (vals ++ rest) 0 n header_length (omega arith) (omega arith) ∙ f.reads_rise) in
      let writes_rise : rises s (header_length + n) m ≡ true = rw front (rises_behind p addrs (vals ++ rest) n m (header_length + n) (omega arith) (omega arith) ∙ f.writes_rise) in
      rw (h.reads, h.writes, h.transaction_is, h.station_is, h.kind_is, h.zero_first, h.zero_last, f.head, reads_rise, writes_rise)

  -- the bytes that are written of them are accepted, whatever follows
  pub checks : (rest : List ℕ) → check_of (record_bytes n m commit transaction station kind addrs vals ++ rest) ≡ 0
  checks rest =
      let h = head_of rest in
      let l = length_record_bytes n m commit transaction station kind addrs vals f.addresses_length f.values_length in
      accept (record_bytes n m commit transaction station kind addrs vals ++ rest) (rw (h.reads, h.writes, length-append, l) (omega arith)) (laid_out rest)
