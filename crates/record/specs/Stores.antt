-- What the writer's stores leave, one behind the other.
use Rattle.std.specs.Prelude.{ℕ, ◌+◌, ◌*◌, ◌≤◌, ◌≡◌, refl, List, [], ◌∷◌, ◌++◌, length, drop, set}
use Rattle.std.proofs.Common.{◌∙◌, arith, length-append}
use Rattle.std.proofs.lemmas.List.Edits.{sets}
use Rattle.lists.specs.Stores.{sets_join, sets_front}
use Rattle.le.specs.Le.{set_u16, set_u32}
use Rattle.le.specs.Width.{bytes, length_bytes}
use Rattle.le.specs.Laws.{set_u16_is, set_u32_is}
use Rattle.layout.specs.Record.{header_length, value_length, header, record_length}
use Rattle.record.specs.Check.{read_count_from, write_count_from, commit_number_from, transaction_number_from, station_number_from, station_kind_from, zero_bytes_from}
use Rattle.record.specs.Write.{record_bytes}

pub length_header : (n m commit transaction station kind : ℕ) → length (header n m commit transaction station kind) ≡ header_length
unfolding header
length_header n m commit transaction station kind = simp (length-append, length_bytes)

-- the header's fields, stored at their places from the first to the last, are the header
pub header_stores : (n m commit transaction station kind : ℕ) (s : List ℕ) {s1 s2 s3 s4 s5 s6 s7 s8 : List ℕ}
    → s1 ≡ set_u16 s read_count_from n → s2 ≡ set_u16 s1 write_count_from m → s3 ≡ set_u32 s2 commit_number_from commit → s4 ≡ set_u32 s3 transaction_number_from transaction
    → s5 ≡ set s4 station_number_from station → s6 ≡ set s5 station_kind_from kind → s7 ≡ set s6 zero_bytes_from 0 → s8 ≡ set s7 (zero_bytes_from + 1) 0
    → s8 ≡ sets s 0 (header n m commit transaction station kind)
unfolding header
header_stores n m commit transaction station kind s e1 e2 e3 e4 e5 e6 e7 e8 =
    let tail = station ∷ kind ∷ 0 ∷ 0 ∷ [] in
    let b4 = bytes 4 transaction in
    let b3 = bytes 4 commit in
    let b2 = bytes 2 m in
    rw (e8, e7, e6, e5, e4, set_u32_is, e3, set_u32_is, e2, set_u16_is, e1, set_u16_is)
    (sets_join b4 tail (sets (sets (sets s read_count_from (bytes 2 n)) write_count_from b2) commit_number_from b3) transaction_number_from station_number_from (rw length_bytes)
    ∙ sets_join b3 (b4 ++ tail) (sets (sets s read_count_from (bytes 2 n)) write_count_from b2) commit_number_from transaction_number_from (rw length_bytes)
    ∙ sets_join b2 (b3 ++ (b4 ++ tail)) (sets s read_count_from (bytes 2 n)) write_count_from commit_number_from (rw length_bytes)
    ∙ sets_join (bytes 2 n) (b2 ++ (b3 ++ (b4 ++ tail))) s read_count_from write_count_from (rw length_bytes))

-- header, addresses and values, each behind the one before, are the record's bytes at the start, and the rest is as it was
pub record_stores : (n m commit transaction station kind : ℕ) (addrs vals s : List ℕ) {s1 s2 s3 : List ℕ}
    → s1 ≡ sets s 0 (header n m commit transaction station kind) → s2 ≡ sets s1 header_length addrs → s3 ≡ sets s2 (header_length + length addrs) vals
    → length addrs ≡ n + m → length vals ≡ value_length * (n + m) → record_length n m ≤ length s
    → s3 ≡ record_bytes n m commit transaction station kind addrs vals ++ drop (record_length n m) s
unfolding record_bytes
record_stores n m commit transaction station kind addrs vals s e1 e2 e3 ha hv h =
    let head = header n m commit transaction station kind in
    let l = length_header n m commit transaction station kind in
    let whole : record_length n m ≡ length (head ++ (addrs ++ vals)) = simp length-append (omega arith) in
    rw (e3, e2, e1)
    (sets_join addrs vals (sets s 0 head) header_length (header_length + length addrs) refl ∙ sets_join head (addrs ++ vals) s 0 header_length (omega arith)
    ∙ sets_front (head ++ (addrs ++ vals)) s (record_length n m) whole h)
