-- The layout's bytes: how many they are, that they are bytes, and where each part stands.
use Rattle.std.specs.Prelude.{ℕ, suc, ◌+◌, ◌*◌, ◌<◌, ◌≡◌, refl, List, [], ◌∷◌, ◌++◌, length, drop}
use Rattle.std.proofs.Common.{ap, ◌∙◌, append_assoc, arith, length-append}
use Rattle.lists.specs.Bytes.{Bytes, bytes_append}
use Rattle.lists.specs.Parts.{drop_behind}
use Rattle.le.specs.Width.{bytes, length_bytes, bytes_are}
use Rattle.layout.specs.Record.{header_length, value_length, Entry, Record, entries, AllFit, WellFormed, header, addresses, values, bytes_of, record_length}
use Rattle.record.specs.Write.{record_bytes}
use Rattle.record.specs.Stores.{length_header}
use Rattle.record_meaning.specs.Layout.{Places}

-- the layout's bytes are those that the writer's definition gives for the record's fields
pub bytes_of_is : (r : Record)
    → bytes_of r ≡ record_bytes (length r.reads) (length r.writes) r.commit r.transaction r.station r.kind (addresses (entries r)) (values (entries r))
unfolding bytes_of record_bytes
bytes_of_is r = refl

pub record_bytes_front : (n m commit transaction station kind : ℕ) (addrs vals rest : List ℕ)
    → record_bytes n m commit transaction station kind addrs vals ++ rest ≡ header n m commit transaction station kind ++ (addrs ++ (vals ++ rest))
unfolding record_bytes
record_bytes_front n m c t st k addrs vals rest = rw (append_assoc, append_assoc)

pub addresses_append : (es fs : List Entry) → addresses (es ++ fs) ≡ addresses es ++ addresses fs
addresses_append [] fs = refl
addresses_append (e ∷ es) fs = rw (addresses_append es fs)

pub values_append : (es fs : List Entry) → values (es ++ fs) ≡ values es ++ values fs
values_append [] fs = refl
values_append (e ∷ es) fs = rw (values_append es fs, append_assoc)

pub length_addresses : (es : List Entry) → length (addresses es) ≡ length es
length_addresses [] = refl
length_addresses (e ∷ es) = ap suc (length_addresses es)

pub length_values : (es : List Entry) → length (values es) ≡ value_length * length es
length_values [] = refl
length_values (e ∷ es) = rw (length-append, length_bytes, length_values es) (omega arith)

-- "Length 16 + 9 × (n + m)"
pub length_record_bytes : (n m commit transaction station kind : ℕ) (addrs vals : List ℕ) → length addrs ≡ n + m → length vals ≡ value_length * (n + m)
    → length (record_bytes n m commit transaction station kind addrs vals) ≡ record_length n m
unfolding record_bytes
length_record_bytes n m c t st k addrs vals ha hv = simp (length-append, length_header, ha, hv) (omega arith)

pub length_bytes_of : (r : Record) → length (bytes_of r) ≡ record_length (length r.reads) (length r.writes)
length_bytes_of r =
    rw bytes_of_is
    (length_record_bytes _ _ _ _ _ _ (addresses (entries r)) (values (entries r)) (rw (length_addresses, length-append)) (rw (length_values, length-append)))

fit_append : (es fs : List Entry) → AllFit es → AllFit fs → AllFit (es ++ fs)
fit_append [] fs he hf = hf
fit_append (e ∷ es) fs he hf = (he.0, fit_append es fs he.1 hf)

addresses_are : (es : List Entry) → AllFit es → Bytes (addresses es)
addresses_are [] h = tt
addresses_are (e ∷ es) h = (h.0.address, addresses_are es h.1)

values_are : (es : List Entry) → Bytes (values es)
values_are [] = tt
values_are (e ∷ es) = bytes_append (bytes value_length e.value) (values es) (bytes_are value_length e.value) (values_are es)

header_are : (n m commit transaction station kind : ℕ) → station < 256 → kind < 256 → Bytes (header n m commit transaction station kind)
unfolding header
header_are n m c t st k hs hk =
    bytes_append (bytes 2 n) _ (bytes_are 2 n)
    (bytes_append (bytes 2 m) _ (bytes_are 2 m)
    (bytes_append (bytes 4 c) _ (bytes_are 4 c) (bytes_append (bytes 4 t) _ (bytes_are 4 t) (hs, (hk, (omega arith, (omega arith, tt)))))))

pub record_bytes_are : (n m commit transaction station kind : ℕ) (addrs vals : List ℕ) → station < 256 → kind < 256 → Bytes addrs → Bytes vals
    → Bytes (record_bytes n m commit transaction station kind addrs vals)
unfolding record_bytes
record_bytes_are n m c t st k addrs vals hs hk ha hv =
    bytes_append (header n m c t st k) (addrs ++ vals) (header_are n m c t st k hs hk) (bytes_append addrs vals ha hv)

pub bytes_of_are : (r : Record) → WellFormed r → Bytes (bytes_of r)
bytes_of_are r w =
    let fit = fit_append r.reads r.writes w.reads_fit w.writes_fit in
    rw bytes_of_is
    (record_bytes_are _ _ _ _ _ _ (addresses (entries r)) (values (entries r)) (omega arith) (omega arith) (addresses_are (entries r) fit) (values_are (entries r)))

pub places : (r : Record) (rest : List ℕ) → Places r rest (bytes_of r ++ rest)
places r rest =
    let s = bytes_of r ++ rest in
    let n = length r.reads in
    let m = length r.writes in
    let head = header n m r.commit r.transaction r.station r.kind in
    let a1 = addresses r.reads in
    let a2 = addresses r.writes in
    let v1 = values r.reads in
    let v2 = values r.writes in
    let v = values (entries r) in
    let e0 : drop 0 s ≡ head ++ (a1 ++ (a2 ++ (v ++ rest))) =
    rw (bytes_of_is r, record_bytes_front, addresses_append r.reads r.writes, append_assoc) in
    let e1 = drop_behind head (a1 ++ (a2 ++ (v ++ rest))) s 0 header_length e0 (rw length_header) in
    let e2 = drop_behind a1 (a2 ++ (v ++ rest)) s header_length (header_length + n) e1 (rw length_addresses) in
    let e3 : drop (header_length + (n + m)) s ≡ v1 ++ (v2 ++ rest) =
    drop_behind a2 (v ++ rest) s (header_length + n) (header_length + (n + m)) e2 (rw length_addresses (omega arith)) ∙ rw (values_append r.reads r.writes, append_assoc) in
    let e4 = drop_behind v1 (v2 ++ rest) s (header_length + (n + m)) (header_length + (n + m) + value_length * n) e3 (rw length_values) in
    record { reads_at = e1; writes_at = e2; read_values_at = e3; write_values_at = e4 }
