-- A record's bytes are had back from what they say: the entries of what a list of rising entries says are that list.
use Rattle.std.specs.Prelude.{ℕ, zero, suc, ◌+◌, ◌≤◌, ◌<◌, ◌≡◌, refl, List, [], ◌∷◌, ◌≢◌, length}
use Rattle.std.proofs.Common.{sym, ap, ◌∙◌, arith, ne_eqb}
use Rattle.sets.specs.Base.{Val, none, some, table}
use Rattle.sets.specs.Laws.{by_eq}
use Rattle.sets.proofs.Laws.{eqb_yes, eqb_no}
use Rattle.layout.specs.Record.{Entry, Record, WellFormed, Rising, AllFit, bytes_of, archive_of}
use Rattle.entries.specs.Entries.{entry, entry_if, entries_from_lem, entries_of, value_in}
use Rattle.recs.specs.Recs.{as_record, records_of}
use Rattle.line.specs.Messages.{Rec}
use Rattle.line.specs.Fields.{record_fields}
use Rattle.line.specs.Fields
use Rattle.line.specs.Rows.{each}
use Rattle.message_meaning.specs.Meant.{version_in}
use Rattle.line_cases.specs.Wire.{entries_in, wire_record, wire_records}

-- THE MODEL'S ENTRIES ARE DOCUMENT 01'S

from_same : (n a : ℕ) (f : ℕ → Val) → entries_in (Fields.entries_from_lem n a f) ≡ entries_from_lem n a f
unfolding entries_from_lem
from_same zero a f = refl
from_same (suc n) a f = on_value (f a) (from_same n (suc a) f)
  where
    on_value : (c : Val) → entries_in (Fields.entries_from_lem n (suc a) f) ≡ entries_from_lem n (suc a) f
        → entries_in (Fields.entry a c (Fields.entries_from_lem n (suc a) f)) ≡ entry_if a c (entries_from_lem n (suc a) f)
    on_value none e = e
    on_value (some v) e = ap (λ (l : List Entry). entry a v ∷ l) e

pub entries_same : (f : ℕ → Val) → entries_in (Fields.entries f) ≡ entries_of f
unfolding entries_of
entries_same f = from_same 256 0 f

-- the bytes of the model's records
pub record_same : (r : Rec) → wire_record (record_fields r) ≡ bytes_of (as_record r)
record_same r =
    ap bytes_of
    (λ t.
    record {
      reads = entries_same r.reads t;
      writes = entries_same r.writes t;
      commit = r.number;
      transaction = r.transaction;
      station = r.station;
      kind = r.kind;
    })

pub records_same : (rs : List Rec) → wire_records (each record_fields rs) ≡ archive_of (records_of rs)
unfolding archive_of
records_same [] = refl
records_same (r ∷ rs) = rw (record_same r, records_same rs)

-- ENTRIES ARE HAD BACK

-- addresses rise from a on, below 256
abbrev From : ℕ → List Entry → Type 0
From a [] = Unit {0}
From a (e ∷ es) = (a ≤ e.address) × (e.address < 256) × From (suc e.address) es

from_rising : (a : ℕ) (e : Entry) (es : List Entry) → a ≤ e.address → Rising (e ∷ es) → AllFit (e ∷ es) → From a (e ∷ es)
from_rising a e [] l h f = (l, f.0.address, tt)
from_rising a e (g ∷ es) l h f = (l, f.0.address, from_rising (suc e.address) g es h.0 h.1 f.1)

from_start : (es : List Entry) → Rising es → AllFit es → From 0 es
from_start [] h f = tt
from_start (e ∷ es) h f = from_rising 0 e es (omega arith) h f

none_below : (b c : ℕ) (es : List Entry) → From c es → b < c → value_in es b ≡ none
none_below b c [] h l = refl
none_below b c (e ∷ es) h l =
    rw (ne_eqb b e.address (λ q. omega (arith, h.0, q))) (none_below b (suc e.address) es h.2 (omega (arith, h.0)))

entries_from : (n a : ℕ) (es : List Entry) (f : ℕ → Val) → a + n ≡ 256 → From a es → ((b : ℕ) → a ≤ b → f b ≡ value_in es b) → entries_from_lem n a f ≡ es
unfolding entries_from_lem
entries_from zero a [] f z h g = refl
entries_from zero a (e ∷ es) f z h g = absurd (omega (arith, h.0, h.1))
entries_from (suc n) a [] f z h g = rw (g a (omega arith)) (entries_from n (suc a) [] f (omega arith) tt (λ b l. g b (omega arith)))
entries_from (suc n) a (e ∷ es) f z h g =
    by_eq a e.address
    (λ q.
    let here : a ≡ e.address = eqb_yes a e.address q in
    let value : f a ≡ some e.value = g a (omega arith) ∙ rw q in
    let rest : entries_from_lem n (suc a) f ≡ es =
    entries_from n (suc a) es f (omega arith) (rw here h.2) (λ b l. g b (omega arith) ∙ rw (ne_eqb b e.address (λ r. omega (arith, r, here)))) in
    rw (value, rest, here))
    (λ q.
    let later : a ≢ e.address = eqb_no a e.address q in
    let none_here : f a ≡ none = g a (omega arith) ∙ rw q (none_below a (suc e.address) es h.2 (omega (arith, h.0))) in
    rw none_here (entries_from n (suc a) (e ∷ es) f (omega arith) (omega (arith, h.0, later), h.1, h.2) (λ b l. g b (omega arith))))

entries_back : (es : List Entry) → Rising es → AllFit es → entries_of (value_in es) ≡ es
unfolding entries_of
entries_back es h f = entries_from 256 0 es (value_in es) refl (from_start es h f) (λ b l. refl)

-- and so are the versions: one for each entry
versions_from_lem : (n a : ℕ) (es : List Entry) (f : ℕ → Val) (v g : ℕ → ℕ) (c : ℕ) → a + n ≡ 256 → From a es → ((b : ℕ) → a ≤ b → f b ≡ value_in es b)
    → ((b : ℕ) → a ≤ b → g b ≡ version_in v es c b) → Fields.versions_from n a f g ≡ table (length es) c v
versions_from_lem zero a [] f v g c z h k w = refl
versions_from_lem zero a (e ∷ es) f v g c z h k w = absurd (omega (arith, h.0, h.1))
versions_from_lem (suc n) a [] f v g c z h k w = rw (k a (omega arith)) (versions_from_lem n (suc a) [] f v g c (omega arith) tt (λ b l. k b (omega arith)) (λ b l. w b (omega arith)))
versions_from_lem (suc n) a (e ∷ es) f v g c z h k w =
    by_eq a e.address
    (λ q.
    let here : a ≡ e.address = eqb_yes a e.address q in
    let value : f a ≡ some e.value = k a (omega arith) ∙ rw q in
    let version : g a ≡ v c = w a (omega arith) ∙ rw q in
    let rest : Fields.versions_from n (suc a) f g ≡ table (length es) (suc c) v =
    versions_from_lem n (suc a) es f v g (suc c) (omega arith) (rw here h.2)
    (λ b l. k b (omega arith) ∙ rw (ne_eqb b e.address (λ r. omega (arith, r, here))))
    (λ b l. w b (omega arith) ∙ rw (ne_eqb b e.address (λ r. omega (arith, r, here)))) in
    rw (value, version, rest))
    (λ q.
    let later : a ≢ e.address = eqb_no a e.address q in
    let none_here : f a ≡ none = k a (omega arith) ∙ rw q (none_below a (suc e.address) es h.2 (omega (arith, h.0))) in
    rw none_here (versions_from_lem n (suc a) (e ∷ es) f v g c (omega arith) (omega (arith, h.0, later), h.1, h.2) (λ b l. k b (omega arith)) (λ b l. w b (omega arith))))

pub versions_back : (es : List Entry) → Rising es → AllFit es → (v : ℕ → ℕ) (c : ℕ) → Fields.versions_from 256 0 (value_in es) (version_in v es c) ≡ table (length es) c v
versions_back es h f v c = versions_from_lem 256 0 es (value_in es) v (version_in v es c) c refl (from_start es h f) (λ b l. refl) (λ b l. refl)

-- a record's bytes from what its entries say by address
pub record_back : (r : Record) → WellFormed r → (n t i k : ℕ) → r.commit ≡ n → r.transaction ≡ t → r.station ≡ i → r.kind ≡ k
    → wire_record (Fields.recorded n t i k (Fields.entries (value_in r.reads)) (Fields.entries (value_in r.writes))) ≡ bytes_of r
record_back r w n t i k en et ei ek =
    let reads_are = entries_same (value_in r.reads) ∙ entries_back r.reads w.reads_rise w.reads_fit in
    let writes_are = entries_same (value_in r.writes) ∙ entries_back r.writes w.writes_rise w.writes_fit in
    ap bytes_of
    (λ x.
    record {
      reads = reads_are x;
      writes = writes_are x;
      commit = sym en x;
      transaction = sym et x;
      station = sym ei x;
      kind = sym ek x;
    })
