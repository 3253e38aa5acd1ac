-- The reader at one position: when it gives a record, the end or a number, and what each of them tells.
use Rattle.std.specs.Prelude.{ℕ, suc, ◌+◌, ◌≤◌, ◌<◌, ◌≡◌, refl, List, [], ◌∷◌, ◌++◌, Bool, true, false, cond, length, drop, eqb, ltb}
use Rattle.std.proofs.Common.{sym, ap, ◌∙◌, add-one, arith, length-append, length-drop, take-append-drop, drop-drop, le-ltb, eq-eqb, ne_eqb, ltb-true, eqb-true}
use Rattle.std.proofs.lemmas.Bool.{eqb-false}
use Rattle.lists.specs.Bytes.{Bytes, bytes_drop}
use Rattle.layout.specs.Record.{header_length, Record, WellFormed, bytes_of}
use Rattle.record.specs.Check.{commit_number, length_of, laid_out_lem, check_of}
use Rattle.record_meaning.specs.Parse.{record_of}
use Rattle.record_meaning.proofs.LayoutLaws.{length_bytes_of}
use Rattle.record_meaning.proofs.Entries.{length_entries_at}
use Rattle.record_meaning.proofs.Meaning.{written_read, read_written}
use Rattle.archive.specs.declared.Fields.{Fields}
use Rattle.archive.specs.declared.Answer.{Answer}
use Rattle.archive.specs.Read.{fields_of, first_of, read_of}
use Rattle.archive.specs.Facts.{recorded}
use Rattle.archive_meaning.specs.Facts.{Begins, CheckNumber, OneRead, ReadRefusal, Said, Tells, broken, is_0, is_12, is_5, out_of_sequence, short}

-- the commit number in the bytes is the record's
commit_read : (r : Record) (rest : List ℕ) → WellFormed r → commit_number (bytes_of r ++ rest) ≡ r.commit
unfolding record_of
commit_read r rest w = ap (λ (q : Record). q.commit) (written_read r rest w).record_is

-- at a position before the last byte the reader looks at what stands there
inside : (s : List ℕ) (at last : ℕ) → 0 < length (drop at s) → read_of s at last ≡ first_of (drop at s) at last
unfolding read_of
inside s at last h =
    let l = length-drop at s in
    rw (le-ltb (length s) at (omega arith), ne_eqb at (length s) (omega arith))

inside_record : (r : Record) (rest s : List ℕ) (at last : ℕ) → drop at s ≡ bytes_of r ++ rest → read_of s at last ≡ first_of (bytes_of r ++ rest) at last
inside_record r rest s at last e =
    let there : 0 < length (drop at s) = rw (e, length-append, length_bytes_of) (omega arith) in
    inside s at last there ∙ rw e

-- bytes that begin with a record whose number follows are read as that record
pub reads_there : (r : Record) (rest s : List ℕ) (at last : ℕ) → drop at s ≡ bytes_of r ++ rest → WellFormed r → r.commit ≡ suc last
    → read_of s at last ≡ Answer.Record (fields_of (bytes_of r ++ rest) at)
unfolding first_of
reads_there r rest s at last e w c =
    let number : commit_number (bytes_of r ++ rest) ≡ last + 1 = commit_read r rest w ∙ c ∙ sym (add-one last) in
    inside_record r rest s at last e ∙ rw ((written_read r rest w).accepts, eq-eqb _ _ number)

pub fields_said : (r : Record) (rest : List ℕ) (at : ℕ) → WellFormed r → Said r at (fields_of (bytes_of r ++ rest) at)
unfolding fields_of record_of
fields_said r rest at w =
    let b = written_read r rest w in
    let same : record_of (bytes_of r ++ rest) ≡ r = b.record_is in
    record {
      at_is = refl;
      end_is = rw b.length_is;
      reads_is = sym (length_entries_at _ _ _ _) ∙ ap (λ (q : Record). length q.reads) same;
      writes_is = sym (length_entries_at _ _ _ _) ∙ ap (λ (q : Record). length q.writes) same;
      commit_is = commit_read r rest w;
      transaction_is = ap (λ (q : Record). q.transaction) same;
      station_is = ap (λ (q : Record). q.station) same;
      kind_is = ap (λ (q : Record). q.kind) same;
    }

-- behind the last byte is the end
pub ends_there : (s : List ℕ) (at last : ℕ) → at ≡ length s → read_of s at last ≡ Answer.End
unfolding read_of
ends_there s at last e = rw (le-ltb (length s) at (omega arith), eq-eqb at (length s) e)

pub refused_number : (t : List ℕ) (last k : ℕ) → ReadRefusal t last k → 0 < k
refused_number t last k (short l c) = omega arith
refused_number t last k (broken c) = omega arith
refused_number t last k (out_of_sequence r b n) = omega arith

-- 12 and 5 are answered only where no record stands
pub no_record : (t : List ℕ) (r : Record) → 0 < check_of t → Begins t r → ⊥
no_record t r h b = omega (arith, rw b.bytes at (written_read r b.tail b.well_formed).accepts)

broken_there : (t : List ℕ) → check_of t ≡ 5 → 0 < length t
unfolding check_of
broken_there [] c = absurd (omega arith)
broken_there (b ∷ t) c = omega arith

-- what is so is refused so
pub refuses_there : (t s : List ℕ) (at last k : ℕ) → drop at s ≡ t → ReadRefusal t last k → read_of s at last ≡ Answer.Refused k
unfolding first_of
refuses_there t s at last k e (short l c) = inside s at last (rw e l) ∙ rw (e, c)
refuses_there t s at last k e (broken c) = inside s at last (rw e (broken_there t c)) ∙ rw (e, c)
refuses_there t s at last k e (out_of_sequence r b n) =
    let there : drop at s ≡ bytes_of r ++ b.tail = e ∙ sym b.bytes in
    let w = b.well_formed in
    let other : commit_number (bytes_of r ++ b.tail) ≡ last + 1 → ⊥ = λ c. n (sym (commit_read r b.tail w) ∙ c ∙ add-one last) in
    inside_record r b.tail s at last there ∙ rw ((written_read r b.tail w).accepts, ne_eqb _ _ other)

-- accepted bytes are the bytes of the record that they say, and what follows
record_front : (t : List ℕ) → Bytes t → check_of t ≡ 0 → bytes_of (record_of t) ++ drop (length_of t) t ≡ t
record_front t hs c = rw (read_written t hs c).bytes_are (take-append-drop (length_of t) t)

pub one_read : (s : List ℕ) (at last : ℕ) (f : Fields) → Bytes s → read_of s at last ≡ Answer.Record f → OneRead s at last f
unfolding fields_of record_of
one_read s at last f hs h =
    let r = recorded s at last f h in
    let t = drop at s in
    let ht = bytes_drop at s hs in
    let behind : drop f.end s ≡ drop (length_of t) t = rw (← r.fields) (sym (drop-drop (length_of t) at s)) in
    let follows : commit_number t ≡ suc last = r.follows ∙ add-one last in
    record {
      well_formed = (read_written t ht r.checks).well_formed;
      bytes = rw behind (record_front t ht r.checks);
      number = follows;
      commit_is = rw (← r.fields) follows;
    }

pub stands : (s : List ℕ) (at last : ℕ) (f : Fields) → OneRead s at last f → Begins (drop at s) (record_of (drop at s))
stands s at last f o = record { well_formed = o.well_formed; tail = drop f.end s; bytes = o.bytes }

check_number : (t : List ℕ) → CheckNumber (check_of t)
unfolding check_of
check_number t = by_tests (ltb (length t) header_length) (ltb (length t) (length_of t)) (laid_out_lem t)
  where
    by_tests : (a b c : Bool) → CheckNumber (cond a 12 (cond b 12 (cond c 0 5)))
    by_tests true b c = is_12
    by_tests false true c = is_12
    by_tests false false true = is_0
    by_tests false false false = is_5

pub tells : (s : List ℕ) (at last : ℕ) → Bytes s → at ≤ length s → Tells s at last (read_of s at last)
unfolding read_of first_of record_of
tells s at last hs h = by_tests (ltb (length s) at) (eqb at (length s)) refl refl
  where
    t : List ℕ
    t = drop at s

    on_check : 0 < length t → (n : ℕ) → CheckNumber n → (d : Bool) → check_of t ≡ n → eqb (commit_number t) (last + 1) ≡ d
        → Tells s at last (cond (eqb n 0) (cond d (Answer.Record (fields_of t at)) (Answer.Refused 13)) (Answer.Refused n))
    on_check l n is_0 true c e = tt
    on_check l n is_0 false c e =
        let ht = bytes_drop at s hs in
        out_of_sequence (record_of t) (record { well_formed = (read_written t ht c).well_formed; tail = drop (length_of t) t; bytes = record_front t ht c })
        (λ q. eqb-false (commit_number t) (last + 1) e (q ∙ sym (add-one last)))
    on_check l n is_5 d c e = broken c
    on_check l n is_12 d c e = short l c

    by_tests : (a b : Bool) → ltb (length s) at ≡ a → eqb at (length s) ≡ b
        → Tells s at last (cond a (Answer.Refused 12) (cond b Answer.End (first_of t at last)))
    by_tests true b ea eb = absurd (omega (arith, ltb-true (length s) at ea))
    by_tests false true ea eb = eqb-true at (length s) eb
    by_tests false false ea eb =
        let l = length-drop at s in
        on_check (omega (arith, eqb-false at (length s) eb)) (check_of t) (check_number t) (eqb (commit_number t) (last + 1)) refl refl
