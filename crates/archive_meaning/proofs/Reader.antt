-- The archive reader means document 01's archive: records written one behind the other are read back, and what is read was written so.
use Rattle.std.specs.Prelude.{ℕ, zero, suc, ◌+◌, ◌-◌, ◌≤◌, ◌<◌, ◌≡◌, refl, List, [], ◌∷◌, ◌++◌, length, take, drop}
use Rattle.std.proofs.Common.{sym, ap, ◌∙◌, append_assoc, append-nil, add-zero, zero-add, arith, length-append, length-drop, drop_of_length-le, length-take-le}
use Rattle.std.proofs.Math.Seq.{drop-append_seam}
use Rattle.lists.specs.Bytes.{Bytes}
use Rattle.lists.specs.Parts.{drop_behind}
use Rattle.layout.specs.Record.{Record, WellFormed, AllWellFormed, Numbered, bytes_of, archive_of}
use Rattle.record_meaning.specs.Parse.{record_of}
use Rattle.record_meaning.proofs.Meaning.{written_read, archive_one_way, cut_short}
use Rattle.archive.specs.declared.Fields.{Fields}
use Rattle.archive.specs.declared.Answer.{Answer}
use Rattle.archive.specs.Read.{fields_of, read_of}
use Rattle.replay.specs.Fuel.{onwards}
use Rattle.archive_meaning.specs.Facts.{ReadRefusal, short, OneRead}
use Rattle.archive_meaning.proofs.Facts.{fields_said, reads_there, ends_there, refused_number, refuses_there, one_read, tells}
use Rattle.archive_meaning.specs.Reader.{Archive, ArchiveTo, Parsed, ReadTo, archive_read, behind, on_read, parsed, read_all, read_from}

-- one record, wherever it stands: the reader gives its fields, which say what the record says (`Said`, `fields-said`)
pub reads_record : (r : Record) (rest before : List ℕ) (last : ℕ) → WellFormed r → r.commit ≡ suc last
    → read_of (before ++ (bytes_of r ++ rest)) (length before) last ≡ Answer.Record (fields_of (bytes_of r ++ rest) (length before))
reads_record r rest before last w c =
    reads_there r rest (before ++ (bytes_of r ++ rest)) (length before) last (drop-append_seam before (bytes_of r ++ rest)) w c

-- with turns to spare, how many there are makes no difference
pub enough_turns : (m n : ℕ) (s : List ℕ) (at last : ℕ) → at ≤ length s → length s < at + m → length s < at + n → read_all m s at last ≡ read_all n s at last
unfolding read_all
enough_turns zero n s at last h hm hn = absurd (omega arith)
enough_turns (suc m) zero s at last h hm hn = absurd (omega arith)
enough_turns (suc m) (suc n) s at last h hm hn = on_answer_lem (λ p l a b c. enough_turns m n s p l a b c) (read_of s at last) refl
  where
    on_answer_lem : ((p l : ℕ) → p ≤ length s → length s < p + m → length s < p + n → read_all m s p l ≡ read_all n s p l)
        → (a : Answer) → read_of s at last ≡ a → on_read (read_all m s) (drop at s) a ≡ on_read (read_all n s) (drop at s) a
    on_answer_lem rest (Answer.Record f) e =
        let o = onwards s at last f e in
        ap (behind (record_of (drop at s) ∷ [])) (rest f.end f.commit o.within (omega arith) (omega arith))
    on_answer_lem rest Answer.End e = refl
    on_answer_lem rest (Answer.Refused k) e = refl

-- one turn of the reading
turn : (s : List ℕ) (at last : ℕ) (a : Answer) → at ≤ length s → read_of s at last ≡ a → read_from s at last ≡ on_read (read_from s) (drop at s) a
unfolding read_all
turn s at last a h e =
    let n : suc (length s) - at ≡ suc (length s - at) = omega arith in
    ap (λ (k : ℕ). read_all k s at last) n ∙ rw e (on_answer_lem a e)
  where
    on_answer_lem : (b : Answer) → read_of s at last ≡ b → on_read (read_all (length s - at) s) (drop at s) b ≡ on_read (read_from s) (drop at s) b
    on_answer_lem (Answer.Record f) e =
        let o = onwards s at last f e in
        ap (behind (record_of (drop at s) ∷ []))
        (enough_turns (length s - at) (suc (length s) - f.end) s f.end f.commit o.within (omega arith) (omega arith))
    on_answer_lem Answer.End e = refl
    on_answer_lem (Answer.Refused k) e = refl

begins : (s : List ℕ) (last : ℕ) → archive_read s last ≡ read_from s 0 last
unfolding archive_read
begins s last = ap (λ (k : ℕ). read_all k s 0 last) (omega arith)

-- records that stand one behind the other are read, and then what follows them
read_through : (rs : List Record) (rest s : List ℕ) (at last : ℕ) → at ≤ length s → drop at s ≡ archive_of rs ++ rest → AllWellFormed rs → Numbered last rs
    → read_from s at last ≡ behind rs (read_from s (at + length (archive_of rs)) (last + length rs))
unfolding archive_of
read_through [] rest s at last h e w n = rw (add-zero at, add-zero last)
read_through (r ∷ rs) rest s at last h e w n =
    let tail = archive_of rs ++ rest in
    let e' : drop at s ≡ bytes_of r ++ tail = rw append_assoc at e in
    let said = fields_said r tail at w.0 in
    let next = at + length (bytes_of r) in
    let l = simp (length-drop, length-append) at (ap length e') in
    let first : read_from s at last ≡ behind (r ∷ []) (read_from s next (suc last)) =
    turn s at last _ h (reads_there r tail s at last e' w.0 n.0) ∙ rw (e', (written_read r tail w.0).record_is, said.end_is, said.commit_is, n.0) in
    let others = read_through rs rest s next (suc last) (omega arith) (drop_behind (bytes_of r) tail s at next e' refl) w.1 n.1 in
    let place : at + length (bytes_of r ++ archive_of rs) ≡ next + length (archive_of rs) = rw length-append (omega arith) in
    let number : last + suc (length rs) ≡ suc last + length rs = omega arith in
    first ∙ rw (others, place, number)

-- an archive that begins with these records: they are read, and then what follows them
front : (rs : List Record) (rest : List ℕ) (last : ℕ) → AllWellFormed rs → Numbered last rs
    → archive_read (archive_of rs ++ rest) last ≡ behind rs (read_from (archive_of rs ++ rest) (length (archive_of rs)) (last + length rs))
front rs rest last w n = begins (archive_of rs ++ rest) last ∙ rw zero-add at (read_through rs rest (archive_of rs ++ rest) 0 last (omega arith) refl w n)

-- a list of records written one behind the other is read back as that list
pub written_is_read : (rs : List Record) (last : ℕ) → AllWellFormed rs → Numbered last rs → archive_read (archive_of rs) last ≡ parsed rs 0
written_is_read rs last w n =
    let s = archive_of rs ++ [] in
    let at = length (archive_of rs) in
    let there : at ≡ length s = rw append-nil in
    let end = turn s at (last + length rs) Answer.End (omega arith) (ends_there s at (last + length rs) there) in
    rw (append-nil (archive_of rs), append-nil rs) at (front rs [] last w n ∙ ap (behind rs) end)

-- and where what follows them is refused, they are read up to there
pub refused_is_read : (rs : List Record) (rest : List ℕ) (last k : ℕ) → AllWellFormed rs → Numbered last rs → ReadRefusal rest (last + length rs) k
    → archive_read (archive_of rs ++ rest) last ≡ parsed rs k
refused_is_read rs rest last k w n why =
    let s = archive_of rs ++ rest in
    let at = length (archive_of rs) in
    let sizes = length-append (archive_of rs) rest in
    let there = refuses_there rest s at (last + length rs) k (drop-append_seam (archive_of rs) rest) why in
    rw append-nil at (front rs rest last w n ∙ ap (behind rs) (turn s at (last + length rs) (Answer.Refused k) (omega arith) there))

-- number 12: an archive that ends inside a record is read up to that record
pub cut_is_12 : (rs : List Record) (r : Record) (k last : ℕ) → AllWellFormed rs → Numbered last rs → WellFormed r → 0 < k → k < length (bytes_of r)
    → archive_read (archive_of rs ++ take k (bytes_of r)) last ≡ parsed rs 12
cut_is_12 rs r k last w n wr lo hi =
    refused_is_read rs (take k (bytes_of r)) last 12 w n (short (rw (length-take-le k (bytes_of r) (omega arith)) lo) (cut_short r k wr hi))

-- a record in front of a reading
read_step : (s : List ℕ) (at last : ℕ) (f : Fields) (p : Parsed) → OneRead s at last f → ReadTo s f.end (suc last) p
    → ReadTo s at last (behind (record_of (drop at s) ∷ []) p)
unfolding archive_of
read_step s at last f p one more =
    let count : suc last + length p.records ≡ last + suc (length p.records) = omega arith in
    record {
      rest = more.rest;
      bytes = rw (append_assoc, more.bytes) one.bytes;
      well_formed = (one.well_formed, more.well_formed);
      numbered = (one.number, more.numbered);
      whole = more.whole;
      why = λ z. rw count at (more.why z);
    }

read_to : (turns : ℕ) (s : List ℕ) (at last : ℕ) → Bytes s → at ≤ length s → length s < at + turns → ReadTo s at last (read_all turns s at last)
unfolding read_all archive_of
read_to zero s at last hs h ht = absurd (omega arith)
read_to (suc turns) s at last hs h ht = on_answer_lem (λ p l a b. read_to turns s p l hs a b) (read_of s at last) refl
  where
    on_answer_lem : ((p l : ℕ) → p ≤ length s → length s < p + turns → ReadTo s p l (read_all turns s p l))
        → (a : Answer) → read_of s at last ≡ a → ReadTo s at last (on_read (read_all turns s) (drop at s) a)
    on_answer_lem next (Answer.Record f) e =
        let o = onwards s at last f e in
        let one = one_read s at last f hs e in
        rw one.commit_is (read_step s at last f (read_all turns s f.end (suc last)) one (next f.end (suc last) o.within (omega arith)))
    on_answer_lem next Answer.End e =
        let there : at ≡ length s = rw e at (tells s at last hs h) in
        record {
          rest = [];
          bytes = sym (drop_of_length-le s {i = at} (omega arith));
          well_formed = tt;
          numbered = tt;
          whole = λ z. refl;
          why = λ z. absurd (omega arith);
        }
    on_answer_lem next (Answer.Refused k) e =
        let reason : ReadRefusal (drop at s) last k = rw e at (tells s at last hs h) in
        record {
          rest = drop at s;
          bytes = refl;
          well_formed = tt;
          numbered = tt;
          whole = λ z. absurd (omega (arith, refused_number (drop at s) last k reason));
          why = λ z. rw add-zero reason;
        }

pub read_is_written : (s : List ℕ) (last : ℕ) (rs : List Record) → Bytes s → archive_read s last ≡ parsed rs 0 → Archive s last rs
unfolding archive_read
read_is_written s last rs hs e =
    let all : ReadTo s 0 last (parsed rs 0) = rw e at (read_to (suc (length s)) s 0 last hs (omega arith) (omega arith)) in
    let bytes : archive_of rs ≡ s = sym (append-nil (archive_of rs)) ∙ rw (all.whole refl) at all.bytes in
    record {
      bytes = bytes;
      well_formed = all.well_formed;
      numbered = all.numbered;
      one_way = λ qs w b. archive_one_way qs rs w all.well_formed (b ∙ sym bytes);
    }

pub read_before_refusal : (s : List ℕ) (last : ℕ) (rs : List Record) (k : ℕ) → Bytes s → archive_read s last ≡ parsed rs k → 0 < k → ArchiveTo s last rs k
unfolding archive_read
read_before_refusal s last rs k hs e h =
    let all : ReadTo s 0 last (parsed rs k) = rw e at (read_to (suc (length s)) s 0 last hs (omega arith) (omega arith)) in
    record { rest = all.rest; bytes = all.bytes; well_formed = all.well_formed; numbered = all.numbered; why = all.why h }
