-- A counts file is read back as the counts that were written, and what is read to its end was written so.
use Rattle.std.specs.Prelude.{ℕ, zero, suc, ◌+◌, ◌*◌, ◌-◌, ◌^◌, ◌≤◌, ◌<◌, ◌≡◌, refl, Bool, false, cond, take, drop, get_or, replicate, eqb, ltb}
use Rattle.std.proofs.Common.{sym, ◌∙◌, subst, zero-add, le_refl, add-one, arith, length-append, length-drop, take-append-drop, drop_of_length-le, get_or-drop, length-take-le, drop-drop}
use Rattle.std.proofs.Math.Path.{ap}
use Rattle.std.proofs.Math.Bool.{true}
use mathlib.Core.List.{List, [], ◌∷◌, ◌++◌, append_assoc}
use Rattle.std.proofs.Math.ListN.{length}
use Rattle.std.proofs.lemmas.List.{length-replicate}
use borrow.Author.Tests.{lt-ltb, le-ltb, le-leb, eq-eqb, ne_eqb, ltb-false, eqb-true}
use Rattle.lists.specs.Bytes.{Bytes, bytes_take, bytes_drop}
use Rattle.lists.specs.Parts.{part_join, drop_behind}
use Rattle.le.specs.Le.{u16_at, u32_at, u64_at}
use Rattle.le.specs.Width.{bytes, length_bytes, num_at, num_at_bytes, num_at_behind, bytes_num_at, num_at_lt}
use Rattle.le.specs.Laws.{u16_at_is, u32_at_is, u64_at_is}
use Rattle.le.specs.Parts.{num_at_drop}
use Rattle.layout.specs.Record.{value_length, most_entries, Entry, AllFit, addresses, values, record_length}
use Rattle.lists.specs.Tests.{all_to}
use Rattle.record.specs.Check.{head_ok_lem, rises}
use Rattle.record.specs.Write.{fits, write_of}
use Rattle.record_meaning.proofs.LayoutLaws.{length_addresses}
use Rattle.record_meaning.proofs.Rise.{rises_of_rising, rises_behind}
use Rattle.record_meaning.proofs.Writer.{WroteRecord, writer_accepts_only}
use Rattle.archive_meaning.specs.Parts.{nth}
use Rattle.counts.specs.Counts.{counts_header_length, counts_length, counts_head}
use Rattle.counts.specs.Facts.{length_counts_head}
use Rattle.counts_file.specs.declared.Counted.{Counted}
use Rattle.counts_file.specs.declared.Next.{Next}
use Rattle.counts_file.specs.declared.Written as found
use Rattle.counts_file.specs.File.{commit_of, writes_of, check_counts, counted_of, first_counts, counts_read, holds_counts, counts_entry}
use Rattle.counts_file.specs.Facts.{accepted}
use Rattle.counts_meaning.specs.View.{Counts, shown_of, counts_bytes, file_of, WellCounted, AllWellCounted, InSequence}
use Rattle.counts_meaning.specs.Record.{length_counts_bytes}

-- the numbers of a header are read from it, whatever follows
head_read : (commit m : ℕ) (rest : List ℕ) → commit < 256 ^ 4 → m < 256 ^ 2 → (commit_of (counts_head commit m ++ rest) ≡ commit) × (writes_of (counts_head commit m ++ rest) ≡ m)
unfolding counts_head bytes u16_at u32_at
head_read commit m rest hc hm = (omega arith, omega arith)

module _ (c : Counts) (rest : List ℕ) (w : WellCounted c) where
  front : counts_bytes c ++ rest ≡ counts_head c.commit (length c.writes) ++ (addresses c.writes ++ (values c.writes ++ rest))
  unfolding counts_bytes
  front = append_assoc (counts_head c.commit (length c.writes)) (addresses c.writes ++ values c.writes) rest
      ∙ ap (λ (x : List ℕ). counts_head c.commit (length c.writes) ++ x) (append_assoc (addresses c.writes) (values c.writes) rest)

  pub commit_read : commit_of (counts_bytes c ++ rest) ≡ c.commit
  commit_read = let few = w.writes_count in rw front (head_read c.commit (length c.writes) _ w.commit_fits (omega arith)).0

  pub writes_read : writes_of (counts_bytes c ++ rest) ≡ length c.writes
  writes_read = let few = w.writes_count in rw front (head_read c.commit (length c.writes) _ w.commit_fits (omega arith)).1

  pub addresses_at : drop counts_header_length (counts_bytes c ++ rest) ≡ addresses c.writes ++ (values c.writes ++ rest)
  addresses_at = drop_behind (counts_head c.commit (length c.writes)) _ (counts_bytes c ++ rest) 0 counts_header_length front (rw length_counts_head)

  pub values_at : drop (counts_header_length + length c.writes) (counts_bytes c ++ rest) ≡ values c.writes ++ rest
  values_at = drop_behind (addresses c.writes) (values c.writes ++ rest) (counts_bytes c ++ rest) counts_header_length (counts_header_length + length c.writes) addresses_at (rw length_addresses)

  -- what was written is accepted
  pub accepts : check_counts (counts_bytes c ++ rest) ≡ 0
  unfolding check_counts
  accepts =
      let s = counts_bytes c ++ rest in
      let m = length c.writes in
      let size : length s ≡ counts_length m + length rest = rw (length-append, length_counts_bytes) in
      let rise : rises s counts_header_length m ≡ true = rises_of_rising c.writes _ s counts_header_length addresses_at w.writes_rise in
      rw (writes_read, le-ltb (length s) counts_header_length (omega arith), le-ltb (length s) (counts_length m) (omega arith), le-leb m most_entries w.writes_count, rise)

-- the address and the value of write i
address_of : (es : List Entry) (rest : List ℕ) (i : ℕ) → i < length es → get_or (addresses es ++ rest) i 0 ≡ (nth es i).address
address_of [] rest i h = absurd (omega arith)
address_of (e ∷ es) rest zero h = refl
address_of (e ∷ es) rest (suc i) h = address_of es rest i (omega arith)

value_of : (es : List Entry) (rest : List ℕ) (i : ℕ) → AllFit es → i < length es → num_at 8 (values es ++ rest) (8 * i) ≡ (nth es i).value
value_of [] rest i f h = absurd (omega arith)
value_of (e ∷ es) rest zero f h = rw append_assoc (num_at_bytes 8 e.value (values es ++ rest) f.0.value)
value_of (e ∷ es) rest (suc i) f h =
    let place : 8 * suc i ≡ length (bytes 8 e.value) + 8 * i = rw length_bytes (omega arith) in
    rw (place, append_assoc) (num_at_behind 8 (bytes 8 e.value) (values es ++ rest) (8 * i) ∙ value_of es rest i f.1 (omega arith))

-- counts that stand at a position are read there: their end, their writes, their commit number, and each write
pub record ReadThere (s : List ℕ) (at last : ℕ) (c : Counts) : Type 0 where
  pub counts_is : counts_read s at last ≡ Next.Counts (record { end = at + length (counts_bytes c); writes = length c.writes; commit = c.commit })
  pub write_is : (i : ℕ) → i < length c.writes → counts_entry s at (length c.writes) i ≡ found.Written.Entry (nth c.writes i).address (nth c.writes i).value

pub read_there : (c : Counts) (rest s : List ℕ) (at last : ℕ) → at ≤ length s → drop at s ≡ counts_bytes c ++ rest → WellCounted c → c.commit ≡ suc last → ReadThere s at last c
unfolding counts_read first_counts counted_of counts_entry holds_counts
read_there c rest s at last h e w n =
    let m = length c.writes in
    let l = length-drop at s in
    let lc = length_counts_bytes c in
    let size : length (drop at s) ≡ counts_length m + length rest = rw (e, length-append, length_counts_bytes) in
    let number : c.commit ≡ last + 1 = n ∙ sym (add-one last) in
    let a : drop (at + counts_header_length) s ≡ addresses c.writes ++ (values c.writes ++ rest) =
    rw (← drop-drop counts_header_length at s, e) (addresses_at c rest w) in
    let v : drop (at + counts_header_length + m) s ≡ values c.writes ++ rest =
    drop_behind (addresses c.writes) (values c.writes ++ rest) s (at + counts_header_length) (at + counts_header_length + m) a (rw length_addresses) in
    record {
      counts_is =
          rw (le-ltb (length s) at h, ne_eqb at (length s) (λ q. omega arith), e, accepts c rest w, commit_read c rest w, eq-eqb c.commit (last + 1) number, writes_read c rest w, lc);
      write_is =
          λ i j.
          let address : get_or s (at + counts_header_length + i) 0 ≡ (nth c.writes i).address =
          sym (get_or-drop (at + counts_header_length) s i 0) ∙ rw a (address_of c.writes (values c.writes ++ rest) i j) in
          let value : u64_at s (at + counts_header_length + m + value_length * i) ≡ (nth c.writes i).value =
          u64_at_is s (at + counts_header_length + m + value_length * i) ∙ sym (num_at_drop 8 (at + counts_header_length + m) s (value_length * i))
          ∙ rw v (value_of c.writes rest i w.writes_fit j) in
          rw (le-leb at (length s) h, le-leb (counts_length m) (length s - at) (omega arith), lt-ltb i m j, address, value);
    }

-- accepted bytes begin with the bytes of counts
pub record CountsThere (t : List ℕ) : Type 0 where
  pub counts : Counts
  pub well_counted : WellCounted counts
  pub commit_is : counts.commit ≡ commit_of t
  pub writes_are : length counts.writes ≡ writes_of t
  pub bytes_are : counts_bytes counts ++ drop (counts_length (writes_of t)) t ≡ t

-- the same writes with no reads are a record of document 01, which the record writer takes
written_record : (t : List ℕ) → Bytes t → check_counts t ≡ 0
    → WroteRecord 0 (writes_of t) (commit_of t) 1 0 0 (take (writes_of t) (drop counts_header_length t)) (take (value_length * writes_of t) (drop (counts_header_length + writes_of t) t))
    (replicate (record_length 0 (writes_of t)) 0)
unfolding fits head_ok_lem rises all_to write_of
written_record t hs c =
    let x = accepted t c in
    let there = x.all_there in
    let m = writes_of t in
    let ha = drop counts_header_length t in
    let hv = drop (counts_header_length + m) t in
    let addrs = take m ha in
    let vals = take (value_length * m) hv in
    let la : length addrs ≡ m = length-take-le m ha (rw length-drop (omega arith)) in
    let lv : length vals ≡ value_length * m = length-take-le (value_length * m) hv (rw length-drop (omega arith)) in
    let h6 : length (take counts_header_length t) ≡ counts_header_length = length-take-le counts_header_length t x.header_there in
    let split : take counts_header_length t ++ (addrs ++ drop m ha) ≡ t = rw (take-append-drop m ha) (take-append-drop counts_header_length t) in
    let rise : rises addrs 0 m ≡ true =
    sym (rises_behind (take counts_header_length t) addrs (drop m ha) 0 m counts_header_length (omega arith) (omega arith)) ∙ rw split x.rise in
    let none : 0 + m ≡ m = zero-add m in
    let fit : fits 0 m 1 0 0 addrs vals ≡ true = rw (none, eq-eqb (length addrs) m la, le-leb m most_entries x.few, eq-eqb (length vals) (value_length * m) lv, rise) in
    let out : List ℕ = replicate (record_length 0 m) 0 in
    let size : length out ≡ record_length 0 m = length-replicate {A = ℕ} (record_length 0 m) 0 in
    let room : record_length 0 m ≤ length out = rw size (le_refl (record_length 0 m)) in
    writer_accepts_only 0 m (commit_of t) 1 0 0 addrs vals out (bytes_take m ha (bytes_drop counts_header_length t hs))
    (bytes_take (value_length * m) hv (bytes_drop (counts_header_length + m) t hs)) (rw u32_at_is (num_at_lt 4 t 0 hs)) (omega arith)
    (rw (le-ltb (length out) (record_length 0 m) room, fit))

none : (es : List Entry) → length es ≡ 0 → es ≡ []
none [] h = refl
none (e ∷ es) h = absurd (omega arith)

pub counts_there : (t : List ℕ) → Bytes t → check_counts t ≡ 0 → CountsThere t
unfolding counts_bytes counts_head
counts_there t hs c =
    let x = accepted t c in
    let m = writes_of t in
    let there = x.all_there in
    let addrs = take m (drop counts_header_length t) in
    let vals = take (value_length * m) (drop (counts_header_length + m) t) in
    let d = written_record t hs c in
    let q = none d.from.reads d.reads_count in
    let ads : addresses d.from.writes ≡ addrs = rw q at d.addresses_are in
    let vls : values d.from.writes ≡ vals = rw q at d.values_are in
    let size : counts_length m ≡ counts_header_length + (m + value_length * m) = omega arith in
    let body : take (m + value_length * m) (drop counts_header_length t) ≡ addrs ++ vals = part_join m (value_length * m) counts_header_length t in
    let whole : take (counts_length m) (drop 0 t) ≡ take counts_header_length (drop 0 t) ++ (addrs ++ vals) = rw size (part_join counts_header_length (m + value_length * m) 0 t ∙ ap (λ (x : List ℕ). take counts_header_length (drop 0 t) ++ x) body) in
    let head : bytes 4 (commit_of t) ++ bytes 2 m ≡ take counts_header_length (drop 0 t) =
    rw (u32_at_is t 0, u16_at_is t 4, bytes_num_at 4 t 0 hs (omega arith), bytes_num_at 2 t 4 hs (omega arith)) (sym (part_join 4 2 0 t)) in
    record {
      counts = shown_of d.from;
      well_counted =
          record {
            writes_count = d.well_formed.writes_count;
            writes_rise = d.well_formed.writes_rise;
            writes_fit = d.well_formed.writes_fit;
            commit_fits = d.well_formed.commit_fits;
          };
      commit_is = d.commit_is;
      writes_are = d.writes_count;
      bytes_are = rw (d.commit_is, d.writes_count, ads, vls, head, ← whole) (take-append-drop (counts_length m) t);
    }

-- what the reader's answer tells
record Accepts (s : List ℕ) (at last : ℕ) (k : Counted) : Type 0 where
  starts : at ≤ length s
  checks : check_counts (drop at s) ≡ 0
  follows : commit_of (drop at s) ≡ last + 1
  fields : counted_of (drop at s) at ≡ k

accepts_there : (s : List ℕ) (at last : ℕ) (k : Counted) → counts_read s at last ≡ Next.Counts k → Accepts s at last k
unfolding counts_read first_counts
accepts_there s at last k h = by_tests (ltb (length s) at) (eqb at (length s)) (eqb (check_counts (drop at s)) 0) (eqb (commit_of (drop at s)) (last + 1)) refl refl refl refl h
  where
    by_tests : (a b c d : Bool) → ltb (length s) at ≡ a → eqb at (length s) ≡ b → eqb (check_counts (drop at s)) 0 ≡ c → eqb (commit_of (drop at s)) (last + 1) ≡ d
        → cond a (Next.Refused 12) (cond b Next.End (cond c (cond d (Next.Counts (counted_of (drop at s) at)) (Next.Refused 13)) (Next.Refused (check_counts (drop at s))))) ≡ Next.Counts k
        → Accepts s at last k
    by_tests true b c d ea eb ec ed e = let z : ◌≡◌ {A = ℕ} 0 1 = cc in absurd (omega arith)
    by_tests false true c d ea eb ec ed e = let z : ◌≡◌ {A = ℕ} 0 1 = cc in absurd (omega arith)
    by_tests false false false d ea eb ec ed e = let z : ◌≡◌ {A = ℕ} 0 1 = cc in absurd (omega arith)
    by_tests false false true false ea eb ec ed e = let z : ◌≡◌ {A = ℕ} 0 1 = cc in absurd (omega arith)
    by_tests false false true true ea eb ec ed e =
        record { starts = ltb-false _ _ ea; checks = eqb-true _ _ ec; follows = eqb-true _ _ ed; fields = cc }

ended : (s : List ℕ) (at last : ℕ) → at ≤ length s → counts_read s at last ≡ Next.End → length s ≤ at
unfolding counts_read first_counts
ended s at last h e = by_tests (ltb (length s) at) (eqb at (length s)) (eqb (check_counts (drop at s)) 0) (eqb (commit_of (drop at s)) (last + 1)) refl e
  where
    by_tests : (a b c d : Bool) → eqb at (length s) ≡ b
        → cond a (Next.Refused 12) (cond b Next.End (cond c (cond d (Next.Counts (counted_of (drop at s) at)) (Next.Refused 13)) (Next.Refused (check_counts (drop at s))))) ≡ Next.End
        → length s ≤ at
    by_tests true b c d eb q = let z : ◌≡◌ {A = ℕ} 0 1 = cc in absurd (omega arith)
    by_tests false true c d eb q = omega (arith, eqb-true at (length s) eb)
    by_tests false false false d eb q = let z : ◌≡◌ {A = ℕ} 0 1 = cc in absurd (omega arith)
    by_tests false false true false eb q = let z : ◌≡◌ {A = ℕ} 0 1 = cc in absurd (omega arith)
    by_tests false false true true eb q = let z : ◌≡◌ {A = ℕ} 0 1 = cc in absurd (omega arith)

-- the reader goes from a position to the file's end
pub data Walks (s : List ℕ) : ℕ → ℕ → Type 0 where
  ends : {at last : ℕ} → at ≤ length s → counts_read s at last ≡ Next.End → Walks s at last
  goes : {at last : ℕ} (k : Counted) → counts_read s at last ≡ Next.Counts k → Walks s k.end k.commit → Walks s at last

-- it shows these counts on its way
pub data Reads (s : List ℕ) : ℕ → ℕ → List Counts → Type 0 where
  no_more : {at last : ℕ} → counts_read s at last ≡ Next.End → Reads s at last []
  one_more : {at last : ℕ} {cs : List Counts} (c : Counts) → ReadThere s at last c → Reads s (at + length (counts_bytes c)) c.commit cs → Reads s at last (c ∷ cs)

at_the_end : (s : List ℕ) (at last : ℕ) → at ≡ length s → counts_read s at last ≡ Next.End
unfolding counts_read
at_the_end s at last e = rw (le-ltb (length s) at (omega arith), eq-eqb at (length s) e)

-- a list of counts written one behind the other is read back as that list
pub file_is_read : (cs : List Counts) (s : List ℕ) (at last : ℕ) → at ≤ length s → drop at s ≡ file_of cs → AllWellCounted cs → InSequence last cs → Reads s at last cs
unfolding file_of
file_is_read [] s at last h e w n =
    let l = length-drop at s in
    let z : length (drop at s) ≡ 0 = ap length e in
    no_more (at_the_end s at last (omega arith))
file_is_read (c ∷ cs) s at last h e w n =
    let l = simp (length-drop, length-append) at (ap length e) in
    let next = at + length (counts_bytes c) in
    one_more {cs = cs} c (read_there c (file_of cs) s at last h e w.0 n.0)
    (subst (λ (l : ℕ). Reads s next l cs) (sym n.0) (file_is_read cs s next (suc last) (omega arith) (drop_behind (counts_bytes c) (file_of cs) s at next e refl) w.1 n.1))

-- a file that is read to its end is the bytes of such a list
pub record Filed (s : List ℕ) (at last : ℕ) : Type 0 where
  pub counts : List Counts
  pub bytes : drop at s ≡ file_of counts
  pub well_counted : AllWellCounted counts
  pub in_sequence : InSequence last counts

pub read_is_filed : (s : List ℕ) (at last : ℕ) → Bytes s → Walks s at last → Filed s at last
unfolding file_of counts_read first_counts counted_of
read_is_filed s at last hs (ends h e) =
    record { counts = []; bytes = drop_of_length-le s {i = at} (ended s at last h e); well_counted = tt; in_sequence = tt }
read_is_filed s at last hs (goes k e rest) =
    let a = accepts_there s at last k e in
    let t = drop at s in
    let c = counts_there t (bytes_drop at s hs) a.checks in
    let more = read_is_filed s k.end k.commit hs rest in
    let end : k.end ≡ at + counts_length (writes_of t) = sym (ap (λ (x : Counted). x.end) a.fields) in
    let number : k.commit ≡ suc last = sym (ap (λ (x : Counted). x.commit) a.fields) ∙ a.follows ∙ add-one last in
    let behind : drop (counts_length (writes_of t)) t ≡ file_of more.counts = drop-drop (counts_length (writes_of t)) at s ∙ rw (← end) more.bytes in
    record {
      counts = c.counts ∷ more.counts;
      bytes = sym c.bytes_are ∙ rw behind;
      well_counted = (c.well_counted, more.well_counted);
      in_sequence = (c.commit_is ∙ a.follows ∙ add-one last, subst (λ (l : ℕ). InSequence l more.counts) number more.in_sequence);
    }
