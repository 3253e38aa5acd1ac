-- The walk over the bytes of two lists of records is their comparison.
use Rattle.std.specs.Prelude.{ℕ, ◌+◌, ◌≤◌, ◌<◌, ◌≡◌, refl, List, [], ◌∷◌, ◌++◌, Bool, true, false, cond, length, take, drop, eqb, ltb}
use Rattle.std.proofs.Common.{sym, ap, ◌∙◌, arith, length-append, take-append-drop}
use Rattle.std.proofs.Math.ListN.{get_or-append}
use Rattle.std.proofs.Math.Seq.{drop-append_seam, take-append_seam}
use borrow.Author.Tests.{lt-ltb, le-ltb, eq-eqb, ne_eqb}
use Rattle.lists.specs.Tests.{all_to, all_to_of}
use Rattle.layout.specs.Record.{Record, WellFormed, AllWellFormed, bytes_of, archive_of}
use Rattle.record.specs.Check.{length_of, claimed_length, commit_number}
use Rattle.record_meaning.specs.Parse.{record_of}
use Rattle.record_meaning.proofs.LayoutLaws.{length_bytes_of}
use Rattle.record_meaning.proofs.Meaning.{written_read, same_bytes}
use Rattle.compare.specs.declared.Order.{Order}
use Rattle.compare.specs.declared.Order.TheVariants.{Same, FirstEarly, SecondEarly, Parts}
use Rattle.compare.specs.Compare as bytes
use Rattle.compare.specs.Compare.{same_byte, same_to, commit_at, ending_of, walk_of}
use Rattle.compare.specs.Steps.{same_to_lem, take_same, claims, walk_on, walk_ends}
use Rattle.compare_terms.specs.Relation.{Relation, same, first_early, second_early, part, same_record, compared}
use Rattle.compare_terms.proofs.Order.{record_is, record_same}

abbrev pub answer_of : Relation → Order
answer_of same = Same
answer_of first_early = FirstEarly
answer_of second_early = SecondEarly
answer_of (part n) = Parts n

-- a record in front of some bytes
record Front (r : Record) (t : List ℕ) : Type 0 where
  long : 16 ≤ length (bytes_of r ++ t)
  claimed : claimed_length (bytes_of r ++ t) ≡ length (bytes_of r)
  commit_is : commit_at (bytes_of r ++ t) ≡ r.commit

front : (r : Record) (t : List ℕ) → WellFormed r → Front r t
unfolding claimed_length commit_at record_of
front r t w =
    let size : 16 ≤ length (bytes_of r ++ t) = rw (length-append, length_bytes_of) (omega arith) in
    let back = written_read r t w in
    record {
      long = size;
      claimed = rw (le-ltb (length (bytes_of r ++ t)) 16 size) back.length_is;
      commit_is = rw (le-ltb (length (bytes_of r ++ t)) 16 size) (ap (λ (q : Record). q.commit) back.record_is);
    }

-- bytes that both have in front
same_front : (t x y : List ℕ) → same_to (t ++ x) (t ++ y) (length t) ≡ true
unfolding same_to
same_front t x y =
    let lx = length-append t x in
    let ly = length-append t y in
    rw (le-ltb (length (t ++ x)) (length t) (omega arith), le-ltb (length (t ++ y)) (length t) (omega arith))
    (all_to_of (same_byte (t ++ x) (t ++ y)) (length t) (λ k l. eq-eqb _ _ (get_or-append t x 0 k l ∙ sym (get_or-append t y 0 k l))))

no_bytes : (x : List ℕ) → bytes.same_record x [] ≡ false
unfolding same_to
no_bytes x = let c = claims x in rw (lt-ltb 0 (claimed_length x) (omega arith)) (either (ltb (length x) (claimed_length x)))
  where
    either : (b : Bool) → cond b false false ≡ false
    either true = refl
    either false = refl

module _ (r q : Record) (x y : List ℕ) (wr : WellFormed r) (wq : WellFormed q) where
  -- the records' bytes are the same exactly if the records are
  records_apart : same_record r q ≡ false → bytes.same_record (bytes_of r ++ x) (bytes_of q ++ y) ≡ false
  records_apart e = by_test (bytes.same_record (bytes_of r ++ x) (bytes_of q ++ y)) refl
    where
      by_test : (b : Bool) → bytes.same_record (bytes_of r ++ x) (bytes_of q ++ y) ≡ b → b ≡ false
      by_test false h = refl
      by_test true h =
          let n = length (bytes_of r) in
          let s = same_to_lem (bytes_of r ++ x) (bytes_of q ++ y) n (rw (front r x wr).claimed at h) in
          let start : bytes_of r ≡ take n (bytes_of q ++ y) = sym (take-append_seam (bytes_of r) x) ∙ take_same (bytes_of r ++ x) (bytes_of q ++ y) n s in
          let whole : bytes_of r ++ drop n (bytes_of q ++ y) ≡ bytes_of q ++ y = ap (λ (t : List ℕ). t ++ drop n (bytes_of q ++ y)) start ∙ take-append-drop n (bytes_of q ++ y) in
          let equal : r ≡ q = (same_bytes r q (drop n (bytes_of q ++ y)) y wr wq whole).0 in
          let yes : same_record r q ≡ true = rw (← equal) (record_same r) in
          let z : ◌≡◌ {A = ℕ} 0 1 = cc in absurd (omega arith)

  differ_there : same_record r q ≡ false → walk_of (bytes_of r ++ x) (bytes_of q ++ y) ≡ Parts r.commit
  unfolding ending_of
  differ_there e =
      let fr = front r x wr in
      let fq = front q y wq in
      let lr = fr.long in
      let lq = fq.long in
      walk_ends (bytes_of r ++ x) (bytes_of q ++ y) (records_apart e)
      ∙ rw (ne_eqb (length (bytes_of r ++ x)) 0 (λ z. omega arith), ne_eqb (length (bytes_of q ++ y)) 0 (λ z. omega arith), fr.commit_is)

goes_on : (r : Record) (x y : List ℕ) → WellFormed r → walk_of (bytes_of r ++ x) (bytes_of r ++ y) ≡ walk_of x y
goes_on r x y w =
    let f = front r x w in
    let t : bytes.same_record (bytes_of r ++ x) (bytes_of r ++ y) ≡ true = rw f.claimed (same_front (bytes_of r) x y) in
    walk_on (bytes_of r ++ x) (bytes_of r ++ y) t ∙ rw (f.claimed, drop-append_seam (bytes_of r) x, drop-append_seam (bytes_of r) y)

pub walk_is : (rs qs : List Record) → AllWellFormed rs → AllWellFormed qs → walk_of (archive_of rs) (archive_of qs) ≡ answer_of (compared rs qs)
unfolding archive_of ending_of same_to claimed_length
walk_is [] [] wr wq = walk_ends [] [] refl
walk_is [] (q ∷ qs) wr wq =
    let l = (front q (archive_of qs) wq.0).long in
    walk_ends [] (bytes_of q ++ archive_of qs) refl ∙ rw (ne_eqb (length (bytes_of q ++ archive_of qs)) 0 (λ z. omega arith))
walk_is (r ∷ rs) [] wr wq =
    let l = (front r (archive_of rs) wr.0).long in
    walk_ends (bytes_of r ++ archive_of rs) [] (no_bytes (bytes_of r ++ archive_of rs)) ∙ rw (ne_eqb (length (bytes_of r ++ archive_of rs)) 0 (λ z. omega arith))
walk_is (r ∷ rs) (q ∷ qs) wr wq = by_test (walk_is rs qs wr.1 wq.1) (same_record r q) refl
  where
    by_test : walk_of (archive_of rs) (archive_of qs) ≡ answer_of (compared rs qs) → (b : Bool) → same_record r q ≡ b
        → walk_of (bytes_of r ++ archive_of rs) (bytes_of q ++ archive_of qs) ≡ answer_of (cond b (compared rs qs) (part r.commit))
    by_test rest true e = rw (← record_is r q e) (goes_on r (archive_of rs) (archive_of qs) wr.0 ∙ rest)
    by_test rest false e = differ_there r q (archive_of rs) (archive_of qs) wr.0 wq.0 e
