-- The answer for two archives is document 02's of their records, and "early part or same" is an order on accepted archives.
use Rattle.std.specs.Prelude.{ℕ, ◌+◌, ◌<◌, ◌≡◌, refl, List, [], ◌∷◌, ◌++◌, Bool, true, false, length}
use Rattle.std.proofs.Common.{sym, ap, ◌∙◌, append_assoc, arith, length-append}
use borrow.Author.Tests.{eq-eqb, ne_eqb}
use Rattle.lists.specs.Bytes.{Bytes}
use Rattle.layout.specs.Record.{Record, AllWellFormed, bytes_of, archive_of}
use Rattle.record_meaning.proofs.LayoutLaws.{length_bytes_of}
use Rattle.record_meaning.proofs.Meaning.{same_bytes, archive_one_way}
use Rattle.replay.specs.Played.{archive_played}
use Rattle.archive_meaning.specs.Replay.{fresh}
use Rattle.archive_meaning.proofs.Replay.{fresh_archive}
use Rattle.compare.specs.declared.Order.{Order}
use Rattle.compare.specs.declared.Order.TheVariants.{Same, FirstEarly, SecondEarly, Parts, Refused}
use Rattle.compare.specs.Compare.{walk_of, compare_from, compare_of}
use Rattle.compare_terms.specs.Relation.{Relation, same, first_early, second_early, part, compared, is_early, EarlyPart}
use Rattle.compare_terms.proofs.Order as termsLaws
use Rattle.compare_terms.specs.Order as terms
use Rattle.compare_terms.proofs.Order.{same_compared, early_part, part_early}
use Rattle.compare_meaning.specs.Walk.{answer_of, walk_is}

-- THE ANSWER

module _ (a b : List ℕ) (ha : Bytes a) (hb : Bytes b) where
  -- what the answer of a call is
  pub record Compares (r : Order) : Type 0 where
    -- "A refused archive gives its own number, the first archive checked first"
    pub first_refused : 0 < (archive_played a 0 fresh).number → r ≡ Refused (archive_played a 0 fresh).number
    pub second_refused : (archive_played a 0 fresh).number ≡ 0 → 0 < (archive_played b 0 fresh).number → r ≡ Refused (archive_played b 0 fresh).number
    -- of two accepted archives: what their records are to each other
    pub both_accepted : (za : (archive_played a 0 fresh).number ≡ 0) (zb : (archive_played b 0 fresh).number ≡ 0)
        → r ≡ answer_of (compared (fresh_archive a ha za).records (fresh_archive b hb zb).records)

  pub compare_means : Compares (compare_of a b)
  unfolding compare_of compare_from
  compare_means =
      record {
        first_refused = λ h. rw (ne_eqb (archive_played a 0 fresh).number 0 (λ e. omega arith));
        second_refused = λ z h. rw (eq-eqb (archive_played a 0 fresh).number 0 z, ne_eqb (archive_played b 0 fresh).number 0 (λ e. omega arith));
        both_accepted =
            λ za zb.
            let ra = fresh_archive a ha za in
            let rb = fresh_archive b hb zb in
            rw (eq-eqb (archive_played a 0 fresh).number 0 za, eq-eqb (archive_played b 0 fresh).number 0 zb)
            (rw (ra.bytes, rb.bytes) at (walk_is ra.records rb.records ra.well_formed rb.well_formed));
      }

-- ACCEPTED ARCHIVES

pub record Accepted (s : List ℕ) : Type 0 where
  pub bytes : Bytes s
  pub number : (archive_played s 0 fresh).number ≡ 0

abbrev pub records_in : (s : List ℕ) → Accepted s → List Record
records_in s h = (fresh_archive s h.bytes h.number).records

pub records_compared : (a b : List ℕ) (ha : Accepted a) (hb : Accepted b) → compare_of a b ≡ answer_of (compared (records_in a ha) (records_in b hb))
records_compared a b ha hb = (compare_means a b ha.bytes hb.bytes).both_accepted ha.number hb.number

-- the records of an archive are the only ones with its bytes
pub only_records : (s : List ℕ) (h : Accepted s) (rs : List Record) → AllWellFormed rs → archive_of rs ≡ s → rs ≡ records_in s h
only_records s h rs w e =
    let r = fresh_archive s h.bytes h.number in
    archive_one_way rs r.records w r.well_formed (e ∙ sym r.bytes)

pub archive_join : (rs qs : List Record) → archive_of (rs ++ qs) ≡ archive_of rs ++ archive_of qs
unfolding archive_of
archive_join [] qs = refl
archive_join (r ∷ rs) qs = rw (archive_join rs qs, append_assoc)

-- an archive whose bytes begin with records begins with them
pub begins_with : (rs qs : List Record) (more : List ℕ) → AllWellFormed rs → AllWellFormed qs → archive_of rs ++ more ≡ archive_of qs → EarlyPart rs qs
unfolding archive_of
begins_with [] qs more wr wq e = record { more = qs; is = refl }
begins_with (r ∷ rs) [] more wr wq e = absurd (omega (arith, simp (length-append, length_bytes_of) at (ap length e)))
begins_with (r ∷ rs) (q ∷ qs) more wr wq e =
    let both = same_bytes r q (archive_of rs ++ more) (archive_of qs) wr.0 wq.0 (sym (append_assoc (bytes_of r) (archive_of rs) more) ∙ e) in
    let rest = begins_with rs qs more wr.1 wq.1 both.1 in
    record { more = rest.more; is = λ i. both.0 i ∷ rest.is i }

-- "EARLY PART OR SAME"

abbrev pub answers_early : Order → Bool
answers_early Same = true
answers_early FirstEarly = true
answers_early SecondEarly = false
answers_early (Parts n) = false
answers_early (Refused k) = false

abbrev pub EarlyOrSame : List ℕ → List ℕ → Type 0
EarlyOrSame a b = answers_early (compare_of a b) ≡ true

early_is : (x : Relation) → answers_early (answer_of x) ≡ is_early x
early_is same = refl
early_is first_early = refl
early_is second_early = refl
early_is (part n) = refl

module _ (a b : List ℕ) (ha : Accepted a) (hb : Accepted b) where
  early_records : answers_early (compare_of a b) ≡ is_early (compared (records_in a ha) (records_in b hb))
  early_records = ap answers_early (records_compared a b ha hb) ∙ early_is (compared (records_in a ha) (records_in b hb))

  pub to_records : EarlyOrSame a b → terms.EarlyOrSame (records_in a ha) (records_in b hb)
  to_records e = sym early_records ∙ e

  pub of_records : terms.EarlyOrSame (records_in a ha) (records_in b hb) → EarlyOrSame a b
  of_records e = early_records ∙ e

  bytes_a : archive_of (records_in a ha) ≡ a
  bytes_a = (fresh_archive a ha.bytes ha.number).bytes

  bytes_b : archive_of (records_in b hb) ≡ b
  bytes_b = (fresh_archive b hb.bytes hb.number).bytes

  -- it is so of the bytes
  pub record EarlyBytes : Type 0 where
    pub more : List ℕ
    pub is : a ++ more ≡ b

  pub early_bytes : EarlyOrSame a b → EarlyBytes
  early_bytes e =
      let p = early_part (records_in a ha) (records_in b hb) (to_records e) in
      record { more = archive_of p.more; is = rw bytes_a at (sym (archive_join (records_in a ha) p.more) ∙ ap archive_of p.is ∙ bytes_b) }

  pub bytes_early : EarlyBytes → EarlyOrSame a b
  bytes_early p =
      let ra = fresh_archive a ha.bytes ha.number in
      let rb = fresh_archive b hb.bytes hb.number in
      of_records (part_early (records_in a ha) (records_in b hb)
      (begins_with (records_in a ha) (records_in b hb) p.more ra.well_formed rb.well_formed (rw (bytes_a, bytes_b) p.is)))

  pub antisymmetric : EarlyOrSame a b → EarlyOrSame b a → a ≡ b
  antisymmetric e f =
      let swapped : terms.EarlyOrSame (records_in b hb) (records_in a ha) = sym (ap answers_early (records_compared b a hb ha) ∙ early_is (compared (records_in b hb) (records_in a ha))) ∙ f in
      sym bytes_a ∙ ap archive_of (termsLaws.antisymmetric (records_in a ha) (records_in b hb) (to_records e) swapped) ∙ bytes_b

-- two archives are answered same exactly if they are
pub same_answer : (a : List ℕ) → Accepted a → compare_of a a ≡ Same
same_answer a ha = records_compared a a ha ha ∙ ap answer_of (same_compared (records_in a ha))

pub reflexive : (a : List ℕ) → Accepted a → EarlyOrSame a a
reflexive a ha = ap answers_early (same_answer a ha)

pub transitive : (a b c : List ℕ) → Accepted a → Accepted b → Accepted c → EarlyOrSame a b → EarlyOrSame b c → EarlyOrSame a c
transitive a b c ha hb hc e f =
    of_records a c ha hc
    (termsLaws.transitive (records_in a ha) (records_in b hb) (records_in c hc) (to_records a b ha hb e) (to_records b c hb hc f))
