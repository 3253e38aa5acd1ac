-- Where two archives part: the commits before are the same bytes, and the next ones differ.
use Rattle.std.specs.Prelude.{ℕ, suc, ◌+◌, ◌≡◌, refl, List, [], ◌∷◌, ◌++◌, length}
use Rattle.std.proofs.Common.{sym, ◌∙◌, arith}
use Rattle.std.proofs.Math.Path.{ap}
use Rattle.layout.specs.Record.{Record, WellFormed, AllWellFormed, Numbered, bytes_of, archive_of}
use Rattle.archive_meaning.proofs.Replay.{fresh_archive}
use Rattle.compare.specs.declared.Order.{Order}
use Rattle.compare.specs.declared.Order.TheVariants.{Same, FirstEarly, SecondEarly, Parts, Refused}
use Rattle.compare.specs.Compare.{compare_of}
use Rattle.compare_terms.specs.Relation.{Relation, same, first_early, second_early, part, compared, Earlier, Parting, Says}
use Rattle.compare_terms.proofs.Order.{compared_says}
use Rattle.compare_meaning.specs.Walk.{answer_of}
use Rattle.compare_meaning.specs.Meaning.{Accepted, records_in, records_compared, archive_join}

-- a record behind others
record Behind (before : List Record) (r : Record) : Type 0 where
  all : AllWellFormed before
  one : WellFormed r

behind : (before more : List Record) (r : Record) → AllWellFormed (before ++ (r ∷ more)) → Behind before r
behind [] more r w = record { all = tt; one = w.0 }
behind (q ∷ before) more r w = let rest = behind before more r w.1 in record { all = (w.0, rest.all); one = rest.one }

numbered_next : (before more : List Record) (r : Record) (last : ℕ) → Numbered last (before ++ (r ∷ more)) → r.commit ≡ suc (last + length before)
numbered_next [] more r last n = n.0 ∙ omega arith
numbered_next (q ∷ before) more r last n = numbered_next before more r (suc last) n.1 ∙ omega arith

joined : (before more : List Record) (r : Record) (s : List ℕ) (rs : List Record) → before ++ (r ∷ more) ≡ rs → archive_of rs ≡ s
    → archive_of before ++ (bytes_of r ++ archive_of more) ≡ s
unfolding archive_of
joined before more r s rs e b = sym (archive_join before (r ∷ more)) ∙ ap archive_of e ∙ b

-- "they part, with the first commit number where they do": number n
pub record PartsAt (a b : List ℕ) (n : ℕ) : Type 0 where
  -- the commits before it, which both have
  pub before : List Record
  pub well_formed : AllWellFormed before
  pub as_many : n ≡ suc (length before)
  -- commit n of each
  pub first : Record
  pub second : Record
  pub first_well_formed : WellFormed first
  pub second_well_formed : WellFormed second
  pub first_commit : first.commit ≡ n
  pub second_commit : second.commit ≡ n
  pub differ : first ≡ second → ⊥
  -- the bytes
  pub first_rest : List ℕ
  pub second_rest : List ℕ
  pub first_is : archive_of before ++ (bytes_of first ++ first_rest) ≡ a
  pub second_is : archive_of before ++ (bytes_of second ++ second_rest) ≡ b

-- one has commits that the other lacks
pub record LongerBy (a b : List ℕ) : Type 0 where
  pub next : Record
  pub more : List Record
  pub is : a ++ (bytes_of next ++ archive_of more) ≡ b

module _ (a b : List ℕ) (ha : Accepted a) (hb : Accepted b) where
  longer : (s t : List ℕ) (hs : Accepted s) (ht : Accepted t) → Earlier (records_in s hs) (records_in t ht) → LongerBy s t
  unfolding archive_of
  longer s t hs ht p =
      let bs = (fresh_archive s hs.bytes hs.number).bytes in
      let bt = (fresh_archive t ht.bytes ht.number).bytes in
      record {
        next = p.next;
        more = p.more;
        is = rw bs at (sym (archive_join (records_in s hs) (p.next ∷ p.more)) ∙ ap archive_of p.is ∙ bt);
      }

  parting : (n : ℕ) → Parting (records_in a ha) (records_in b hb) n → PartsAt a b n
  parting n p =
      let ra = fresh_archive a ha.bytes ha.number in
      let rb = fresh_archive b hb.bytes hb.number in
      let wa = behind p.before p.first_more p.first (rw p.first_is ra.well_formed) in
      let wb = behind p.before p.second_more p.second (rw p.second_is rb.well_formed) in
      let na = numbered_next p.before p.first_more p.first 0 (rw p.first_is ra.numbered) in
      let nb = numbered_next p.before p.second_more p.second 0 (rw p.second_is rb.numbered) in
      record {
        before = p.before;
        well_formed = wa.all;
        as_many = omega (arith, na, p.number);
        first = p.first;
        second = p.second;
        first_well_formed = wa.one;
        second_well_formed = wb.one;
        first_commit = p.number;
        second_commit = omega (arith, na, nb, p.number);
        differ = p.differ;
        first_rest = archive_of p.first_more;
        second_rest = archive_of p.second_more;
        first_is = joined p.before p.first_more p.first a (records_in a ha) p.first_is ra.bytes;
        second_is = joined p.before p.second_more p.second b (records_in b hb) p.second_is rb.bytes;
      }

  -- each answer tells what it says
  abbrev pub Tells : Order → Type 0
  Tells Same = a ≡ b
  Tells FirstEarly = LongerBy a b
  Tells SecondEarly = LongerBy b a
  Tells (Parts n) = PartsAt a b n
  Tells (Refused k) = ⊥

  pub answer_tells : Tells (compare_of a b)
  answer_tells = rw (records_compared a b ha hb) (on_answer_lem (compared (records_in a ha) (records_in b hb)) (compared_says (records_in a ha) (records_in b hb)))
    where
      on_answer_lem : (x : Relation) → Says (records_in a ha) (records_in b hb) x → Tells (answer_of x)
      on_answer_lem same e = sym (fresh_archive a ha.bytes ha.number).bytes ∙ ap archive_of e ∙ (fresh_archive b hb.bytes hb.number).bytes
      on_answer_lem first_early e = longer a b ha hb e
      on_answer_lem second_early e = longer b a hb ha e
      on_answer_lem (part n) e = parting n e
