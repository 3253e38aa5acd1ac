-- The answer on lists of records says what it is, and "early part or same" is an order.
use Rattle.std.specs.Prelude.{ℕ, ◌+◌, ◌≡◌, refl, List, [], ◌∷◌, ◌++◌, Bool, true, false, ◌&&◌, cond, length, eqb}
use Rattle.std.proofs.Common.{sym, ap, ◌∙◌, append_assoc, append-nil, arith, length-append, eq-eqb, eqb-true}
use Rattle.lists.specs.Tests.{and_l, and_r}
use Rattle.layout.specs.Record.{Entry, Record}
use Rattle.compare_terms.specs.Relation.{Relation, same, first_early, second_early, part, same_entry, same_entries, same_record, compared, is_early, EarlyPart, Says}
use Rattle.compare_terms.specs.Order.{EarlyOrSame}

entry_is : (e f : Entry) → same_entry e f ≡ true → e ≡ f
entry_is e f h =
    let a : e.address ≡ f.address = eqb-true _ _ (and_l (eqb e.address f.address) (eqb e.value f.value) h) in
    let b : e.value ≡ f.value = eqb-true _ _ (and_r (eqb e.address f.address) (eqb e.value f.value) h) in
    λ i. record { address = a i; value = b i }

entries_are : (es fs : List Entry) → same_entries es fs ≡ true → es ≡ fs
entries_are [] [] h = refl
entries_are [] (f ∷ fs) h = let z : ◌≡◌ {A = ℕ} 0 1 = cc in absurd (omega arith)
entries_are (e ∷ es) [] h = let z : ◌≡◌ {A = ℕ} 0 1 = cc in absurd (omega arith)
entries_are (e ∷ es) (f ∷ fs) h =
    let first = entry_is e f (and_l (same_entry e f) (same_entries es fs) h) in
    let rest = entries_are es fs (and_r (same_entry e f) (same_entries es fs) h) in
    λ i. first i ∷ rest i

pub record_is : (r q : Record) → same_record r q ≡ true → r ≡ q
unfolding same_record
record_is r q h =
    let a = same_entries r.reads q.reads in
    let b = same_entries r.writes q.writes in
    let c = eqb r.commit q.commit in
    let d = eqb r.transaction q.transaction in
    let s = eqb r.station q.station in
    let k = eqb r.kind q.kind in
    let h5 = and_l (a && b && c && d && s) k h in
    let h4 = and_l (a && b && c && d) s h5 in
    let h3 = and_l (a && b && c) d h4 in
    let h2 = and_l (a && b) c h3 in
    let reads_are = entries_are r.reads q.reads (and_l a b h2) in
    let writes_are = entries_are r.writes q.writes (and_r a b h2) in
    let commit_is : r.commit ≡ q.commit = eqb-true _ _ (and_r (a && b) c h3) in
    let transaction_is : r.transaction ≡ q.transaction = eqb-true _ _ (and_r (a && b && c) d h4) in
    let station_is : r.station ≡ q.station = eqb-true _ _ (and_r (a && b && c && d) s h5) in
    let kind_is : r.kind ≡ q.kind = eqb-true _ _ (and_r (a && b && c && d && s) k h) in
    λ i.
    record {
      reads = reads_are i;
      writes = writes_are i;
      commit = commit_is i;
      transaction = transaction_is i;
      station = station_is i;
      kind = kind_is i;
    }

entries_same : (es : List Entry) → same_entries es es ≡ true
entries_same [] = refl
entries_same (e ∷ es) = rw (eq-eqb e.address e.address refl, eq-eqb e.value e.value refl, entries_same es)

pub record_same : (r : Record) → same_record r r ≡ true
unfolding same_record
record_same r =
    rw (
      entries_same r.reads,
      entries_same r.writes,
      eq-eqb r.commit r.commit refl,
      eq-eqb r.transaction r.transaction refl,
      eq-eqb r.station r.station refl,
      eq-eqb r.kind r.kind refl,
    )

-- a record that both have in front
in_front : (r : Record) (rs qs : List Record) (a : Relation) → Says rs qs a → Says (r ∷ rs) (r ∷ qs) a
in_front r rs qs same h = ap (λ (l : List Record). r ∷ l) h
in_front r rs qs first_early h = record { next = h.next; more = h.more; is = ap (λ (l : List Record). r ∷ l) h.is }
in_front r rs qs second_early h = record { next = h.next; more = h.more; is = ap (λ (l : List Record). r ∷ l) h.is }
in_front r rs qs (part n) h =
    record {
      before = r ∷ h.before;
      first = h.first;
      second = h.second;
      first_more = h.first_more;
      second_more = h.second_more;
      first_is = ap (λ (l : List Record). r ∷ l) h.first_is;
      second_is = ap (λ (l : List Record). r ∷ l) h.second_is;
      differ = h.differ;
      number = h.number;
    }

pub compared_says : (rs qs : List Record) → Says rs qs (compared rs qs)
compared_says [] [] = refl
compared_says [] (q ∷ qs) = record { next = q; more = qs; is = refl }
compared_says (r ∷ rs) [] = record { next = r; more = rs; is = refl }
compared_says (r ∷ rs) (q ∷ qs) = by_test (compared_says rs qs) (same_record r q) refl
  where
    by_test : Says rs qs (compared rs qs) → (b : Bool) → same_record r q ≡ b → Says (r ∷ rs) (q ∷ qs) (cond b (compared rs qs) (part r.commit))
    by_test rest true e = rw (← record_is r q e) (in_front r rs qs (compared rs qs) rest)
    by_test rest false e =
        record {
          before = [];
          first = r;
          second = q;
          first_more = rs;
          second_more = qs;
          first_is = refl;
          second_is = refl;
          differ = λ same-one. let yes : same_record r q ≡ true = rw (← same-one) (record_same r) in let z : ◌≡◌ {A = ℕ} 0 1 = cc in omega arith;
          number = refl;
        }

pub same_compared : (rs : List Record) → compared rs rs ≡ same
same_compared [] = refl
same_compared (r ∷ rs) = rw (record_same r) (same_compared rs)

-- what is so is answered so
pub early_compared : (rs more : List Record) → EarlyOrSame rs (rs ++ more)
early_compared [] [] = refl
early_compared [] (q ∷ qs) = refl
early_compared (r ∷ rs) more = rw (record_same r) (early_compared rs more)

pub early_part : (rs qs : List Record) → EarlyOrSame rs qs → EarlyPart rs qs
early_part rs qs h = on_answer_lem (compared rs qs) (compared_says rs qs) h
  where
    on_answer_lem : (a : Relation) → Says rs qs a → is_early a ≡ true → EarlyPart rs qs
    on_answer_lem same s e = record { more = []; is = append-nil rs ∙ s }
    on_answer_lem first_early s e = record { more = s.next ∷ s.more; is = s.is }
    on_answer_lem second_early s e = let z : ◌≡◌ {A = ℕ} 0 1 = cc in absurd (omega arith)
    on_answer_lem (part n) s e = let z : ◌≡◌ {A = ℕ} 0 1 = cc in absurd (omega arith)

pub part_early : (rs qs : List Record) → EarlyPart rs qs → EarlyOrSame rs qs
part_early rs qs h = rw (← h.is) (early_compared rs h.more)

pub reflexive : (rs : List Record) → EarlyOrSame rs rs
reflexive rs = rw append-nil at (early_compared rs [])

-- as long as the other, and an early part of it: the other itself
whole_part : (rs more qs : List Record) → rs ++ more ≡ qs → length qs ≡ length rs → rs ≡ qs
whole_part rs [] qs e l = sym (append-nil rs) ∙ e
whole_part rs (q ∷ more) qs e l = absurd (omega (arith, rw length-append at (ap length e)))

pub antisymmetric : (rs qs : List Record) → EarlyOrSame rs qs → EarlyOrSame qs rs → rs ≡ qs
antisymmetric rs qs h k =
    let a = early_part rs qs h in
    let b = early_part qs rs k in
    let la : length rs + length a.more ≡ length qs = rw length-append at (ap length a.is) in
    let lb : length qs + length b.more ≡ length rs = rw length-append at (ap length b.is) in
    whole_part rs a.more qs a.is (omega arith)

pub transitive : (rs qs ts : List Record) → EarlyOrSame rs qs → EarlyOrSame qs ts → EarlyOrSame rs ts
transitive rs qs ts h k =
    let a = early_part rs qs h in
    let b = early_part qs ts k in
    part_early rs ts (record { more = a.more ++ b.more; is = sym (append_assoc rs a.more b.more) ∙ ap (λ (l : List Record). l ++ b.more) a.is ∙ b.is })

-- two early parts of one archive, of as many commits, are the same
pub as_long : (rs qs : List Record) (x y : List Record) → rs ++ x ≡ qs ++ y → length rs ≡ length qs → rs ≡ qs
as_long [] [] x y e l = refl
as_long [] (q ∷ qs) x y e l = absurd (omega arith)
as_long (r ∷ rs) [] x y e l = absurd (omega arith)
as_long (r ∷ rs) (q ∷ qs) x y e l =
    let first : r ≡ q = cc in
    let tail : rs ++ x ≡ qs ++ y = cc in
    let rest = as_long rs qs x y tail (omega arith) in
    λ i. first i ∷ rest i
