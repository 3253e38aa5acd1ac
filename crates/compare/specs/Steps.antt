-- What a turn over the common records tells of the answer.
use Rattle.std.specs.Prelude.{ℕ, zero, suc, ◌+◌, ◌-◌, ◌≤◌, ◌<◌, List, [], ◌∷◌, ◌++◌, Bool, length, get_or, eqb, ltb}
use Rattle.std.proofs.Math.Path.{◌≡◌, refl, sym, ap}
use Rattle.std.proofs.Common.{◌∙◌, arith, length-drop, drop-drop}
use Rattle.std.proofs.Math.Bool.{true, false, cond}
use Rattle.std.proofs.Math.ListN.{take, drop, take-append-drop}
use Rattle.std.proofs.Math.Seq.{length-take-le}
use borrow.Author.Tests.{le-ltb, ne_eqb, ltb-true, ltb-false, eqb-true, eqb-false}
use Rattle.lists.specs.Tests.{all_to, all_to_at}
use Rattle.lists.specs.Stores.{to_the_end}
use Rattle.record.specs.Check.{commit_number, length_of, claimed_length, check_of}
use Rattle.record.specs.Facts.{accepted}
use Rattle.archive.specs.declared.Fields.{Fields}
use Rattle.archive.specs.declared.Answer.{Answer}
use Rattle.archive.specs.declared.Answer.TheVariants as answer
use Rattle.archive.specs.Read.{fields_of, first_of}
use Rattle.archive.specs.Facts.{recorded}
use Rattle.replay.specs.Replay.{reads_agree, stored, Replayed, replayed, on_answer, replay_of}
use Rattle.replay.specs.Played.{Played, played, archive_played}
use Rattle.replay.specs.Fuel.{replay_read}
use Rattle.replay_parts.specs.Prefix.{placed, whole_start, same_start}
use Rattle.replay_parts.specs.Rest.{first_played, refused_first}
use Rattle.compare.specs.declared.Order.{Order}
use Rattle.compare.specs.declared.Order.TheVariants.{Refused}
use Rattle.compare.specs.Compare.{same_byte, same_to, same_record, ending_of, walk_from, walk_of, decided, compare_from, shared_of, decided_of, Together}

-- THE WALK

pub record SameTo (x y : List ℕ) (n : ℕ) : Type 0 where
  pub first_there : n ≤ length x
  pub second_there : n ≤ length y
  pub each : all_to (same_byte x y) n ≡ true

pub same_to_lem : (x y : List ℕ) (n : ℕ) → same_to x y n ≡ true → SameTo x y n
unfolding same_to
same_to_lem x y n h = by_tests (ltb (length x) n) (ltb (length y) n) refl refl h
  where
    by_tests : (a b : Bool) → ltb (length x) n ≡ a → ltb (length y) n ≡ b → cond a false (cond b false (all_to (same_byte x y) n)) ≡ true → SameTo x y n
    by_tests true b ea eb e = let z : ◌≡◌ {A = ℕ} 0 1 = cc in absurd (omega arith)
    by_tests false true ea eb e = let z : ◌≡◌ {A = ℕ} 0 1 = cc in absurd (omega arith)
    by_tests false false ea eb e = record { first_there = ltb-false _ _ ea; second_there = ltb-false _ _ eb; each = e }

-- a record claims a header at least
pub claims : (x : List ℕ) → 16 ≤ claimed_length x
unfolding claimed_length
claims x = by_test (ltb (length x) 16)
  where
    by_test : (b : Bool) → 16 ≤ cond b 16 (length_of x)
    by_test true = omega arith
    by_test false = omega arith

-- with turns to spare, how many there are makes no difference
walk_enough : (m n : ℕ) (x y : List ℕ) → length x < m → length x < n → walk_from m x y ≡ walk_from n x y
unfolding walk_from
walk_enough zero n x y hm hn = absurd (omega arith)
walk_enough (suc m) zero x y hm hn = absurd (omega arith)
walk_enough (suc m) (suc n) x y hm hn = by_test (λ p q h k. walk_enough m n p q h k) (same_record x y) refl
  where
    by_test : ((p q : List ℕ) → length p < m → length p < n → walk_from m p q ≡ walk_from n p q) → (b : Bool) → same_record x y ≡ b
        → cond b (walk_from m (drop (claimed_length x) x) (drop (claimed_length x) y)) (ending_of x y) ≡ cond b (walk_from n (drop (claimed_length x) x) (drop (claimed_length x) y)) (ending_of x y)
    by_test rest true e =
        let s = same_to_lem x y (claimed_length x) e in
        let there = s.first_there in
        let l = length-drop (claimed_length x) x in
        let k = claims x in
        rest (drop (claimed_length x) x) (drop (claimed_length x) y) (omega arith) (omega arith)
    by_test rest false e = refl

-- one turn of the walk
pub walk_on : (x y : List ℕ) → same_record x y ≡ true → walk_of x y ≡ walk_of (drop (claimed_length x) x) (drop (claimed_length x) y)
unfolding walk_of walk_from
walk_on x y e =
    let s = same_to_lem x y (claimed_length x) e in
    let there = s.first_there in
    let l = length-drop (claimed_length x) x in
    let k = claims x in
    rw e (walk_enough (length x) (suc (length (drop (claimed_length x) x))) (drop (claimed_length x) x) (drop (claimed_length x) y) (omega arith) (omega arith))

pub walk_ends : (x y : List ℕ) → same_record x y ≡ false → walk_of x y ≡ ending_of x y
unfolding walk_of walk_from
walk_ends x y e = rw e

-- THE SAME BYTES ARE PLAYED ALIKE

take_of : (n : ℕ) (x y : List ℕ) → n ≤ length x → n ≤ length y → ((i : ℕ) → i < n → get_or x i 0 ≡ get_or y i 0) → take n x ≡ take n y
take_of zero x y hx hy h = refl
take_of (suc n) [] y hx hy h = absurd (omega arith)
take_of (suc n) (a ∷ x) [] hx hy h = absurd (omega arith)
take_of (suc n) (a ∷ x) (b ∷ y) hx hy h =
    let first : a ≡ b = h 0 (omega arith) in
    let rest = take_of n x y (omega arith) (omega arith) (λ i l. h (suc i) (omega arith)) in
    λ j. first j ∷ rest j

pub take_same : (x y : List ℕ) (n : ℕ) → SameTo x y n → take n x ≡ take n y
take_same x y n s =
    take_of n x y s.first_there s.second_there (λ i l. eqb-true _ _ (all_to_at (same_byte x y) n s.each i l))

-- an answer is a record's, or a refusal's, which changes nothing
module _ (x : List ℕ) (last : ℕ) (v : List ℕ) (P : Replayed → Type 0) (no : (k : ℕ) → (k ≡ 0 → ⊥) → P (replayed v (answer.Refused k)))
    (yes : P (replayed (stored x v) (answer.Record (fields_of x 0)))) where
  on_agree : (c : Bool) → P (cond c (replayed (stored x v) (answer.Record (fields_of x 0))) (replayed v (answer.Refused 14)))
  on_agree true = yes
  on_agree false = no 14 (λ z. omega arith)

  on_tests : (a b : Bool) → eqb (check_of x) 0 ≡ a → P (on_answer x v (cond a (cond b (answer.Record (fields_of x 0)) (answer.Refused 13)) (answer.Refused (check_of x))))
  on_tests false b e = no (check_of x) (eqb-false _ _ e)
  on_tests true false e = no 13 (λ z. omega arith)
  on_tests true true e = on_agree (reads_agree x v)

  answers : 0 < length x → P (replay_of x 0 last v)
  unfolding first_of
  answers there = rw (placed x 0 last v there) (on_tests (eqb (check_of x) 0) (eqb (commit_number x) (last + 1)) refl)

module _ (x y : List ℕ) (last : ℕ) (v w : List ℕ) where
  there : same_record x y ≡ true → 0 < length x
  there e = let s = same_to_lem x y (claimed_length x) e in let h = s.first_there in let c = claims x in omega arith

  -- A COMMON RECORD

  module _ (f : Fields) where
    pub record Shared : Type 0 where
      pub moves : 0 < f.end
      pub first_in : f.end ≤ length x
      pub second_in : f.end ≤ length y
      pub goes_on : compare_from x y last v ≡ compare_from (drop f.end x) (drop f.end y) f.commit w

    pub shared_record : replayed w (answer.Record f) ≡ shared_of x y last v → Shared
    unfolding shared_of compare_from fields_of claimed_length
    shared_record e = by_test (same_record x y) refl e
      where
        by_test : (b : Bool) → same_record x y ≡ b → replayed w (answer.Record f) ≡ cond b (replay_of x 0 last v) (replayed v answer.End) → Shared
        by_test false eb q =
            let k : answer.Record f ≡ answer.End = ap (λ (r : Replayed). r.answer) q in
            let z : ◌≡◌ {A = ℕ} 0 1 = cc in absurd (omega arith)
        by_test true eb q =
            let n = claimed_length x in
            let s = same_to_lem x y n eb in
            let r = recorded x 0 last f (replay_read x 0 last v f (sym (ap (λ (p : Replayed). p.answer) q))) in
            let a = accepted x r.checks in
            let is : n ≡ length_of x = rw (le-ltb (length x) 16 a.header_there) in
            let ends : f.end ≡ n = sym (ap (λ (g : Fields). g.end) r.fields) ∙ omega (arith, is) in
            let t = take n x in
            let size = length-take-le n x s.first_there in
            let first : t ++ drop n x ≡ x = take-append-drop n x in
            let second : t ++ drop n y ≡ y = rw (take_same x y n s) (take-append-drop n y) in
            let whole = whole_start t (drop n x) (omega (arith, claims x)) (rw first (omega arith)) in
            let alike : replay_of x 0 last v ≡ replay_of y 0 last v = rw (first, second) at (same_start t (drop n x) (drop n y) last v whole) in
            let ex = first_played x last v w f q in
            let ey = first_played y last v w f (q ∙ alike) in
            let ew : walk_of x y ≡ walk_of (drop f.end x) (drop f.end y) = rw ends (walk_on x y eb) in
            record {
              moves = omega (arith, claims x);
              first_in = rw ends s.first_there;
              second_in = rw ends s.second_there;
              goes_on = λ j. decided (ex j).number (ey j).number (ew j);
            }

  -- NO COMMON RECORD

  pub shared_end : replayed w answer.End ≡ shared_of x y last v → compare_from x y last v ≡ decided_of x y last w
  unfolding shared_of compare_from decided_of
  shared_end e = by_test (same_record x y) refl e
    where
      by_test : (b : Bool) → same_record x y ≡ b → replayed w answer.End ≡ cond b (replay_of x 0 last v) (replayed v answer.End)
          → decided (archive_played x last v).number (archive_played y last v).number (walk_of x y)
          ≡ decided (archive_played x last w).number (archive_played y last w).number (ending_of x y)
      by_test false eb q =
          let same : v ≡ w = sym (ap (λ (r : Replayed). r.values) q) in
          rw (same, walk_ends x y eb)
      by_test true eb q =
          absurd
          (answers x last v (λ r. replayed w answer.End ≡ r → ⊥)
          (λ k n h. let a : answer.End ≡ answer.Refused k = ap (λ (r : Replayed). r.answer) h in let z : ◌≡◌ {A = ℕ} 0 1 = cc in omega arith)
          (λ h. let a : answer.End ≡ answer.Record (fields_of x 0) = ap (λ (r : Replayed). r.answer) h in let z : ◌≡◌ {A = ℕ} 0 1 = cc in omega arith)
          (there eb)
          q)

  -- A COMMON RECORD THAT IS REFUSED

  module _ (k : ℕ) where
    pub record Refusal : Type 0 where
      pub number : k ≡ 0 → ⊥
      pub answer_is : compare_from x y last v ≡ Refused k

    pub shared_refused : replayed w (answer.Refused k) ≡ shared_of x y last v → Refusal
    unfolding shared_of compare_from
    shared_refused e = by_test (same_record x y) refl e
      where
        by_test : (b : Bool) → same_record x y ≡ b → replayed w (answer.Refused k) ≡ cond b (replay_of x 0 last v) (replayed v answer.End) → Refusal
        by_test false eb q =
            let a : answer.Refused k ≡ answer.End = ap (λ (r : Replayed). r.answer) q in
            let z : ◌≡◌ {A = ℕ} 0 1 = cc in absurd (omega arith)
        by_test true eb q =
            let some : k ≡ 0 → ⊥ =
            answers x last v (λ r. replayed w (answer.Refused k) ≡ r → k ≡ 0 → ⊥)
            (λ j n h z. let a : answer.Refused k ≡ answer.Refused j = ap (λ (r : Replayed). r.answer) h in let same : k ≡ j = cc in n (sym same ∙ z))
            (λ h z. let a : answer.Refused k ≡ answer.Record (fields_of x 0) = ap (λ (r : Replayed). r.answer) h in let z : ◌≡◌ {A = ℕ} 0 1 = cc in omega arith)
            (there eb)
            q in
            record { number = some; answer_is = rw (refused_first x last v w k q, ne_eqb k 0 some) }

-- A TURN OF THE LOOP

module _ (a b v₀ : List ℕ) (at last : ℕ) (v w : List ℕ) (first_in : at ≤ length a) (second_in : at ≤ length b)
    (so_far : compare_from a b 0 v₀ ≡ compare_from (drop at a) (drop at b) last v) where
  abbrev shares : Answer → Type 0
  shares r = replayed w r ≡ shared_of (take (length a - at) (drop at a)) (take (length b - at) (drop at b)) last v

  here : (r : Answer) → shares r → replayed w r ≡ shared_of (drop at a) (drop at b) last v
  here r e = rw (to_the_end a at, to_the_end b at) at e

  pub record Onward (f : Fields) : Type 0 where
    pub moves : 0 < f.end
    pub first : at + f.end ≤ length a
    pub second : at + f.end ≤ length b
    pub goes_on : compare_from a b 0 v₀ ≡ compare_from (drop (at + f.end) a) (drop (at + f.end) b) f.commit w

  pub onward : (f : Fields) → shares (answer.Record f) → Onward f
  onward f e =
      let s = shared_record (drop at a) (drop at b) last v w f (here (answer.Record f) e) in
      let la = length-drop at a in
      let lb = length-drop at b in
      record {
        moves = s.moves;
        first = omega (arith, s.first_in);
        second = omega (arith, s.second_in);
        goes_on = so_far ∙ s.goes_on ∙ (λ j. compare_from (drop-drop f.end at a j) (drop-drop f.end at b j) f.commit w);
      }

  pub stops : shares answer.End → Together a b v₀ w at last 0
  stops e =
      record {
        first_in = first_in;
        second_in = second_in;
        goes_on = λ z. so_far ∙ shared_end (drop at a) (drop at b) last v w (here answer.End e);
        refused = λ n. absurd (n refl);
      }

  pub refuses : (k : ℕ) → shares (answer.Refused k) → Together a b v₀ w at last k
  refuses k e =
      let r = shared_refused (drop at a) (drop at b) last v w k (here (answer.Refused k) e) in
      record {
        first_in = first_in;
        second_in = second_in;
        goes_on = λ z. absurd (r.number z);
        refused = λ n. so_far ∙ r.answer_is;
      }

-- the rests, as they are lent
pub rests : (a b v w : List ℕ) (at last k : ℕ) (r : Order) → Together a b v w at last k → k ≡ 0
    → r ≡ decided_of (take (length a - at) (drop at a)) (take (length b - at) (drop at b)) last w → r ≡ compare_from a b 0 v
rests a b v w at last k r t z e = rw (to_the_end a at, to_the_end b at) at e ∙ sym (t.goes_on z)
