-- A call's answer is document 02's: for every archive, table, stretch and address.
use Rattle.std.specs.Prelude.{ℕ, zero, suc, ◌+◌, ◌-◌, ◌≤◌, ◌<◌, ◌≡◌, Bool, ◌&&◌, take, drop, get_or, eqb, ltb, leb, ℤ, pos, nat_abs, Some, None}
use Rattle.std.proofs.Math.Path.{refl, fun_ext}
use Rattle.std.proofs.Common.{sym, ap, ◌∙◌, add-zero, arith, length-append, length-drop, le-leb, ltb-true, ltb-false, eqb-true}
use Rattle.std.proofs.Math.Bool.{true, false, cond}
use mathlib.Core.List.{List, [], ◌∷◌, ◌++◌}
use Rattle.std.proofs.Math.Nat.{zero-add}
use Rattle.std.proofs.Math.ListN.{length}
use Rattle.std.proofs.Math.IntN.{+ℤ_idl}
use Rattle.std.proofs.lemmas.Bool.{lt-leb, eqb-false}
use Rattle.lists.specs.Bytes.{Bytes}
use Rattle.lists.specs.Stores.{to_the_end}
use Rattle.lists.specs.Parts.{drop_behind}
use Rattle.layout.specs.Record.{Record, AllWellFormed, Numbered, bytes_of, archive_of}
use Rattle.layout.specs.Replay.{Values, zeros, wrote, Replays}
use Rattle.record_meaning.specs.Parse.{record_of}
use Rattle.record_meaning.proofs.Meaning.{written_read}
use Rattle.archive.specs.declared.Answer.{Answer}
use Rattle.archive.specs.declared.Answer.TheVariants as answer
use Rattle.archive.specs.Read.{fields_of}
use Rattle.replay.specs.Replay.{reads_agree, stored, replay_of}
use Rattle.replay.specs.Played.{play_from, archive_played, onward}
use Rattle.archive_meaning.proofs.Facts.{fields_said, reads_there, ends_there}
use Rattle.archive_meaning.specs.Stored.{values_of}
use Rattle.archive_meaning.proofs.Stored.{fresh_values, replaying}
use Rattle.archive_meaning.specs.Replay.{fresh}
use Rattle.archive_meaning.proofs.Replay.{fresh_archive}
use Rattle.totals.specs.Writers.{writes}
use Rattle.totals_meaning.specs.Written.{writes_to}
use Rattle.totals_meaning.proofs.Written.{written_is}
use Rattle.signed.specs.declared.Change.{Change}
use Rattle.signed.specs.declared.Change.TheVariants.{By, Beyond}
use Rattle.signed.specs.Change.{most}
use Rattle.tariff.specs.declared.Fee.TheVariants as fee
use Rattle.tariff.specs.Table.{lawful, cents_of, signed_fee, fee_of}
use Rattle.licence.specs.declared.Frames.TheVariants.{Refused}
use Rattle.licence.specs.Frames.{noted_of, summed, closed_of, frames_for, frames_from, frames_on, frames_of}
use Rattle.licence.specs.Fee.{Billed, billed, on_fee, on_frames, licence_of}
use Rattle.licence.specs.Turns as turns
use Rattle.licence_terms.specs.Tariff.{Step, cost_of, cents, fee_for}
use Rattle.licence_terms.specs.Frames.{frames, frames_fit}
use Rattle.licence_terms.specs.Licence.{owes, refused, in_archive, licence}
use Rattle.licence_meaning.specs.Steps.{steps_of, Table}
use Rattle.licence_meaning.proofs.Steps.{lawful_table, table_lawful, charge_is_cost}
use Rattle.licence_meaning.specs.Sum.{note_record, sum_through}
use Rattle.licence_meaning.proofs.Sum.{noted_is, sums}
use Rattle.licence_meaning.specs.Meaning.{answered}

-- an archive that is refused gives its own number
number_first : (n : ℕ) (s : List ℕ) (first last a at c : ℕ) (v : List ℕ) (sum : Change) → 0 < (play_from n s at c v).number
    → frames_from n s first last a at c v sum ≡ Refused (play_from n s at c v).number
unfolding frames_from play_from
number_first zero s first last a at c v sum h = refl
number_first (suc n) s first last a at c v sum h = on_answer_lem (λ p l w d g. number_first n s first last a p l w d g) (replay_of s at c v).answer h
  where
    w₁ : List ℕ
    w₁ = (replay_of s at c v).values

    on_answer_lem : ((p l : ℕ) (w : List ℕ) (d : Change) → 0 < (play_from n s p l w).number → frames_from n s first last a p l w d ≡ Refused (play_from n s p l w).number)
        → (b : Answer) → 0 < (onward (play_from n s) c w₁ b).number
        → frames_for (frames_from n s first last a) (drop at s) first last a c v w₁ sum b ≡ Refused (onward (play_from n s) c w₁ b).number
    on_answer_lem rest (answer.Record f) g = rest f.end f.commit w₁ (noted_of sum (drop at s) f.commit first last a (get_or w₁ a 0) (get_or v a 0)) g
    on_answer_lem rest answer.End g = absurd (omega arith)
    on_answer_lem rest (answer.Refused k) g = refl

-- the records of an archive from `at` on, behind commit c, are summed to its end
through : (rs : List Record) (s : List ℕ) (a first last at c : ℕ) (v : List ℕ) (sum : Change) → at ≤ length s → length v ≡ 256 → drop at s ≡ archive_of rs
    → AllWellFormed rs → Numbered c rs → Replays rs (values_of v)
    → frames_from (suc (length s) - at) s first last a at c v sum ≡ closed_of (sum_through a first last rs (values_of v) sum) (c + length rs) first last
unfolding archive_of replay_of
through [] s a first last at c v sum h hv e w n g =
    let none : length (drop at s) ≡ 0 = ap length e in
    let there : at ≡ length s = omega (arith, length-drop at s) in
    turns.turn s first last a at c v sum h v answer.End (rw (ends_there s at c there)) ∙ ap (λ (k : ℕ). closed_of sum k first last) (sym (add-zero c))
through (r ∷ rs) s a first last at c v sum h hv e w n g =
    let tail = archive_of rs in
    let t = drop at s in
    let said = fields_said r tail at w.0 in
    let next = at + length (bytes_of r) in
    let l = simp (length-drop, length-append) at (ap length e) in
    let same : record_of t ≡ r = rw e (written_read r tail w.0).record_is in
    let one = replaying t v hv (rw same w.0.writes_fit) in
    let agree : reads_agree t v ≡ true = one.reads_pass (rw same g.0) in
    let after : values_of (stored t v) ≡ wrote r.writes (values_of v) = fun_ext (λ b. rw (← same) (one.writes_are b)) in
    let read = reads_there r tail s at c e w.0 n.0 in
    let f = fields_of (bytes_of r ++ tail) at in
    let more = note_record a first last r (values_of v) sum in
    let written : writes (take (length s - at) t) a ≡ writes_to a r.writes = rw to_the_end (written_is t a ∙ ap (λ (q : Record). writes_to a q.writes) same) in
    let noted : more ≡ noted_of sum (take (length s - at) t) f.commit first last a (get_or (stored t v) a 0) (get_or v a 0) =
    sym (noted_is sum (take (length s - at) t) f.commit first last a (get_or (stored t v) a 0) (get_or v a 0) r (values_of v) said.commit_is written (ap (λ (k : Values). k a) after) refl) in
    let step : frames_from (suc (length s) - at) s first last a at c v sum ≡ frames_from (suc (length s) - next) s first last a next (suc c) (stored t v) more =
    turns.turn_record s first last a at c v sum h (stored t v) f more (rw (read, agree)) noted ∙ rw (said.end_is, said.commit_is, n.0) in
    let behind = drop_behind (bytes_of r) tail s at next e refl in
    let rest = through rs s a first last next (suc c) (stored t v) more (omega arith) (one.as_many ∙ hv) behind w.1 n.1 (rw after g.1) in
    let number : suc c + length rs ≡ c + suc (length rs) = omega arith in
    step ∙ rest ∙ rw (after, number)

-- the tests of the stretch
closed_is : (sum : Change) (n first last : ℕ) → closed_of sum n first last ≡ cond (in_archive first last n) (summed sum) (Refused 13)
unfolding closed_of
closed_is sum n first last = by_tests (eqb first 0) (ltb last first) (ltb n last) refl refl refl
  where
    by_tests : (x y z : Bool) → eqb first 0 ≡ x → ltb last first ≡ y → ltb n last ≡ z
        → cond x (Refused 13) (cond y (Refused 13) (cond z (Refused 13) (summed sum))) ≡ cond (leb 1 first && leb first last && leb last n) (summed sum) (Refused 13)
    by_tests true y z ex ey ez = let e : first ≡ 0 = eqb-true _ _ ex in rw (lt-leb 1 first (omega arith))
    by_tests false true z ex ey ez =
        let e : first ≡ 0 → ⊥ = eqb-false _ _ ex in
        rw (le-leb 1 first (omega (arith, e)), lt-leb first last (ltb-true _ _ ey))
    by_tests false false true ex ey ez =
        let e : first ≡ 0 → ⊥ = eqb-false _ _ ex in
        rw (le-leb 1 first (omega (arith, e)), le-leb first last (ltb-false _ _ ey), lt-leb last n (ltb-true _ _ ez))
    by_tests false false false ex ey ez =
        let e : first ≡ 0 → ⊥ = eqb-false _ _ ex in
        rw (le-leb 1 first (omega (arith, e)), le-leb first last (ltb-false _ _ ey), le-leb last n (ltb-false _ _ ez))

-- the fee of the table's bytes is the tariff's, exact to the cent, or beyond
pub fee_is : (t : List ℕ) (n : ℤ) → lawful t ≡ true → fee_of t n ≡ cond (leb (cents (cost_of (steps_of t) (nat_abs n))) most) (fee.Owed (fee_for (steps_of t) n)) fee.Beyond
unfolding fee_of fee_for cents_of
fee_is t n h = rw (charge_is_cost t (nat_abs n) h) (by_test (ltb most (cents (cost_of (steps_of t) (nat_abs n)))) refl)
  where
    x : ℕ
    x = cents (cost_of (steps_of t) (nat_abs n))

    by_test : (b : Bool) → ltb most (cents (cost_of (steps_of t) (nat_abs n))) ≡ b
        → signed_fee n (cond b None (Some (cents (cost_of (steps_of t) (nat_abs n))))) ≡ cond (leb (cents (cost_of (steps_of t) (nat_abs n))) most) (fee.Owed (fee_for (steps_of t) n)) fee.Beyond
    by_test true e = rw (lt-leb x most (ltb-true _ _ e))
    by_test false e = rw (le-leb x most (ltb-false _ _ e))

module _ (s t : List ℕ) (first last a : ℕ) (x y : ℤ) (hs : Bytes s) where
  -- an archive that is accepted
  module _ (rs : List Record) (bytes : archive_of rs ≡ s) (w : AllWellFormed rs) (n : Numbered 0 rs) (g : Replays rs zeros) where
    summed_is : frames_of s first last a
        ≡ cond (in_archive first last (length rs)) (summed (cond (frames_fit a first last rs zeros) (By (frames a first last rs zeros)) Beyond)) (Refused 13)
    unfolding frames_of
    summed_is =
        let zero-values = fresh_values 256 in
        let all : frames_on s first last a fresh ≡ closed_of (sum_through a first last rs zeros (By (pos 0))) (0 + length rs) first last =
        turns.begins s first last a fresh ∙ rw zero-values at (through rs s a first last 0 0 fresh (By (pos 0)) (omega arith) refl (sym bytes) w n (rw zero-values g)) in
        let total : sum_through a first last rs zeros (By (pos 0)) ≡ cond (frames_fit a first last rs zeros) (By (frames a first last rs zeros)) Beyond =
        rw (+ℤ_idl (frames a first last rs zeros)) at (sums rs a first last zeros (pos 0) w) in
        all ∙ rw (total, zero-add (length rs)) (closed_is _ (length rs) first last)

    billed_is : lawful t ≡ true → licence_of s t first last a x y ≡ answered x y (licence (steps_of t) a first last rs)
    unfolding licence_of licence
    billed_is h = rw (h, summed_is) (by_tests (in_archive first last (length rs)) (frames_fit a first last rs zeros) (frames a first last rs zeros))
      where
        ss : List Step
        ss = steps_of t

        on_fee_lem : (m : ℤ) (b : Bool) → leb (cents (cost_of (steps_of t) (nat_abs m))) most ≡ b
            → on_fee m x y (cond b (fee.Owed (fee_for (steps_of t) m)) fee.Beyond) ≡ answered x y (cond b (owes m (fee_for (steps_of t) m)) (refused 18))
        on_fee_lem m true e = refl
        on_fee_lem m false e = refl

        by_tests : (p q : Bool) (m : ℤ) → on_frames t x y (cond p (summed (cond q (By m) Beyond)) (Refused 13))
            ≡ answered x y (cond p (cond (q && leb (cents (cost_of (steps_of t) (nat_abs m))) most) (owes m (fee_for (steps_of t) m)) (refused 18)) (refused 13))
        by_tests false q m = refl
        by_tests true false m = refl
        by_tests true true m = rw (fee_is t m h) (on_fee_lem m (leb (cents (cost_of ss (nat_abs m))) most) refl)

  -- what the answer of a call is
  pub record Answers (b : Billed) : Type 0 where
    -- "17, Tariff: the table breaks its rules, checked first"
    pub tariff_first : (Table t → ⊥) → b ≡ billed x y 17
    -- "then the archive's own number"
    pub archive_next : Table t → 0 < (archive_played s 0 fresh).number → b ≡ billed x y (archive_played s 0 fresh).number
    -- of the records that an accepted archive has: 13, 18, or sum and fee
    pub then_licence : Table t → (z : (archive_played s 0 fresh).number ≡ 0) → b ≡ answered x y (licence (steps_of t) a first last (fresh_archive s hs z).records)

  pub licence_means : Answers (licence_of s t first last a x y)
  unfolding licence_of frames_of frames_on archive_played
  licence_means =
      record {
        tariff_first = λ lacks. by_test (lawful t) refl lacks;
        archive_next = λ b h. rw (table_lawful t b, number_first (suc (length s)) s first last a 0 0 fresh (By (pos 0)) h);
        then_licence = λ b z. let r = fresh_archive s hs z in billed_is r.records r.bytes r.well_formed r.numbered r.replays (table_lawful t b);
      }
    where
      by_test : (b : Bool) → lawful t ≡ b → (Table t → ⊥) → cond b (on_frames t x y (frames_of s first last a)) (billed x y 17) ≡ billed x y 17
      by_test true e lacks = absurd (lacks (lawful_table t e))
      by_test false e lacks = refl
