-- "If one is an early part, its final counts are those of the other played back to its last commit."
use Prim.Native.Nat.{ℕ, zero, suc, ◌+◌, ◌≤◌, ◌<◌}
use Rattle.std.specs.Prelude.{◌≡◌, Bool, true, false, cond, length, drop, get_or, eqb}
use Rattle.std.proofs.Math.Path.{refl, sym, ap}
use Rattle.std.proofs.Common.{◌∙◌, arith, length-append, eqb-true}
use mathlib.Core.List.{List, [], ◌∷◌, ◌++◌, append-nil}
use Rattle.std.proofs.lemmas.Bool.{eqb-false}
use Rattle.layout.specs.Record.{Record, archive_of}
use Rattle.layout.specs.Replay.{zeros, left}
use Rattle.archive.specs.declared.Fields.{Fields}
use Rattle.archive.specs.declared.Answer.{Answer}
use Rattle.archive.specs.declared.Answer.TheVariants as answer
use Rattle.archive.specs.Read.{fields_of}
use Rattle.archive.specs.Facts.{recorded}
use Rattle.replay.specs.Replay.{replay_of}
use Rattle.replay.specs.Played.{Played, onward, play_from, archive_played}
use Rattle.replay.specs.Fuel.{replay_read}
use Rattle.archive_meaning.specs.Replay.{fresh}
use Rattle.archive_meaning.proofs.Replay.{fresh_archive}
use Rattle.totals.specs.Tally.{Tallied, tallied, noted, tally_for, tally_from, tally_of}
use Rattle.totals_meaning.specs.Written.{writers_of}
use Rattle.totals_meaning.specs.Counters.{Counters}
use Rattle.totals_meaning.proofs.Counters.{table_means}
use Rattle.compare_terms.specs.Relation.{EarlyPart}
use Rattle.compare_terms.proofs.Order.{early_part, as_long}
use Rattle.compare_meaning.specs.Meaning.{Accepted, records_in, only_records, begins_with, EarlyOrSame, to_records}

module _ (s : List ℕ) (until : ℕ) where
  -- a tally of an archive that is accepted is not refused, and stops at the commit asked for at the latest
  record Tame (n : ℕ) (at last : ℕ) (v : List ℕ) (t : Tallied) : Type 0 where
    accepted : (play_from n s at last v).number ≡ 0 → t.number ≡ 0
    not_behind : last ≤ until → t.last ≤ until

  tame : (n at last : ℕ) (v c : List ℕ) → Tame n at last v (tally_from n true s until at last v c)
  unfolding tally_from play_from fields_of
  tame zero at last v c = record { accepted = λ z. absurd (omega arith); not_behind = λ h. h }
  tame (suc n) at last v c = by_test (λ p l w d. tame n p l w d) (eqb last until) refl
    where
      w₁ : List ℕ
      w₁ = (replay_of s at last v).values

      Next : Type 0
      Next = (p l : ℕ) (w d : List ℕ) → Tame n p l w (tally_from n true s until p l w d)

      on_answer_lem : Next → (last ≡ until → ⊥) → (a : Answer) → (replay_of s at last v).answer ≡ a
          → ((onward (play_from n s) last (replay_of s at last v).values a).number ≡ 0 → (tally_for (tally_from n true s until) true (drop at s) at last (replay_of s at last v).values c a).number ≡ 0)
          × (last ≤ until → (tally_for (tally_from n true s until) true (drop at s) at last (replay_of s at last v).values c a).last ≤ until)
      on_answer_lem next far (answer.Record f) e =
          let r = recorded s at last f (replay_read s at last v f e) in
          let number : f.commit ≡ last + 1 = sym (ap (λ (g : Fields). g.commit) r.fields) ∙ r.follows in
          let more = next f.end f.commit w₁ (noted true (drop at s) c) in
          (more.accepted, λ h. more.not_behind (omega (arith, far)))
      on_answer_lem next far answer.End e = (λ z. refl, λ h. h)
      on_answer_lem next far (answer.Refused k) e = (λ z. z, λ h. h)

      by_test : Next → (b : Bool) → eqb last until ≡ b
          → Tame (suc n) at last v (cond b (tallied v c at last 0) (tally_for (tally_from n true s until) true (drop at s) at last (replay_of s at last v).values c (replay_of s at last v).answer))
      by_test next true e = record { accepted = λ z. refl; not_behind = λ h. h }
      by_test next false e =
          let on = on_answer_lem next (eqb-false _ _ e) (replay_of s at last v).answer refl in
          record { accepted = on.0; not_behind = on.1 }

-- the other archive, played back to this one's last commit
abbrev pub back_to : ℕ → List ℕ → Tallied
back_to until b = tally_of true b 0 until fresh fresh

pub record FinalCounts (a b : List ℕ) (rs : List Record) : Type 0 where
  pub number : (back_to (archive_played a 0 fresh).last b).number ≡ 0
  pub last_is : (back_to (archive_played a 0 fresh).last b).last ≡ (archive_played a 0 fresh).last
  pub values : (c : ℕ) → get_or (back_to (archive_played a 0 fresh).last b).values c 0 ≡ get_or (archive_played a 0 fresh).values c 0
  -- and each counter was written as often
  pub writes : (c : ℕ) → c < 256 → get_or (back_to (archive_played a 0 fresh).last b).counts c 0 ≡ writers_of c rs

-- two early parts of one archive, the other one no longer, and whole where it is shorter
same_part : (rs qs ts : List Record) (last n : ℕ) → EarlyPart rs qs → EarlyPart ts qs → n ≡ length rs → last ≡ length ts → last ≤ n
    → ((last ≡ n → ⊥) → ts ≡ qs) → (last ≡ n) × (ts ≡ rs)
same_part rs qs ts last n p w en el h whole = by_test (eqb last n) refl
  where
    by_test : (b : Bool) → eqb last n ≡ b → (last ≡ n) × (ts ≡ rs)
    by_test true e =
        let is : last ≡ n = eqb-true _ _ e in
        (is, as_long ts rs w.more p.more (w.is ∙ sym p.is) (omega arith))
    by_test false e =
        let far : last ≡ n → ⊥ = eqb-false _ _ e in
        let all = ap length (whole far) in
        let sizes : length rs + length p.more ≡ length qs = rw length-append at (ap length p.is) in
        absurd (far (omega arith))

module _ (a b : List ℕ) (ha : Accepted a) (hb : Accepted b) (early : EarlyOrSame a b) where
  pub final_counts : FinalCounts a b (records_in a ha)
  unfolding tally_of archive_played
  final_counts =
      let ra = fresh_archive a ha.bytes ha.number in
      let rb = fresh_archive b hb.bytes hb.number in
      let n = (archive_played a 0 fresh).last in
      let p = early_part (records_in a ha) (records_in b hb) (to_records a b ha hb early) in
      let t = back_to n b in
      let c = table_means b n hb.bytes in
      let k = tame b n (suc (length b)) 0 0 fresh fresh in
      let zero_number : t.number ≡ 0 = k.accepted hb.number in
      let whole = begins_with c.records (records_in b hb) c.rest c.well_formed rb.well_formed (c.bytes ∙ sym rb.bytes) in
      let all : (t.last ≡ n → ⊥) → c.records ≡ records_in b hb =
      λ far.
      only_records b hb c.records c.well_formed
      (sym (append-nil (archive_of c.records)) ∙ rw (c.whole zero_number far) at c.bytes) in
      let same =
      same_part (records_in a ha) (records_in b hb) c.records t.last n p whole (omega (arith, ra.last_is)) c.as_many (k.not_behind (omega arith)) all in
      record {
        number = zero_number;
        last_is = same.0;
        values = λ x. c.values x ∙ ap (λ (l : List Record). left l zeros x) same.1 ∙ sym (ra.values x);
        writes = λ x h. c.counts x h ∙ ap (writers_of x) same.1;
      }
