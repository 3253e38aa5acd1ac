-- The counters as they stand behind a commit (docs/PLAYBACK.md): records replayed and, where `table` says so, their writes counted.
use Rattle.std.specs.Prelude.{ℕ, zero, suc, ◌+◌, ◌-◌, ◌≤◌, ◌<◌, ◌≡◌, refl, List, Bool, true, false, cond, length, take, drop, eqb}
use Rattle.std.proofs.Common.{sym, ap, ◌∙◌, arith, eq-eqb, ne_eqb}
use Rattle.lists.specs.Stores.{to_the_end}
use Rattle.archive.specs.declared.Fields.{Fields}
use Rattle.archive.specs.declared.Answer.{Answer}
use Rattle.archive.specs.declared.Answer.TheVariants.{Record, End, Refused}
use Rattle.replay.specs.Replay.{replayed, replay_of}
use Rattle.replay.specs.Fuel.{replay_read, onwards, moves}
use Rattle.totals.specs.Totals.{counted}

-- the values and the counts afterwards, where the tally stopped, the last commit number there, and the number that stopped it
pub record Tallied : Type 0 where
  pub values : List ℕ
  pub counts : List ℕ
  pub at : ℕ
  pub last : ℕ
  pub number : ℕ

abbrev pub tallied : List ℕ → List ℕ → ℕ → ℕ → ℕ → Tallied
tallied v c at last k = record { values = v; counts = c; at = at; last = last; number = k }

unfoldable pub noted : Bool → List ℕ → List ℕ → List ℕ
noted table t c = cond table (counted t c) c

-- what an answer leads to: the next record, with this one's writes counted, or the end. t is the archive from the record's start on
abbrev pub tally_for : (ℕ → ℕ → List ℕ → List ℕ → Tallied) → Bool → List ℕ → ℕ → ℕ → List ℕ → List ℕ → Answer → Tallied
tally_for next table t at last v c (Record f) = next f.end f.commit v (noted table t c)
tally_for next table t at last v c End = tallied v c at last 0
tally_for next table t at last v c (Refused k) = tallied v c at last k

-- the archive from `at` on, record by record, up to the commit `until`. Each record takes a turn (`tally-enough`).
unfoldable pub tally_from : ℕ → Bool → List ℕ → ℕ → ℕ → ℕ → List ℕ → List ℕ → Tallied
tally_from zero table s until at last v c = tallied v c at last 12
tally_from (suc turns) table s until at last v c =
    cond (eqb last until) (tallied v c at last 0)
    (tally_for (tally_from turns table s until) table (drop at s) at last (replay_of s at last v).values c (replay_of s at last v).answer)

unfoldable pub tally_of : Bool → List ℕ → ℕ → ℕ → List ℕ → List ℕ → Tallied
tally_of table s last until v c = tally_from (suc (length s)) table s until 0 last v c

-- with turns to spare, how many there are makes no difference
pub tally_enough : (m n : ℕ) (table : Bool) (s : List ℕ) (until at last : ℕ) (v c : List ℕ) → at ≤ length s → length s < at + m → length s < at + n
    → tally_from m table s until at last v c ≡ tally_from n table s until at last v c
unfolding tally_from
tally_enough zero n table s until at last v c h hm hn = absurd (omega arith)
tally_enough (suc m) zero table s until at last v c h hm hn = absurd (omega arith)
tally_enough (suc m) (suc n) table s until at last v c h hm hn =
    ap (cond (eqb last until) (tallied v c at last 0)) (on_answer_lem (λ p l w d. tally_enough m n table s until p l w d) (replay_of s at last v).answer refl)
  where
    w₁ : List ℕ
    w₁ = (replay_of s at last v).values

    on_answer_lem : ((p l : ℕ) (w d : List ℕ) → p ≤ length s → length s < p + m → length s < p + n → tally_from m table s until p l w d ≡ tally_from n table s until p l w d)
        → (a : Answer) → (replay_of s at last v).answer ≡ a
        → tally_for (tally_from m table s until) table (drop at s) at last w₁ c a ≡ tally_for (tally_from n table s until) table (drop at s) at last w₁ c a
    on_answer_lem rest (Record f) e =
        let o = onwards s at last f (replay_read s at last v f e) in
        rest f.end f.commit w₁ (noted table (drop at s) c) o.within (omega arith) (omega arith)
    on_answer_lem rest End e = refl
    on_answer_lem rest (Refused k) e = refl

-- before the first turn
pub begins : (table : Bool) (s : List ℕ) (last until : ℕ) (v c : List ℕ) → tally_of table s last until v c ≡ tally_from (suc (length s) - 0) table s until 0 last v c
unfolding tally_of
begins table s last until v c = ap (λ (k : ℕ). tally_from k table s until 0 last v c) (omega arith)

-- one turn, with the turns that are left counted by the bytes that are left
module _ (table : Bool) (s : List ℕ) (until at last : ℕ) (v c : List ℕ) (inside : at ≤ length s) where
  one_turn : tally_from (suc (length s) - at) table s until at last v c ≡ tally_from (suc (length s - at)) table s until at last v c
  one_turn = let n : suc (length s) - at ≡ suc (length s - at) = omega arith in ap (λ (k : ℕ). tally_from k table s until at last v c) n

  pub reached : last ≡ until → tally_from (suc (length s) - at) table s until at last v c ≡ tallied v c at last 0
  unfolding tally_from
  reached e = one_turn ∙ rw (eq-eqb last until e)

  pub turn : (last ≡ until → ⊥) → (w : List ℕ) (a : Answer) → replayed w a ≡ replay_of s at last v
      → tally_from (suc (length s) - at) table s until at last v c ≡ tally_for (tally_from (length s - at) table s until) table (drop at s) at last w c a
  unfolding tally_from
  turn far w a e = one_turn ∙ rw (ne_eqb last until far, ← e)

  -- a record's turn leaves the tally from its end on
  pub turn_record : (last ≡ until → ⊥) → (w d : List ℕ) (f : Fields) → replayed w (Record f) ≡ replay_of s at last v
      → d ≡ noted table (take (length s - at) (drop at s)) c
      → tally_from (suc (length s) - at) table s until at last v c ≡ tally_from (suc (length s) - f.end) table s until f.end f.commit w d
  turn_record far w d f e ed =
      let o = moves s at last v w f e in
      turn far w (Record f) e
      ∙ tally_enough (length s - at) (suc (length s) - f.end) table s until f.end f.commit w (noted table (drop at s) c) o.within (omega arith) (omega arith)
      ∙ ap (tally_from (suc (length s) - f.end) table s until f.end f.commit w) (sym (rw to_the_end at ed))
