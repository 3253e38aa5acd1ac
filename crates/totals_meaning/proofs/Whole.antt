-- A tally that no commit ends is the play of the whole archive.
use Prim.Native.Nat.{ℕ, zero, suc, ◌^◌, ◌≤◌, ◌<◌}
use Rattle.std.specs.Prelude.{◌≡◌, Bool, length, drop}
use Rattle.std.proofs.Math.Path.{refl}
use mathlib.Core.List.{List}
use Rattle.std.proofs.Common.{arith, ne_eqb}
use Rattle.lists.specs.Bytes.{Bytes}
use Rattle.archive.specs.declared.Fields.{Fields}
use Rattle.archive.specs.declared.Answer.{Answer}
use Rattle.archive.specs.declared.Answer.TheVariants.{Record, End, Refused}
use Rattle.archive.specs.Read.{read_of}
use Rattle.replay.specs.Replay.{replay_of}
use Rattle.replay.specs.Played.{onward, play_from, archive_played}
use Rattle.replay.specs.Fuel.{replay_read}
use Rattle.archive_meaning.proofs.Facts.{one_read}
use Rattle.archive_meaning.specs.Replay.{fresh}
use Rattle.totals.specs.Tally.{noted, tally_for, tally_from, tally_of}
use Rattle.totals_meaning.specs.Whole.{told}

-- a commit number has 32 bits
pub number_fits : (s : List ℕ) (at last : ℕ) (f : Fields) → Bytes s → read_of s at last ≡ Record f → f.commit < 2 ^ 32
number_fits s at last f b e = let one = one_read s at last f b e in rw (one.commit_is, ← one.number) one.well_formed.commit_fits

module _ (s : List ℕ) (until : ℕ) (b : Bytes s) (never : 2 ^ 32 ≤ until) where
  tally_plays : (turns : ℕ) (table : Bool) (at last : ℕ) (v c : List ℕ) → last < 2 ^ 32 → told (tally_from turns table s until at last v c) ≡ play_from turns s at last v
  unfolding tally_from play_from
  tally_plays zero table at last v c h = refl
  tally_plays (suc turns) table at last v c h =
      rw (ne_eqb last until (λ e. omega arith)) (on_answer_lem (λ p l w d hl. tally_plays turns table p l w d hl) (replay_of s at last v).answer refl)
    where
      w₁ : List ℕ
      w₁ = (replay_of s at last v).values

      on_answer_lem : ((p l : ℕ) (w d : List ℕ) → l < 2 ^ 32 → told (tally_from turns table s until p l w d) ≡ play_from turns s p l w)
          → (a : Answer) → (replay_of s at last v).answer ≡ a
          → told (tally_for (tally_from turns table s until) table (drop at s) at last w₁ c a) ≡ onward (play_from turns s) last w₁ a
      on_answer_lem rest (Record f) e = rest f.end f.commit w₁ (noted table (drop at s) c) (number_fits s at last f b (replay_read s at last v f e))
      on_answer_lem rest End e = refl
      on_answer_lem rest (Refused k) e = refl

  -- the whole archive from the first commit on: the play's values, last commit and number
  pub whole_played : (table : Bool) → told (tally_of table s 0 until fresh fresh) ≡ archive_played s 0 fresh
  unfolding tally_of archive_played
  whole_played table = tally_plays (suc (length s)) table 0 0 fresh fresh (omega arith)
