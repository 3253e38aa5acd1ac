-- The turns of `printed` suffice: one more than the bytes that are left is enough, as for `playFrom` of crate replay.
use Rattle.std.specs.Prelude.{ℕ, zero, suc, ◌+◌, ◌≤◌, ◌<◌, ◌≡◌, refl, List, ◌++◌, length}
use Rattle.std.proofs.Common.{ap, arith}
use Rattle.archive.specs.declared.Answer.{Answer}
use Rattle.archive.specs.declared.Answer.TheVariants.{Record, End, Refused}
use Rattle.replay.specs.Replay.{replay_of}
use Rattle.replay.specs.Fuel.{replay_read, onwards}
use Rattle.report.specs.Text.{line_of, lines_for, lines_from}

-- with turns to spare, how many there are makes no difference
pub lines_enough : (m n : ℕ) (s : List ℕ) (at last : ℕ) (v : List ℕ) → at ≤ length s → length s < at + m → length s < at + n
    → lines_from m s at last v ≡ lines_from n s at last v
unfolding lines_from
lines_enough zero n s at last v h hm hn = absurd (omega arith)
lines_enough (suc m) zero s at last v h hm hn = absurd (omega arith)
lines_enough (suc m) (suc n) s at last v h hm hn =
    on_answer_lem (λ p l w a b c. lines_enough m n s p l w a b c) (replay_of s at last v).answer refl
  where
    on_answer_lem : ((p l : ℕ) (w : List ℕ) → p ≤ length s → length s < p + m → length s < p + n → lines_from m s p l w ≡ lines_from n s p l w)
        → (a : Answer) → (replay_of s at last v).answer ≡ a
        → lines_for (lines_from m s) last (replay_of s at last v).values a ≡ lines_for (lines_from n s) last (replay_of s at last v).values a
    on_answer_lem rest (Record f) e =
        let o = onwards s at last f (replay_read s at last v f e) in
        ap (λ (t : List ℕ). line_of f ++ t) (rest f.end f.commit (replay_of s at last v).values o.within (omega arith) (omega arith))
    on_answer_lem rest End e = refl
    on_answer_lem rest (Refused k) e = refl
