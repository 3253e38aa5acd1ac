-- The record of a commit: the archive is replayed record by record up to it.
use Rattle.std.specs.Prelude.{ℕ, zero, suc, List, cond, replicate, eqb}
use Rattle.archive.specs.declared.Answer.{Answer}
use Rattle.archive.specs.declared.Answer.TheVariants.{Record, End, Refused}
use Rattle.replay.specs.Replay.{replay_of}

-- what an answer leads to, with k records to go behind this one: the record itself, or the next; the end and a refusal stay
abbrev pub on_sought : (ℕ → ℕ → List ℕ → Answer) → ℕ → List ℕ → Answer → Answer
on_sought next k w (Record f) = cond (eqb k 0) (Record f) (next f.end f.commit w)
on_sought next k w End = End
on_sought next k w (Refused n) = Refused n

-- the k-th record from `at` on, behind commit `last`, on these values. No record is the 0-th.
unfoldable pub sought_from : ℕ → List ℕ → ℕ → ℕ → List ℕ → Answer
sought_from zero s at last v = End
sought_from (suc k) s at last v = on_sought (sought_from k s) k (replay_of s at last v).values (replay_of s at last v).answer

-- "commits are numbered 1 to 4,294,967,295", and number 13 has each one more than the last: a commit's number is its place
unfoldable pub sought_of : List ℕ → ℕ → Answer
sought_of s commit = sought_from commit s 0 0 (replicate 256 0)
