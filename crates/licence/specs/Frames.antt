-- "the chargeable frames of an address are the sum over its writes of new value minus the value before": an archive is played, and
-- each record of the stretch that writes the address adds its change.
use Rattle.std.specs.Prelude.{ℕ, zero, suc, List, cond, length, drop, get_or, replicate, eqb, ltb, pos}
use Rattle.archive.specs.declared.Answer.{Answer}
use Rattle.archive.specs.declared.Answer.TheVariants as answer
use Rattle.replay.specs.Replay.{replay_of}
use Rattle.totals.specs.Writers.{writes}
use Rattle.signed.specs.declared.Change.{Change}
use Rattle.signed.specs.declared.Change.TheVariants.{By, Beyond}
use Rattle.signed.specs.Change.{plus, change_of}
use Rattle.licence.specs.declared.Frames.{Frames}
use Rattle.licence.specs.declared.Frames.TheVariants.{Sum, Refused}

-- the sum behind the record at the start of t, which leaves address a's value at `new` where it was `old`
unfoldable pub noted_of : Change → List ℕ → ℕ → ℕ → ℕ → ℕ → ℕ → ℕ → Change
noted_of sum t commit first last a new old =
    cond (ltb commit first) sum (cond (ltb last commit) sum (cond (writes t a) (plus sum (change_of new old)) sum))

-- "18, Beyond: a value at either end of a change above 2^63 − 1"
abbrev pub summed : Change → Frames
summed (By s) = Sum s
summed Beyond = Refused 18

-- "13 for a stretch not in it or backwards": the archive's commits are 1 to `commit`
unfoldable pub closed_of : Change → ℕ → ℕ → ℕ → Frames
closed_of sum commit first last =
    cond (eqb first 0) (Refused 13) (cond (ltb last first) (Refused 13) (cond (ltb commit last) (Refused 13) (summed sum)))

-- what an answer leads to: the next record, with this one's change, or the end. v are the values before the record, w those behind it,
-- t is the archive from the record's start on
abbrev pub frames_for : (ℕ → ℕ → List ℕ → Change → Frames) → List ℕ → ℕ → ℕ → ℕ → ℕ → List ℕ → List ℕ → Change → Answer → Frames
frames_for next t first last a commit v w sum (answer.Record f) =
    next f.end f.commit w (noted_of sum t f.commit first last a (get_or w a 0) (get_or v a 0))
frames_for next t first last a commit v w sum answer.End = closed_of sum commit first last
frames_for next t first last a commit v w sum (answer.Refused k) = Refused k

-- the archive from `at` on, behind commit `commit`, on these values. Each record takes a turn (`frames-enough` in Turns).
unfoldable pub frames_from : ℕ → List ℕ → ℕ → ℕ → ℕ → ℕ → ℕ → List ℕ → Change → Frames
frames_from zero s first last a at commit v sum = Refused 12
frames_from (suc turns) s first last a at commit v sum =
    frames_for (frames_from turns s first last a) (drop at s) first last a commit v (replay_of s at commit v).values sum (replay_of s at commit v).answer

unfoldable pub frames_on : List ℕ → ℕ → ℕ → ℕ → List ℕ → Frames
frames_on s first last a v = frames_from (suc (length s)) s first last a 0 0 v (By (pos 0))

-- from the first commit of the archive on, where every value is 0
unfoldable pub frames_of : List ℕ → ℕ → ℕ → ℕ → Frames
frames_of s first last a = frames_on s first last a (replicate 256 0)
