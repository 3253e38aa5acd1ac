-- One record as the counts reader shows it: played as playback plays it, and its counts put out.
use Rattle.std.specs.Prelude.{ℕ, List, cond, length, ltb}
use Rattle.archive.specs.declared.Answer.{Answer}
use Rattle.archive.specs.declared.Answer.TheVariants.{Record, End, Refused}
use Rattle.replay.specs.Replay.{replay_of}
use Rattle.counts.specs.Counts.{longest_counts, counts_on}

-- the values, the last commit number, the output and the number afterwards
pub record Shown : Type 0 where
  pub values : List ℕ
  pub last : ℕ
  pub out : List ℕ
  pub number : ℕ

abbrev pub shown : List ℕ → ℕ → List ℕ → ℕ → Shown
shown v l o k = record { values = v; last = l; out = o; number = k }

-- t are the bytes, w the values behind the record; no bytes are an archive that ends inside it
abbrev pub on_shown : List ℕ → ℕ → List ℕ → List ℕ → Answer → Shown
on_shown t last w o (Record f) = shown w f.commit (counts_on t o) 0
on_shown t last w o End = shown w last o 12
on_shown t last w o (Refused k) = shown w last o k

-- number 1 where the longest counts do not fit
unfoldable pub record_counts : List ℕ → ℕ → List ℕ → List ℕ → Shown
record_counts t last v o = cond (ltb (length o) longest_counts) (shown v last o 1) (on_shown t last (replay_of t 0 last v).values o (replay_of t 0 last v).answer)
