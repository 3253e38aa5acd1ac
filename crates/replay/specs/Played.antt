-- Playback: 256 values and the last commit number, "changed by each accepted record".
use Rattle.std.specs.Prelude.{ℕ, zero, suc, List, length}
use Rattle.archive.specs.declared.Answer.{Answer}
use Rattle.archive.specs.declared.Answer.TheVariants.{Record, End, Refused}
use Rattle.replay.specs.Replay.{replay_of}

-- the values, the last commit number and the number afterwards
pub record Played : Type 0 where
  pub values : List ℕ
  pub last : ℕ
  pub number : ℕ

abbrev pub played : List ℕ → ℕ → ℕ → Played
played v l k = record { values = v; last = l; number = k }

-- a record given by itself: no bytes are an archive that ends inside it
abbrev pub on_record : ℕ → List ℕ → Answer → Played
on_record last v (Record f) = played v f.commit 0
on_record last v End = played v last 12
on_record last v (Refused k) = played v last k

-- the first record of some bytes, played on these values behind this commit number
unfoldable pub record_played : List ℕ → ℕ → List ℕ → Played
record_played s last v = on_record last (replay_of s 0 last v).values (replay_of s 0 last v).answer

-- what an answer leads to: the next record from its end on, or the end of the play
abbrev pub onward : (ℕ → ℕ → List ℕ → Played) → ℕ → List ℕ → Answer → Played
onward next last v (Record f) = next f.end f.commit v
onward next last v End = played v last 0
onward next last v (Refused k) = played v last k

-- the archive from `at` on, record by record, to its end (number 0) or the first record refused. Each record takes a turn
-- and at least a header's bytes, so one turn more than there are bytes suffices (`enough` in Fuel).
unfoldable pub play_from : ℕ → List ℕ → ℕ → ℕ → List ℕ → Played
play_from zero s at last v = played v last 12
play_from (suc turns) s at last v = onward (play_from turns s) last (replay_of s at last v).values (replay_of s at last v).answer

-- an archive played on these values behind this commit number
unfoldable pub archive_played : List ℕ → ℕ → List ℕ → Played
archive_played s last v = play_from (suc (length s)) s 0 last v
