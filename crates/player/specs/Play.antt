-- A play of some bytes (docs/PLAYBACK.md): each record replayed, and noted in the table's counts or in the text, as the job says.
use Rattle.std.specs.Prelude.{ℕ, zero, suc, ◌+◌, List, Bool, cond, length, drop, get_or, eqb, ltb}
use Rattle.text.specs.Text.{Put, put, has_room_lem}
use Rattle.record.specs.Check.{claimed_length}
use Rattle.archive.specs.declared.Fields.{Fields}
use Rattle.archive.specs.declared.Answer.{Answer}
use Rattle.archive.specs.declared.Answer.TheVariants.{Record, End, Refused}
use Rattle.replay.specs.Replay.{replay_of}
use Rattle.report.specs.Text.{line_with, longest, line_at}
use Rattle.totals.specs.Totals.{counted}
use Rattle.history.specs.History.{writes_at, change_line}
use Rattle.full.specs.Full.{record_put}
use Rattle.words.specs.Words.{further}
use Rattle.player.specs.declared.Job.{Job}

-- the listings: a line a commit, the table of counters, the changes of a counter, a record in full
abbrev pub table : ℕ
table = 1

abbrev pub changes : ℕ
changes = 3

abbrev pub full : ℕ
full = 4

-- the counts and the text afterwards
pub record Noted : Type 0 where
  pub counts : List ℕ
  pub text : Put

abbrev pub noted : List ℕ → Put → Noted
noted c p = record { counts = c; text = p }

-- a commit that wrote the counter, which was `before` and is `after`
unfoldable pub change_put : Job → List ℕ → Fields → ℕ → ℕ → Put → Put
change_put job t f before after p =
    cond (writes_at t job.counter)
    (line_at p.out p.at (change_line job.sep f.commit f.station before after)) p

-- what an accepted record adds to the text: t is the archive from its start on, `base` the byte where the input starts
unfoldable pub text_put : Job → ℕ → List ℕ → Fields → ℕ → ℕ → Put → Put
text_put job base t f before after p =
    cond (ltb f.commit job.from) p
    (cond (eqb job.listing changes) (change_put job t f before after p)
    (cond (eqb job.listing full) (record_put job.sep t f (further base f.at) (claimed_length t) p)
    (line_at p.out p.at (line_with job.sep f))))

-- an accepted record: counted for the table, else put into the text
unfoldable pub note_of : Job → ℕ → List ℕ → Fields → ℕ → ℕ → List ℕ → Put → Noted
note_of job base t f before after c p =
    cond (eqb job.listing table) (noted (counted t c) p) (noted c (text_put job base t f before after p))

-- what a play leaves: values, counts and text, where it stopped, the last commit number there, and why
pub record Ran : Type 0 where
  pub values : List ℕ
  pub counts : List ℕ
  pub text : Put
  pub at : ℕ
  pub last : ℕ
  pub number : ℕ

abbrev pub ran : List ℕ → List ℕ → Put → ℕ → ℕ → ℕ → Ran
ran v c p at last k = record { values = v; counts = c; text = p; at = at; last = last; number = k }

-- the number of no refusal: the output has no room for another line
abbrev pub no_room : ℕ
no_room = 255

-- what an answer leads to; w are the values afterwards. Behind a line there must be room for another
abbrev pub run_for : (ℕ → ℕ → List ℕ → List ℕ → Put → Ran) → Job → ℕ → List ℕ → ℕ → ℕ → List ℕ → List ℕ → List ℕ → Put → Answer → Ran
run_for next job base t at last v w c p (Record f) =
    let n = note_of job base t f (get_or v job.counter 0) (get_or w job.counter 0) c p in
    cond (has_room_lem longest (length n.text.out) n.text.at) (next f.end f.commit w n.counts n.text)
    (ran w n.counts n.text f.end f.commit no_room)
run_for next job base t at last v w c p End = ran w c p at last 0
run_for next job base t at last v w c p (Refused k) = ran w c p at last k

-- the bytes from `at` on, record by record, up to the job's last commit and as long as there is room behind a line. Each record takes a turn
-- (`run-enough` in Steps).
unfoldable pub run_from : ℕ → Job → ℕ → List ℕ → ℕ → ℕ → List ℕ → List ℕ → Put → Ran
run_from zero job base s at last v c p = ran v c p at last 12
run_from (suc turns) job base s at last v c p =
    cond (eqb last job.until) (ran v c p at last 0)
    (run_for (run_from turns job base s) job base (drop at s) at last v (replay_of s at last v).values c p (replay_of s at last v).answer)

unfoldable pub run_of : Job → ℕ → List ℕ → ℕ → List ℕ → List ℕ → Put → Ran
run_of job base s last v c p = run_from (suc (length s)) job base s 0 last v c p
