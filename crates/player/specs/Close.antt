-- What stands in front of the records' lines and behind them, what the joining of two reads leaves of the input, and what a job is.
use Rattle.std.specs.Prelude.{ℕ, zero, suc, ◌-◌, List, ◌++◌, Bool, ◌&&◌, ◌||◌, cond, take, drop, get_or, eqb, ltb, leb, ◌≡◌}
use Rattle.std.proofs.Common.{ap, ◌∙◌}
use Rattle.text.specs.Text.{columns, Put, put}
use Rattle.report.specs.Text as report
use Rattle.totals.specs.Table as totals
use Rattle.history.specs.History as history
use Rattle.player.specs.declared.Job.{Job}
use Rattle.player.specs.Play.{table, changes, full}

-- no commit has this number
abbrev pub never : ℕ
never = 4294967296

-- the byte between columns: a space, or a comma
unfoldable pub separator : ℕ → ℕ
separator csv = cond (eqb csv 0) 32 44

-- a counter's number; what is none is 0
unfoldable pub counter_of : ℕ → ℕ
counter_of n = cond (leb n 255) n 0

-- the job that the arguments ask for: `--at N` is the table as it stands behind commit N, `--record N` the commits from N to N
unfoldable pub job_of : ℕ → ℕ → ℕ → ℕ → ℕ → Job
job_of listing number from until csv =
    cond (eqb listing 2) (record { listing = table; counter = 0; from = 0; until = number; sep = separator csv })
    (cond (eqb listing full) (record { listing = full; counter = 0; from = number; until = number; sep = separator csv })
    (record { listing = listing; counter = counter_of number; from = from; until = until; sep = separator csv }))

unfoldable pub narrowed : ℕ → ℕ
narrowed n = cond (leb n 4294967295) n 0

-- the heading; that of the table comes with it, and a record has its own
unfoldable pub heading_put : Job → Put → Put
heading_put job p =
    cond (eqb job.listing 0) (report.line_at p.out p.at (columns job.sep report.heading))
    (cond (eqb job.listing changes) (report.line_at p.out p.at (columns job.sep history.heading)) p)

-- a line for each of the first a counters
unfoldable pub counters_to : ℕ → List ℕ → List ℕ → Put → ℕ → Put
counters_to sep v c p zero = p
counters_to sep v c p (suc a) =
    let q = counters_to sep v c p a in
    report.line_at q.out q.at (totals.counter_line sep a (get_or v a 0) (get_or c a 0))

-- the table: its heading and a line for each counter
unfoldable pub table_put : ℕ → List ℕ → List ℕ → Put → Put
table_put sep v c p = counters_to sep v c (report.line_at p.out p.at (columns sep totals.heading)) 256

-- the heading's line, then the counters' lines one behind the other
pub table_done : (sep : ℕ) (v c o : List ℕ) (at : ℕ) {p q : Put} {a : ℕ} → q ≡ report.line_at o at (columns sep totals.heading) → p ≡ counters_to sep v c q a → a ≡ 256
    → p ≡ table_put sep v c (put o at)
unfolding table_put
table_done sep v c o at {p} {q} {a} eq ep ea = ep ∙ ap (counters_to sep v c q) ea ∙ ap (λ (x : Put). counters_to sep v c x 256) eq

-- it is printed where the job's commit was reached or, where the job has none, at the end
unfoldable pub table_due : Job → Bool → Bool
table_due job reached = eqb job.listing table && (reached || eqb job.until never)

-- a play that stopped so goes on behind another read
unfoldable pub wants_more : ℕ → Bool
wants_more number = eqb number 0 || eqb number 12

-- an archive that ends before the job's last commit does not have what was asked for
unfoldable pub is_missing : Job → Bool
is_missing job = ltb job.until never && (eqb job.listing table || eqb job.listing full)

-- the closing line
unfoldable pub closing_line : Bool → ℕ → ℕ → List ℕ
closing_line reached number last =
    cond reached (totals.at_line last) (cond (eqb number 0) (report.end_line last) (report.refused_line number last))

-- what is not played, from `at` up to `len`, in front of what was there
unfoldable pub moved_down : List ℕ → ℕ → ℕ → List ℕ
moved_down s at len = drop at (take len s) ++ drop (len - at) s
