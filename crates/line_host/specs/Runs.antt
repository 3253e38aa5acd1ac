-- Every list of calls of the exported functions is a list of calls of `line`: for whatever is to be said of the line as hosts run it.
use Rattle.std.specs.Prelude.{ℕ, ◌≡◌, true, List, get_or}
use Rattle.line.specs.Line.{Call, fresh, run}
use Rattle.server_state.specs.Valid.{kinds_ok}
use Rattle.line_bytes.specs.Bytes.{fresh_b}
use Rattle.line_bytes.specs.Simulates.{Sim}
use Rattle.line_bytes.specs.Runs.{calls_of, run_simulates}
use Rattle.line_host.specs.Line.{CallH, AllFitH, fresh_h, run_h}
use Rattle.line_host.specs.Same.{plains_of, plains_fit, run_same}

-- the calls of `line` that these are
abbrev pub model_calls : List ℕ → List CallH → List Call
model_calls kinds cs = calls_of (plains_of cs) (fresh_b kinds)

pub hosts_simulate : (kinds : List ℕ) → kinds_ok kinds ≡ true → (cs : List CallH) → AllFitH cs
    → Sim kinds (run_h cs (fresh_h kinds)).line (run (model_calls kinds cs) (fresh (λ i. get_or kinds i 0)))
hosts_simulate kinds ok cs f = rw (run_same cs (fresh_h kinds)) (run_simulates kinds ok (plains_of cs) (plains_fit cs f))
