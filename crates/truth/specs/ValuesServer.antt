-- Values at every locking station while the server works: what it sends, and what an install does.
use Rattle.std.specs.Prelude.{◌≡◌, true, List, ◌++◌, ℕ, ◌<◌}
use Rattle.line.specs.Messages.{page_of, locking, Down, Sent}
use Rattle.line.specs.Station.{Station}
use Rattle.line.specs.Line.{sent_to}
use Rattle.truth.specs.Clauses.{Values}

-- the down lines are dn and what the step has sent so far
abbrev pub Served : (ℕ → ℕ) → (ℕ → Station) → (ℕ → List Down) → List Sent → Type 0
Served val t dn l =
    (j a : ℕ) → j < 8 → a < 256 → locking (t j).kind ≡ true
    → Values a (val a) ((t j).cached (page_of a)) ((t j).unav a) ((t j).copy a) ((t j).rd a) ((t j).wr a) (dn j ++ sent_to j l)
