-- Values of one station, all addresses: what its owner's operations and its deliveries do to them.
use Rattle.std.specs.Prelude.{◌≡◌, true, List, ℕ, ◌<◌}
use Rattle.sets.specs.Base.{none}
use Rattle.line.specs.All.{All}
use Rattle.line.specs.Messages.{page_of, locking, Down}
use Rattle.line.specs.Station.{Station, ForRead}
use Rattle.truth.specs.Clauses.{FitDown, A2, Values}

-- val are the server's values, D is the station's down line
pub record Own (val : ℕ → ℕ) (s : Station) (D : List Down) : Type 0 where
  pub written : (a : ℕ) → a < 256 → A2 (s.cached (page_of a)) (s.copy a) (s.wr a)
  pub values : (a : ℕ) → a < 256 → locking s.kind ≡ true → Values a (val a) (s.cached (page_of a)) (s.unav a) (s.copy a) (s.rd a) (s.wr a) D

-- what else is known of the station
pub record Known (s : Station) (D : List Down) : Type 0 where
  pub fit : All (FitDown s.kind s.num s.opened s.wait) D  -- S1b
  pub unwritten : (a : ℕ) → s.wait ≡ ForRead a → s.wr a ≡ none  -- S5
