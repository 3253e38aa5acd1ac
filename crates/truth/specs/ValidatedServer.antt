-- Versions and validating stations while the server's step is under way: what each part of its actions does.
use Rattle.std.specs.Prelude.{List, ◌++◌, ℕ, ◌<◌}
use Rattle.line.specs.Messages.{Up, Down, Rec}
use Rattle.line.specs.Station.{Station}
use Rattle.line.specs.Server.{Serving}
use Rattle.line.specs.Line.{sent_to}
use Rattle.truth.specs.Clauses.{Versions, ValidatedAt}

-- the layer while a step is under way: A is the archive, d the down lines before the step
pub record Within (A : List Rec) (t : ℕ → Station) (u : ℕ → List Up) (d : ℕ → List Down) (x : Serving) : Type 0 where
  pub versions : Versions (A ++ x.recs) x.server.last x.server.ver
  pub validated : (j : ℕ) → j < 8 → ValidatedAt (A ++ x.recs) x.server t u (λ k. d k ++ sent_to k x.sent) j
