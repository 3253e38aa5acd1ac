-- The layer of the validating stations: V0 to V5 hold in a fresh line and after every move from a world with the whole invariant.
use Rattle.std.specs.Prelude.{◌≡◌, ◌++◌, length}
use Prim.Native.Nat.{ℕ}
use Rattle.line.specs.Server.{Serving}
use Rattle.line.specs.Line.{World, sent_to}
use Rattle.truth.specs.Clauses.{TokensAt}
use Rattle.truth.specs.ValidatedServer.{Within}

-- what the whole invariant gives of it
pub record Before (w : World) (x : Serving) : Type 0 where
  pub within : Within w.archive w.station w.up w.down x
  pub len : length (w.archive ++ x.recs) ≡ x.server.last
  pub tokens : (j : ℕ) → TokensAt x.server w.station w.up (λ k. w.down k ++ sent_to k x.sent) j
