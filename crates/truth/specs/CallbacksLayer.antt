-- The layer of callbacks: every move from a world with the whole invariant leads to a world with G1a, G1b, G1c, G5 and G4.
-- Beyond the invariant one fact is used, where a waiter joins: arrivals given are below the counter (line's Apart).
use Rattle.std.specs.Prelude.{List, ℕ, ◌<◌}
use Rattle.line.specs.Messages.{Up, Down}
use Rattle.line.specs.Station.{Station, Did}
use Rattle.line.specs.Server.{Serving}
use Rattle.line.specs.Line.{World}
use Rattle.truth.specs.CallbacksServer.{CallsIn}
use Rattle.truth.specs.CallbacksStation.{CallsDid}
use Rattle.truth.specs.CallbacksWaiters.{G4In}

-- what station i does, with its down line now l
abbrev pub Leaves : World → ℕ → List Down → Did → Type 0
Leaves w i l d =
    (r : ℕ) → r < 8 → CallsDid r (w.server.latest r) (w.server.fin r) (w.server.queue r) ((w.server.queue r).pend i) (w.up i) l d

-- both halves, of a step under way from a world's lines
pub record Under (t : ℕ → Station) (u : ℕ → List Up) (d : ℕ → List Down) (x : Serving) : Type 0 where
  pub callbacks : (r j : ℕ) → r < 8 → j < 8 → CallsIn t u d r j x
  pub waiters : G4In x
