-- The server's actions and the callback tokens of requester r at station j, under a server's step: t are the stations, u the up lines,
-- d the down lines before the step.
use Rattle.std.specs.Prelude.{List, ◌++◌}
use Prim.Native.Nat.{ℕ}
use Rattle.line.specs.Messages.{Up, Down}
use Rattle.line.specs.Station.{Station}
use Rattle.line.specs.Server.{Serving}
use Rattle.line.specs.Line.{sent_to}
use Rattle.truth.specs.Clauses.{CallbacksAt}

abbrev pub CallsIn : (ℕ → Station) → (ℕ → List Up) → (ℕ → List Down) → ℕ → ℕ → Serving → Type 0
CallsIn t u d r j x = CallbacksAt x.server t u (λ k. d k ++ sent_to k x.sent) r j
