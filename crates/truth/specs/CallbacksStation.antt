-- The moves of station j and its owner, and the callback tokens of requester r there: a callback that is kept or done moves its token,
-- every other move leaves it.
use Rattle.std.specs.Prelude.{Bool, List, ◌++◌}
use Prim.Native.Nat.{ℕ}
use Rattle.line.specs.Messages.{Up, Down}
use Rattle.line.specs.Station.{Did}
use Rattle.line.specs.Server.{Waiter}
use Rattle.truth.specs.Clauses.{Callbacks}

-- the station did d, from up line U
abbrev pub CallsDid : ℕ → ℕ → Bool → Waiter → Bool → List Up → List Down → Did → Type 0
CallsDid r L F q p U D d = Callbacks r L F q p (d.station.kept r) (U ++ d.sent) D
