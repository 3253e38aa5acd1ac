-- The goals' layer under the owner's moves.
use Rattle.std.specs.Prelude.{◌≡◌, false}
use Prim.Native.Nat.{ℕ}
use Rattle.line.specs.Messages.{Answer}
use Rattle.line.specs.Station.{Did, Idle}

-- what ends a transaction
pub record Ended (num : ℕ) (n : Answer) (d : Did) : Type 0 where
  pub number : d.station.num ≡ num
  pub shut : d.station.opened ≡ false
  pub idle : d.station.wait ≡ Idle
  pub says : d.answer ≡ n
