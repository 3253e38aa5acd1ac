-- Values at one locking station and one address (clauses A, B, B2, E; A2 for both kinds): what each event does to them.
use Rattle.std.specs.Prelude.{◌≡◌, Bool, true, false, not, ◌&&◌, List, ℕ}
use Rattle.sets.specs.Base.{Val, has}
use Rattle.line.specs.Messages.{Down}
use Rattle.line.specs.Truth.{count}
use Rattle.truth.specs.Clauses.{shows}

pub record Less (cached unav : Bool) (copy : ℕ) (cached' unav' : Bool) (copy' : ℕ) : Type 0 where
  pub kept : cached' ≡ true → (cached ≡ true) × (copy' ≡ copy)
  pub seen : (cached' && not unav') ≡ true → (cached && not unav) ≡ true

-- nothing of the address is at the station: the server's value may become any
pub record Gone (a : ℕ) (cached unav : Bool) (rd : Val) (D : List Down) : Type 0 where
  pub copy : (cached && not unav) ≡ false
  pub under_way : count (shows a) D ≡ 0
  pub unread : has rd ≡ false
