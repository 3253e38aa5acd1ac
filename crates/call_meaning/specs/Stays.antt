-- A station, from every state that number 1 takes: whatever its owner calls or whatever message it is lent, the state left is taken again
-- (`owner-stays`, `step_stays`). What it sends is taken by the server up to number 5, and is of a kind that a station of its kind sends
-- (`told-taken`).
use Rattle.std.specs.Prelude.{ℕ, ◌≡◌, true, List, get_or}
use Rattle.line.specs.Fit
use Rattle.message.specs.Layout.{station_of}
use Rattle.message.specs.Number.{up_number}
use Rattle.message_meaning.specs.Meant.{up_of}
use Rattle.station_state.specs.Valid.{valid}
use Rattle.station_answer.specs.Did.{Outcome}
use Rattle.call_meaning.specs.Buffers.{sent_by}

abbrev pub Stays : Outcome → Type 0
Stays b = valid b.state ≡ true

-- numbers 2 to 5 let it pass, it names its station, and a station of this kind may send it
pub record UpTaken (kinds : List ℕ) (i : ℕ) (m : List ℕ) : Type 0 where
  pub accepted : up_number kinds m ≡ 0
  pub station_is : station_of m ≡ i
  pub kind_fits : Fit.sent_by (get_or kinds i 0) (up_of m) ≡ true
