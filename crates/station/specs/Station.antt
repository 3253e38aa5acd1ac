-- The station's step over the bytes of a state and a message: numbers 1, 2, 3, 4 and 6, then what the message does.
use Rattle.std.specs.Prelude.{ℕ, List, not, cond, eqb}
use Rattle.sets.specs.Base.{turned}
use Rattle.message.specs.Layout.{station_of}
use Rattle.message.specs.Number.{down_number}
use Rattle.station_state.specs.Layout.{station}
use Rattle.station_answer.specs.Did.{Did}
use Rattle.station_delivery.specs.Delivery.{fits_b, on_down_b}
use Rattle.station_owner.specs.Owner.{unless_b}

-- numbers 2, 3, 4 of the message, then 6: another station's, or one that does not fit
unfoldable pub check_step_b : List ℕ → List ℕ → ℕ
check_step_b m s =
    cond (eqb (down_number (station s) m) 0) (turned (not (eqb (station_of m) (station s))) 6 (turned (not (fits_b m s)) 6 0))
    (down_number (station s) m)

unfoldable pub station_step_b : List ℕ → List ℕ → Did
station_step_b m s = unless_b (check_step_b m s) (on_down_b m s) s
