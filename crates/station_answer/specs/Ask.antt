-- Whether a transaction is open.
use Rattle.std.specs.Prelude.{ℕ, List, Bool, not, eqb}
use Rattle.station_state.specs.Layout.{opened}

abbrev pub open_b : List ℕ → Bool
open_b s = not (eqb (opened s) 0)
