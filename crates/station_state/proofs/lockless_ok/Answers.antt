-- `station_state::lockless_ok` meets its contract.
use mathlib.Core.Path.{sym}
use Rattle.station_state.specs.Valid.{lockless_ok}
use Rattle.station_state.proofs.lockless_ok.Goals as goal

pub returns : goal.returns
unfolding lockless_ok
returns c = simp (sym c.passing_whole.ensures, sym c.none_in.ensures, sym c.none_in-2.ensures)
