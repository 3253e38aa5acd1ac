-- `station_state::for_read` meets its contract.
use Rattle.station_state.specs.Changes.{for_read_b}
use Rattle.station_state.proofs.for_read.Goals as goal

pub returns : goal.returns
unfolding for_read_b
returns c = cc
