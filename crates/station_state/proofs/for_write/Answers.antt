-- `station_state::for_write` meets its contract.
use Rattle.station_state.specs.Changes.{for_write_b}
use Rattle.station_state.proofs.for_write.Goals as goal

pub returns : goal.returns
unfolding for_write_b
returns c = cc
