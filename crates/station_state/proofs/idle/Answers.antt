-- `station_state::idle` meets its contract.
use Rattle.station_state.specs.Changes.{idle_b}
use Rattle.station_state.proofs.idle.Goals as goal

pub returns : goal.returns
unfolding idle_b
returns c = cc
