-- `station_state::requested` meets its contract.
use Rattle.station_state.specs.Layout.{requested_b}
use Rattle.station_state.proofs.requested.Goals as goal

pub returns : goal.returns
unfolding requested_b
returns c = cc
