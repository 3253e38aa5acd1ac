-- `station_state::for_commit` meets its contract.
use Rattle.station_state.specs.Changes.{for_commit_b}
use Rattle.station_state.proofs.for_commit.Goals as goal

pub returns : goal.returns
unfolding for_commit_b
returns c = cc
