-- `station_owner::at_rest` meets its contract.
use Rattle.station_owner.specs.Facts.{rests_ready}
use Rattle.station_owner.proofs.at_rest.Goals as goal

pub returns : goal.returns
returns c = rests_ready _ _ _ c.rests.ensures
