-- `station_delivery::on_committed` meets its contract.
use mathlib.Core.Path.{sym}
use Rattle.station_delivery.specs.Laws.{committed_sent}
use Rattle.station_delivery.proofs.on_committed.Goals as goal

pub returns : goal.returns
returns c = committed_sent _ _ _ _ _ _ c.get_u32-n.ensures c.versions.ensures (rw (sym c.station-i.ensures) c.close-k.ensures) c.say.ensures
