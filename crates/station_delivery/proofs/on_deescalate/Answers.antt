-- `station_delivery::on_deescalate` meets its contract.
use mathlib.Core.Path.{sym}
use Rattle.station_delivery.specs.Laws.{deescalate_sent}
use Rattle.station_delivery.proofs.on_deescalate.Goals as goal

pub returns : goal.returns
returns c = deescalate_sent _ _ _ c.written_on-x.ensures c.answers_for.ensures (rw (sym c.station.ensures, sym c.page.ensures) c.put_up.ensures) c.loosened.ensures c.say.ensures
