-- `station_delivery::on_aborted` meets its contract.
use mathlib.Core.Path.{sym, ◌∙◌}
use Rattle.station_delivery.specs.Laws.{aborted_sent}
use Rattle.station_delivery.proofs.on_aborted.Goals as goal

pub returns : goal.returns
returns c = aborted_sent _ _ _ _ _ _ (c.from.ensures ∙ c.object.ensures) c.undo.ensures (rw (sym c.station-i.ensures) c.close-k.ensures) c.say.ensures
