-- `station_delivery::on_invalidate` meets its contract.
use mathlib.Core.Path.{sym}
use Rattle.station_delivery.specs.Laws.{invalidate_ends, invalidate_marks}
use Rattle.station_delivery.proofs.on_invalidate.Goals as goal

pub returns-then-over : goal.returns-then-over
returns-then-over c = invalidate_ends _ _ _ c.ends-over.ensures c.mark.ensures _ _ _ c.if-over.true c.undo.ensures (rw (sym c.station-i.ensures) c.close-k.ensures) c.say.ensures

pub returns : goal.returns
returns c = invalidate_marks _ _ _ c.ends-over.ensures c.mark.ensures c.if-over.false c.say-2.ensures
