-- `station_delivery::on_callback` meets its contract.
use mathlib.Core.Path.{sym}
use Rattle.station_delivery.specs.Laws.{callback_busy, callback_done}
use Rattle.station_delivery.proofs.on_callback.Goals as goal

pub returns-then-in_use : goal.returns-then-in_use
returns-then-in_use c = callback_busy _ _ _ c.transaction-t.ensures c.in_use.ensures c.if-in_use.true (rw (sym c.station.ensures, sym c.page.ensures) c.put_up.ensures) (rw (sym c.page-then-in_use.ensures) c.keep.ensures) c.say.ensures

pub returns : goal.returns
returns c = callback_done _ _ _ _ _ _ c.transaction-t.ensures c.in_use.ensures c.if-in_use.false (rw (sym c.station-i.ensures, sym c.page-2.ensures) c.do_callback-n.ensures) c.say-2.ensures
