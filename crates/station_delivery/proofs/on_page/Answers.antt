-- `station_delivery::on_page` meets its contract.
use mathlib.Core.Path.{sym}
use Rattle.station_delivery.specs.Laws.{page_late, page_taken}
use Rattle.station_delivery.proofs.on_page.Goals as goal

pub returns-then-ended : goal.returns-then-ended
returns-then-ended c = page_late _ _ _ c.transaction.ensures c.ended.ensures c.if-ended.true c.say.ensures

pub returns : goal.returns
returns c = page_taken _ _ _ c.transaction.ensures c.ended.ensures c.if-ended.false c.waiting_values-values.ensures c.arrived.ensures (rw (sym c.wait-w.ensures, sym c.address-a.ensures, sym c.waiting_set-x.ensures) c.answer_wait.ensures)
