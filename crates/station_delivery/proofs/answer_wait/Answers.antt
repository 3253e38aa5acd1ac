-- `station_delivery::answer_wait` meets its contract.
use Rattle.station_delivery.specs.Laws.{answer_read, answer_written, answer_none}
use Rattle.station_delivery.proofs.answer_wait.Goals as goal

pub returns-then-w : goal.returns-then-w
returns-then-w c = answer_read _ _ _ _ _ _ c.if-w.true c.copy-v.ensures c.record_read.ensures c.say.ensures

pub returns-then-w-2 : goal.returns-then-w-2
returns-then-w-2 c = answer_written _ _ _ _ _ _ c.if-w.false c.if-w-2.true c.write_all.ensures c.say-then-w-2.ensures

pub returns : goal.returns
returns c = answer_none _ _ _ _ _ _ c.if-w.false c.if-w-2.false c.say-2.ensures
