-- `server_accept::on_done` meets its contract.
use Rattle.server_accept.specs.Chains.{done_open, done_late}
use Rattle.server_accept.proofs.on_done.Goals as goal

pub returns-then-open : goal.returns-then-open
returns-then-open c = done_open _ _ c.station-i.ensures c.named-r.ensures c.transaction.ensures c.open_call-open.ensures c.pages.ensures c.if-open.true c.unlist.ensures c.answered.ensures

pub returns : goal.returns
returns c = done_late _ _ c.station-i.ensures c.named-r.ensures c.transaction.ensures c.open_call-open.ensures c.pages.ensures c.if-open.false c.unlist.ensures
