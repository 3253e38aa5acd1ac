-- `server_accept::on_busy` meets its contract.
use Rattle.server_accept.specs.Chains.{busy_open, busy_late}
use Rattle.server_accept.proofs.on_busy.Goals as goal

pub returns-then-open_call : goal.returns-then-open_call
returns-then-open_call c = busy_open _ _ c.station-i.ensures c.named-r.ensures c.transaction.ensures c.open_call.ensures c.if-open_call.true c.mark_busy.ensures

pub returns : goal.returns
returns c = busy_late _ _ c.station-i.ensures c.named-r.ensures c.transaction.ensures c.open_call.ensures c.if-open_call.false
