-- `server_accept::on_written_set` meets its contract.
use mathlib.Core.Path.{sym}
use Rattle.server_accept.specs.Chains.{set_open, set_late}
use Rattle.server_accept.proofs.on_written_set.Goals as goal

pub returns-then-open_ask : goal.returns-then-open_ask
returns-then-open_ask c = set_open _ _ c.station-i.ensures c.named-p.ensures c.transaction-t.ensures c.open_ask.ensures c.if-open_ask.true (rw (sym c.set.ensures) c.heed.ensures)

pub returns : goal.returns
returns c = set_late _ _ c.station-i.ensures c.named-p.ensures c.transaction-t.ensures c.open_ask.ensures c.if-open_ask.false
