-- `server_order::on_cycle` meets its contract.
use Rattle.server_order.specs.Words.{own_bit}
use Rattle.server_order.proofs.on_cycle.Goals as goal

pub returns : goal.returns
returns c = own_bit _ _
