-- `server_changes::join_write` meets its contract.
use Rattle.server_changes.specs.Changes.{join_write_b}
use Rattle.server_changes.proofs.join_write.Goals as goal

pub returns : goal.returns
unfolding join_write_b
returns c = cc
