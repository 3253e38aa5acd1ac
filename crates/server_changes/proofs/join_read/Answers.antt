-- `server_changes::join_read` meets its contract.
use Rattle.server_changes.specs.Changes.{join_read_b}
use Rattle.server_changes.proofs.join_read.Goals as goal

pub returns : goal.returns
unfolding join_read_b
returns c = cc
