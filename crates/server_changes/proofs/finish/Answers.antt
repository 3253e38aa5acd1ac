-- `server_changes::finish` meets its contract.
use Rattle.server_changes.specs.Changes.{finish_b}
use Rattle.server_changes.proofs.finish.Goals as goal

pub returns : goal.returns
unfolding finish_b
returns c = cc
