-- `server_changes::write` meets its contract.
use Rattle.server_changes.specs.Changes.{write_b}
use Rattle.server_changes.proofs.write.Goals as goal

pub returns : goal.returns
unfolding write_b
returns c = cc
