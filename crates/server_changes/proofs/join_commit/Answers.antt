-- `server_changes::join_commit` meets its contract.
use Rattle.server_changes.specs.Changes.{join_commit_b}
use Rattle.server_changes.proofs.join_commit.Goals as goal

pub returns : goal.returns
unfolding join_commit_b
returns c = cc
