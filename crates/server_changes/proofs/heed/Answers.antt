-- `server_changes::heed` meets its contract.
use Rattle.server_changes.specs.Changes.{heed_b}
use Rattle.server_changes.proofs.heed.Goals as goal

pub returns : goal.returns
unfolding heed_b
returns c = cc
