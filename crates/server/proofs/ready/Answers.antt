-- `server::ready` meets its contract.
use Rattle.server_actions.specs.Step.{ready}
use Rattle.server.proofs.ready.Goals as goal

pub returns : goal.returns
unfolding ready
returns c = cc
