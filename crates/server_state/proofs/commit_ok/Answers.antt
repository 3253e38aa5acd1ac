-- `server_state::commit_ok` meets its contract.
use Rattle.server_state.specs.Valid.{commit_ok}
use Rattle.server_state.proofs.commit_ok.Goals as goal

pub returns : goal.returns
unfolding commit_ok
returns c = cc
