-- `server_state::write_ok` meets its contract.
use Rattle.server_state.specs.Valid.{write_ok}
use Rattle.server_state.proofs.write_ok.Goals as goal

pub returns : goal.returns
unfolding write_ok
returns c = cc
