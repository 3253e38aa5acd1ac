-- `server_state::arrivals_at` meets its contract.
use Rattle.server_state.specs.Eights.{arrivals_at}
use Rattle.server_state.proofs.arrivals_at.Goals as goal

pub returns : goal.returns
unfolding arrivals_at
returns c = cc
