-- `server_state::all_apart` meets its contract.
use Rattle.server_state.specs.Eights.{apart_both}
use Rattle.server_state.proofs.all_apart.Goals as goal

pub returns : goal.returns
returns c = simp (c.all_ages.ensures, c.all_arrivals.ensures) (apart_both _)
