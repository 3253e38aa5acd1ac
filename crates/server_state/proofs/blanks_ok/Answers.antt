-- `server_state::blanks_ok` meets its contract.
use Rattle.server_state.specs.Eights.{all_blank, blanks_are}
use Rattle.server_state.proofs.blanks_ok.Goals as goal

pub returns : goal.returns
unfolding all_blank
returns c = simp (c.over-arrivals.ensures, c.over-requests.ensures, c.over-sets.ensures) (blanks_are _)
