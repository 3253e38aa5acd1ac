-- `server_state::stations_ok` meets its contract.
use Rattle.server_state.specs.Eights.{stations_all}
use Rattle.server_state.proofs.stations_ok.Goals as goal

pub returns : goal.returns
returns c = simp (c.ages_ok.ensures, c.entries_ok.ensures, c.all_calls_ok.ensures) (stations_all _)
