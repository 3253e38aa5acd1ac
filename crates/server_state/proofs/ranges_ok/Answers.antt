-- `server_state::ranges_ok` meets its contract.
use mathlib.Core.Path.{sym}
use Rattle.server_state.specs.Valid.{ranges_ok}
use Rattle.server_state.proofs.ranges_ok.Goals as goal

pub returns : goal.returns
unfolding ranges_ok
returns c = simp (sym c.most.ensures, sym c.most-2.ensures, sym c.most-3.ensures, sym c.most-4.ensures, sym c.most-5.ensures)
