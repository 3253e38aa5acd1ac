-- `server_state::page_ok` meets its contract.
use mathlib.Core.Path.{sym}
use Rattle.server_state.specs.Valid.{page_ok}
use Rattle.server_state.proofs.page_ok.Goals as goal

pub returns : goal.returns
unfolding page_ok
returns c = simp (sym c.whole_ok.ensures, sym c.holders_ok.ensures)
