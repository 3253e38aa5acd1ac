-- `station_state::works_ok` meets its contract.
use mathlib.Core.Path.{sym}
use borrow.Author.Tests.{ne_eqb}
use Rattle.station_state.specs.Valid.{works_ok}
use Rattle.station_state.proofs.works_ok.Goals as goal

pub returns : goal.returns
unfolding works_ok
returns c = simp (ne_eqb _ _ c.requires.1, sym c.out_ok.ensures, sym c.limited_ok.ensures)
