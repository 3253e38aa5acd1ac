-- `station_state::holds_ok` meets its contract.
use mathlib.Core.Path.{sym}
use borrow.Author.Tests.{ne_eqb}
use Rattle.station_state.specs.Valid.{holds_ok}
use Rattle.station_state.proofs.holds_ok.Goals as goal

pub returns-then-locking : goal.returns-then-locking
unfolding holds_ok
returns-then-locking c = simp (ne_eqb _ _ c.requires.1, sym c.locking.ensures, c.if-locking.true)

pub returns : goal.returns
unfolding holds_ok
returns c = simp (sym c.locking.ensures, c.if-locking.false, sym c.lockless_ok.ensures)
