-- `server_changes::free_pages` meets its contract.
use Rattle.server_changes.specs.Changes.{free_pages_b}
use mathlib.Core.Path.{sym}
use Rattle.server_changes.proofs.free_pages.Goals as goal

pub returns-then-keeps : goal.returns-then-keeps
unfolding free_pages_b
returns-then-keeps c = simp (sym c.keeps.ensures, c.if-keeps.true)

pub returns : goal.returns
unfolding free_pages_b
returns c = simp (sym c.keeps.ensures, c.if-keeps.false) c.free_all_pages.ensures
