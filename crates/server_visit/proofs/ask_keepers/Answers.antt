-- `server_visit::ask_keepers` meets its contract.
use mathlib.Core.Path.{sym, ◌∙◌}
use Rattle.server_visit.specs.Visits.{keepers_none}
use Rattle.server_visit.proofs.ask_keepers.Goals as goal

pub returns : goal.returns
returns c = keepers_none _ _ _ _ _ (sym c.requires.3 ∙ c.if-x.false)
