-- `station_delivery::ends` meets its contract.
use mathlib.Core.Path.{sym, ◌∙◌}
use Rattle.std.proofs.Common.{eqb-true}
use Rattle.std.proofs.lemmas.Bool.{not-false}
use Rattle.station_delivery.specs.Laws.{closed_unused}
use Rattle.station_delivery.proofs.ends.Goals as goal

pub returns-then-not-is_open : goal.returns-then-not-is_open
returns-then-not-is_open c = closed_unused _ _ (c.requires.2 (eqb-true _ 0 (not-false _ (sym c.is_open.ensures ∙ c.if-not-is_open.true))))
