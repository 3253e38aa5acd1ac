-- `station_owner::no_begin` meets its contract.
use mathlib.Core.Path.{sym, ◌∙◌}
use Rattle.station_owner.specs.Facts.{ready_is}
use Rattle.station_owner.proofs.no_begin.Goals as goal

pub wait-requires : goal.wait-requires
wait-requires c = (ready_is _ _ _ (sym c.ready.ensures ∙ c.if-not-ready.false)).size
