use mathlib.Core.Path.{sym, ◌∙◌}
use Rattle.station_pages.specs.Groups.{none_dropped}
use Rattle.station_pages.proofs.dropped_in.Goals as goal

pub returns-then-get_u64-eq0 : goal.returns-then-get_u64-eq0
returns-then-get_u64-eq0 c = none_dropped _ _ _ (sym c.get_u64.ensures ∙ c.if-get_u64-eq0.true)
