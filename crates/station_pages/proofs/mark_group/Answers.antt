use mathlib.Core.Path.{sym, ◌∙◌}
use Rattle.station_pages.specs.Groups.{none_marked}
use Rattle.station_pages.proofs.mark_group.Goals as goal

pub returns-then-get_u64-eq0 : goal.returns-then-get_u64-eq0
returns-then-get_u64-eq0 c = none_marked _ _ _ (sym c.get_u64.ensures ∙ c.if-get_u64-eq0.true)
