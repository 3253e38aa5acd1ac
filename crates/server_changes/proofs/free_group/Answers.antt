use mathlib.Core.Path.{sym, ◌∙◌}
use Rattle.server_changes.specs.Frees.{none_whole}
use Rattle.server_changes.proofs.free_group.Goals as goal

pub returns-then-get_u64-eq0 : goal.returns-then-get_u64-eq0
returns-then-get_u64-eq0 c = none_whole _ _ _ (sym c.get_u64.ensures ∙ c.if-get_u64-eq0.true)
