use mathlib.Core.Path.{sym, ◌∙◌}
use Rattle.server_changes.specs.Frees.{page_unlocked}
use Rattle.server_changes.proofs.free_on.Goals as goal

pub returns-then-locks_on-eq0 : goal.returns-then-locks_on-eq0
returns-then-locks_on-eq0 c = page_unlocked _ _ _ (sym c.locks_on.ensures ∙ c.if-locks_on-eq0.true)
