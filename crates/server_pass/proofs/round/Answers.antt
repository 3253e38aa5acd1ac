-- `server_pass::round` meets its contract.
use mathlib.Core.Path.{sym, ◌∙◌}
use Rattle.server_pass.specs.Idle.{idle_posted}
use Rattle.server_pass.proofs.round.Goals as goal

pub returns-then-get_u64-eq0 : goal.returns-then-get_u64-eq0
returns-then-get_u64-eq0 c = idle_posted _ (sym c.get_u64.ensures ∙ c.if-get_u64-eq0.true) _ _ _
