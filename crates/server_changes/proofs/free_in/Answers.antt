use mathlib.Core.Path.{sym, ◌∙◌}
use native.Mathlib.Omega.{arith}
use borrow.Author.Rules.{rules}
use Rattle.station_state.specs.Runs.{run_group}
use Rattle.server_changes.specs.Frees.{group_unlocked}
use Rattle.server_changes.proofs.free_in.Goals as goal

pub returns-then-over-eq0 : goal.returns-then-over-eq0
returns-then-over-eq0 c = group_unlocked _ _ _ (sym c.over.ensures ∙ c.if-over-eq0.true)

pub loop-p-preserved : goal.loop-p-preserved
loop-p-preserved c = (search rules, search rules, run_group _ _ _ _ _ _ _ c.loop-p.invariant.2 c.free_on.ensures (omega arith) (omega arith))
