-- `server_state::besides_ok` meets its contract.
use Rattle.server_state.specs.Valid.{beside_at}
use Rattle.server_state.specs.Facts.{none_beside}
use mathlib.Core.Path.{sym, ◌∙◌}
use borrow.Author.Rules.{rules}
use Rattle.server_state.proofs.besides_ok.Goals as goal

pub returns-then-locks-eq0 : goal.returns-then-locks-eq0
returns-then-locks-eq0 c = none_beside _ _ (sym c.locks_on-locks.ensures ∙ c.if-locks-eq0.true)

pub returns : goal.returns
returns c = c.all_of.ensures (beside_at c.args.s.now c.args.p) (λ k r l p. search rules)
