-- `server_state::holders_ok` meets its contract.
use Rattle.server_state.specs.Valid.{holder_at}
use Rattle.server_state.specs.Facts.{page_unlocked}
use mathlib.Core.Path.{sym, ◌∙◌}
use borrow.Author.Rules.{rules}
use Rattle.server_state.proofs.holders_ok.Goals as goal

pub returns-then-locks_on-eq0 : goal.returns-then-locks_on-eq0
returns-then-locks_on-eq0 c = page_unlocked _ _ (sym c.locks_on.ensures ∙ c.if-locks_on-eq0.true)

pub returns : goal.returns
returns c = c.all_of.ensures (holder_at c.args.s.now c.args.p) (λ k r l p. search rules)
