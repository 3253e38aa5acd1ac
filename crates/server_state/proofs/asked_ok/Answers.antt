-- `server_state::asked_ok` meets its contract.
use Rattle.server_state.specs.Valid.{asked_at}
use Rattle.server_state.specs.Facts.{none_asked}
use mathlib.Core.Path.{sym, ◌∙◌}
use borrow.Author.Rules.{rules}
use Rattle.server_state.proofs.asked_ok.Goals as goal

pub returns-then-asked-eq0 : goal.returns-then-asked-eq0
returns-then-asked-eq0 c = none_asked _ (sym c.asked.ensures ∙ c.if-asked-eq0.true)

pub returns : goal.returns
returns c = c.all_of.ensures (asked_at c.args.s.now) (λ k r l p. search rules)
