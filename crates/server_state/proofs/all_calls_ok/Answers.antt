-- `server_state::all_calls_ok` meets its contract.
use Rattle.server_state.specs.Valid.{calls_ok}
use mathlib.Core.Path.{sym, ◌∙◌}
use borrow.Author.Rules.{rules}
use Rattle.server_state.specs.Eights.{none_called}
use Rattle.server_state.proofs.all_calls_ok.Goals as goal

pub returns-then-over-eq0 : goal.returns-then-over-eq0
returns-then-over-eq0 c = none_called _ (sym c.over.ensures ∙ c.if-over-eq0.true)

pub returns : goal.returns
returns c = c.all_of.ensures (calls_ok c.args.s.now) (λ k r l p. search rules)
