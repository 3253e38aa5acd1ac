-- `server_state::all_arrivals` meets its contract.
use mathlib.Core.Path.{sym, ◌∙◌}
use borrow.Author.Rules.{rules}
use Rattle.server_state.specs.Eights.{arrivals_apart, none_arrived}
use Rattle.server_state.proofs.all_arrivals.Goals as goal

pub returns-then-wants-eq0 : goal.returns-then-wants-eq0
returns-then-wants-eq0 c = none_arrived _ (sym c.get_u64-wants.ensures ∙ c.if-wants-eq0.true)

pub returns : goal.returns
unfolding arrivals_apart
returns c = c.all_of.ensures (arrivals_apart c.args.s.now) (λ k r l p. search rules)
