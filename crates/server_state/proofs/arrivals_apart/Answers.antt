-- `server_state::arrivals_apart` meets its contract.
use mathlib.Core.Path.{sym, ◌∙◌}
use borrow.Author.Rules.{rules}
use Rattle.server_state.specs.Eights.{arrivals_idle, arrivals_at}
use Rattle.server_state.proofs.arrivals_apart.Goals as goal

pub returns-then-want : goal.returns-then-want
returns-then-want c = arrivals_idle _ _ (sym c.want.ensures ∙ c.if-want.true)

pub returns : goal.returns
returns c = c.all_of.ensures (arrivals_at c.args.s.now c.args.i) (λ k r l p. search rules)
