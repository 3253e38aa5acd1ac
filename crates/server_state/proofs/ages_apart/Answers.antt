-- `server_state::ages_apart` meets its contract.
use mathlib.Core.Path.{sym, ◌∙◌}
use borrow.Author.Rules.{rules}
use Rattle.server_state.specs.Eights.{ages_idle, ages_at}
use Rattle.server_state.proofs.ages_apart.Goals as goal

pub returns-then-ageless_at : goal.returns-then-ageless_at
returns-then-ageless_at c = ages_idle _ _ (sym c.ageless_at.ensures ∙ c.if-ageless_at.true)

pub returns : goal.returns
returns c = c.all_of.ensures (ages_at c.args.s.now c.args.i) (λ k r l p. search rules)
