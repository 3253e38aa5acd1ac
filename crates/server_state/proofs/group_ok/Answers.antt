-- `server_state::group_ok` meets its contract.
use mathlib.Core.Path.{sym, ◌∙◌}
use borrow.Author.Rules.{rules}
use Rattle.server_state.specs.Eights.{group_at, group_ok, group_free_lem}
use Rattle.server_state.proofs.group_ok.Goals as goal

pub returns-then-group_free : goal.returns-then-group_free
returns-then-group_free c = group_free_lem _ _ (sym c.group_free.ensures ∙ c.if-group_free.true)

pub returns : goal.returns
unfolding group_ok group_at
returns c = c.all_of.ensures (group_at c.args.s.now c.args.g) (λ k r l p. search rules)
