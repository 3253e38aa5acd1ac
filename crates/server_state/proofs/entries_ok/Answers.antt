-- `server_state::entries_ok` meets its contract.
use Rattle.server_state.specs.Valid.{entry_ok}
use mathlib.Core.Path.{sym, ◌∙◌}
use borrow.Author.Rules.{rules}
use Rattle.server_state.specs.Eights.{none_wait}
use Rattle.server_state.proofs.entries_ok.Goals as goal

pub returns-then-get_u64-eq0 : goal.returns-then-get_u64-eq0
returns-then-get_u64-eq0 c = c.blanks_ok.ensures ∙ none_wait _ (sym c.get_u64.ensures ∙ c.if-get_u64-eq0.true)

pub returns : goal.returns
returns c = c.all_of.ensures (entry_ok c.args.s.now) (λ k r l p. search rules)
