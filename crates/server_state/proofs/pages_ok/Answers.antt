-- `server_state::pages_ok` meets its contract.
use Rattle.std.proofs.Common.{sym, ◌∙◌, rules}
use Rattle.server_state.specs.Eights.{group_ok, groups_pages, lock_free_lem}
use Rattle.server_state.proofs.pages_ok.Goals as goal

pub returns-then-lock_free : goal.returns-then-lock_free
returns-then-lock_free c = lock_free_lem _ (sym c.lock_free.ensures ∙ c.if-lock_free.true)

pub returns : goal.returns
returns c = c.all_of.ensures (group_ok c.args.s.now) (λ k r l p. search rules) ∙ groups_pages _
