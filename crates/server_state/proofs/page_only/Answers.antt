-- `server_state::page_only` meets its contract.
use borrow.Author.Rules.{rules}
use Rattle.server_state.specs.Valid.{page_only, page_only_at}
use Rattle.server_state.proofs.page_only.Goals as goal

pub returns : goal.returns
unfolding page_only
returns c = c.all_of.ensures (page_only_at c.args.s.now c.args.at c.args.p) (λ k r l p. search rules)
