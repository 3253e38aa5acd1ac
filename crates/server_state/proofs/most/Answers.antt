-- `server_state::most` meets its contract.
use borrow.Author.Rules.{rules}
use Rattle.server_state.specs.Valid.{most, most_at}
use Rattle.server_state.proofs.most.Goals as goal

pub returns : goal.returns
unfolding most
returns c = c.all_of.ensures (most_at c.args.s.now c.args.at c.args.n) (λ k r l p. search rules)
