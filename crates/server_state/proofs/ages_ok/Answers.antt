-- `server_state::ages_ok` meets its contract.
use Rattle.server_state.specs.Valid.{aged_ok}
use borrow.Author.Rules.{rules}
use Rattle.server_state.proofs.ages_ok.Goals as goal

pub returns : goal.returns
returns c = c.all_of.ensures (aged_ok c.args.s.now) (λ k r l p. search rules)
