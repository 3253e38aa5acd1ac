-- `server_tests::meet` meets its contract.
use borrow.Author.Rules.{rules}
use Rattle.server_tests.specs.Blockers.{meet_set, meet_on}
use Rattle.server_tests.proofs.meet.Goals as goal

pub returns : goal.returns
unfolding meet_set
returns c = c.join_of.ensures (meet_on c.args.s.now c.args.i c.args.j) (λ k r l p. search rules)
