-- `server_tests::ahead_set` meets its contract.
use borrow.Author.Rules.{rules}
use Rattle.server_tests.specs.Blockers.{ahead_set, ahead_b}
use Rattle.server_tests.proofs.ahead_set.Goals as goal

pub returns : goal.returns
unfolding ahead_set
returns c = c.set_of.ensures (ahead_b c.args.s.now c.args.i) (λ k r l p. search rules)
