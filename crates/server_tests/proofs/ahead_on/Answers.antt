-- `server_tests::ahead_on` meets its contract.
use borrow.Author.Rules.{rules}
use Rattle.server_tests.specs.Alone.{ahead_on, ahead_at}
use Rattle.server_tests.proofs.ahead_on.Goals as goal

pub returns : goal.returns
unfolding ahead_on
returns c = c.set_of.ensures (ahead_at c.args.s.now c.args.i c.args.p) (λ k r l p. search rules)
