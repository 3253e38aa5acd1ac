-- `server_tests::unlocked` meets its contract.
use borrow.Author.Rules.{rules}
use Rattle.server_tests.specs.Tests.{unlocked_b, unlocked_at}
use Rattle.server_tests.proofs.unlocked.Goals as goal

pub returns : goal.returns
unfolding unlocked_b
returns c = let e = c.any_of-r.ensures (unlocked_at c.args.s.now c.args.i c.args.m.now) (λ k r l p. search rules) in cc
