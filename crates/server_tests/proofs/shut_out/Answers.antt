-- `server_tests::shut_out` meets its contract.
use borrow.Author.Rules.{rules}
use Rattle.server_tests.specs.Tests.{shut_out_b, shut_b}
use Rattle.server_tests.proofs.shut_out.Goals as goal

pub returns : goal.returns
unfolding shut_out_b
returns c = c.any_of.ensures (shut_b c.args.s.now c.args.i) (λ k r l p. search rules)
