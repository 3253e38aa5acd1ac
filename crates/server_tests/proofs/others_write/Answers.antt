-- `server_tests::others_write` meets its contract.
use Rattle.server_tests.specs.Shorter.{written_by}
use borrow.Author.Rules.{rules}
use Rattle.server_tests.proofs.others_write.Goals as goal

pub returns : goal.returns
returns c = c.join_of.ensures (written_by c.args.s.now c.args.i c.args.p) (λ k r l p. search rules)
