use Rattle.turns.specs.Turn.{ready}
use borrow.Author.Rules.{rules}
use Rattle.turns.proofs.Lines.ready.Goals as goal

pub returns : goal.returns
unfolding ready
returns c = search rules
