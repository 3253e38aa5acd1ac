-- `seek::find` meets its contract.
use Rattle.seek.specs.Seek.{sought_of}
use borrow.Author.Rules.{rules}
use Rattle.seek.proofs.find.Goals as goal

pub returns : goal.returns
unfolding sought_of
returns c = search rules
