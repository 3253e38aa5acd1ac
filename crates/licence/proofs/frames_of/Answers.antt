-- `licence::frames_of` meets its contract.
use Rattle.licence.specs.Frames.{frames_of}
use borrow.Author.Rules.{rules}
use Rattle.licence.proofs.frames_of.Goals as goal

pub returns : goal.returns
unfolding frames_of
returns c = search rules
