-- `compare::shared` meets its contract.
use mathlib.Core.Path.{sym}
use Rattle.compare.specs.Compare.{shared_of}
use Rattle.compare.proofs.shared.Goals as goal

pub returns-then-not-same_bytes : goal.returns-then-not-same_bytes
unfolding shared_of
returns-then-not-same_bytes c = simp (sym c.claimed_length.ensures, sym c.same_bytes.ensures, c.if-not-same_bytes.true)

pub returns : goal.returns
unfolding shared_of
returns c = simp (sym c.claimed_length.ensures, sym c.same_bytes.ensures, c.if-not-same_bytes.false) c.replay.ensures
