-- `station_commit::version_sent` meets its contract.
use mathlib.Core.Path.{sym}
use Rattle.station_commit.specs.Commit.{version_sent}
use Rattle.station_commit.proofs.version_sent.Goals as goal

pub returns-then-locking : goal.returns-then-locking
unfolding version_sent
returns-then-locking c = simp (sym c.locking.ensures, c.if-locking.true)

pub returns : goal.returns
unfolding version_sent
returns c = simp (sym c.locking.ensures, c.if-locking.false) c.get_u32.ensures
