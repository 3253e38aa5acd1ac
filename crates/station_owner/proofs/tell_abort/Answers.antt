-- `station_owner::tell_abort` meets its contract.
use mathlib.Core.Path.{refl, sym}
use Rattle.station_callbacks.specs.Callbacks.{flat}
use Rattle.station_owner.specs.Owner.{aborts_b}
use Rattle.station_owner.specs.Facts.{post_one}
use Rattle.station_owner.proofs.tell_abort.Goals as goal

pub returns-then-locking : goal.returns-then-locking
unfolding aborts_b
returns-then-locking c = simp (sym c.station.ensures, sym c.locking.ensures, c.if-locking.true, sym c.number.ensures) (post_one _ _ _ c.put_up.ensures)

pub returns : goal.returns
unfolding aborts_b flat
returns c = simp (sym c.locking.ensures, c.if-locking.false) refl
