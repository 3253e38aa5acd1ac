-- `station_owner::ask` meets its contract.
use mathlib.Core.Path.{sym}
use Rattle.station_owner.specs.Owner.{ask_b}
use Rattle.station_owner.proofs.ask.Goals as goal

pub returns-then-locking : goal.returns-then-locking
unfolding ask_b
returns-then-locking c = simp (sym c.station.ensures, sym c.locking.ensures, c.if-locking.true, sym c.number.ensures) c.put_up.ensures

pub returns : goal.returns
unfolding ask_b
returns c = simp (sym c.locking.ensures, c.if-locking.false, sym c.lowest8.ensures.0) c.request.ensures
