-- `station_owner::write` meets its contract.
use mathlib.Core.Path.{sym}
use Rattle.station_owner.specs.Owner.{own_write_b}
use Rattle.station_owner.proofs.write.Goals as goal

pub returns : goal.returns
unfolding own_write_b
returns c = simp (sym c.only-values.ensures, sym c.bit8.ensures, sym c.from.ensures) c.write_set.ensures
