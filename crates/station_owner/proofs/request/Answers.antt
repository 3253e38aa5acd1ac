-- `station_owner::request` meets its contract.
use mathlib.Core.Path.{sym}
use Rattle.station_owner.proofs.request.Goals as goal

pub returns : goal.returns
returns c = simp (sym c.station.ensures, sym c.number.ensures) c.put_up.ensures
