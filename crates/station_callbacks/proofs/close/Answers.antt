-- `station_callbacks::close` meets its contract.
use mathlib.Core.Path.{sym}
use Rattle.station_callbacks.specs.Callbacks.{close_posted}
use Rattle.station_callbacks.proofs.close.Goals as goal

pub returns : goal.returns
unfolding close_posted
returns c = simp (sym c.closed.ensures) c.do_all_kept.ensures
