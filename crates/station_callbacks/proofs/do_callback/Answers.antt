-- `station_callbacks::do_callback` meets its contract.
use Rattle.station_callbacks.specs.Callbacks.{callback_posted}
use Rattle.station_callbacks.proofs.do_callback.Goals as goal

pub returns : goal.returns
unfolding callback_posted
returns c = cc
