-- `station_state::closed` meets its contract. The six calls are the definition by one law (`closed-stores`).
use Rattle.station_state.specs.Stores.{closed_stores}
use Rattle.station_state.proofs.closed.Goals as goal

pub returns : goal.returns
returns c = closed_stores _ c.unwhole.ensures c.clear.ensures c.clear-2.ensures c.clear-3.ensures c.idle.ensures c.put_u8.ensures
