-- `station_state::write_local` meets its contract. The calls are the definition by one law (`write-stores`).
use Rattle.station_state.specs.Stores.{write_stores}
use Rattle.station_state.proofs.write_local.Goals as goal

pub returns : goal.returns
returns c = write_stores _ _ _ c.first_use.ensures c.add_to.ensures c.put_u64.ensures c.put_u64-2.ensures
