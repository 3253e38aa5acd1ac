-- `station_state::record_read` meets its contract. The calls are the definition by one law (`read-stores`).
use Rattle.station_state.specs.Stores.{read_stores}
use Rattle.station_state.proofs.record_read.Goals as goal

pub returns : goal.returns
returns c = read_stores _ _ c.copy-v.ensures c.get_u32-n.ensures c.add_to.ensures c.put_u64.ensures c.put_u32.ensures
