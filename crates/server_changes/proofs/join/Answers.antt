-- `server_changes::join` meets its contract. The six calls are the definition by one law (`join-stores`).
use Rattle.server_changes.specs.Stores.{join_stores}
use Rattle.server_changes.proofs.join.Goals as goal

pub returns : goal.returns
returns c = join_stores _ _ _ _ c.next_arrival-n.ensures c.leave.ensures c.put_u64.ensures c.put_u8.ensures c.put_u8-2.ensures c.put_u64-2.ensures
