-- `server_changes::leave` meets its contract. The eight calls are the definition by one law (`leave-stores`).
use Rattle.server_changes.specs.Stores.{leave_stores}
use Rattle.server_changes.proofs.leave.Goals as goal

pub returns : goal.returns
returns c = leave_stores _ _ c.put_u8.ensures c.put_u64.ensures c.put_u8-2.ensures c.clear.ensures c.clear-2.ensures c.put_u8-3.ensures c.put_u8-4.ensures c.put_u8-5.ensures
