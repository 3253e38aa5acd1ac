-- `server_changes::unpack_one` meets its contract. The calls are the definition by one law (`entry-stores`).
use Rattle.server_changes.specs.Stores.{entry_stores}
use Rattle.std.proofs.Common.{refl}
use Rattle.server_changes.proofs.unpack_one.Goals as goal

pub returns : goal.returns
returns c = entry_stores _ _ _ _ _ _ c.record_at-p.ensures.0 c.sent_reads.ensures.0 c.sent_writes.ensures.0 refl c.get_u64-v.ensures c.get_u32-n.ensures c.add_to.ensures c.put_u64.ensures c.put_u32.ensures
