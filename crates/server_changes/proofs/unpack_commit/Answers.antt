-- `server_changes::unpack_commit` meets its contract. The calls are the definition by one law (`unpack-stores`).
use Rattle.server_changes.specs.Stores.{unpack_stores}
use Rattle.server_changes.proofs.unpack_commit.Goals as goal

pub returns : goal.returns
returns c = unpack_stores _ _ _ c.sent_reads-n.ensures.0 c.sent_writes-w.ensures.0 c.transaction.ensures c.put_u32.ensures c.unpack.ensures c.unpack-2.ensures
