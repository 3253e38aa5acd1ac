-- `record::put_header` meets its contract. The eight stores are the header by one law (`header-stores`).
use Rattle.record.specs.Stores.{header_stores}
use Rattle.record.proofs.put_header.Goals as goal

pub returns : goal.returns
returns c = header_stores _ _ _ _ _ _ _ c.put_u16.ensures c.put_u16-2.ensures c.put_u32.ensures c.put_u32-2.ensures c.put_u8.ensures c.put_u8-2.ensures c.put_u8-3.ensures c.put_u8-4.ensures
