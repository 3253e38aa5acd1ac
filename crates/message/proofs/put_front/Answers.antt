-- `message::put_front` meets its contract. The seven stores are the front by one law (`front-stores`).
use Rattle.message.specs.Stores.{front_stores}
use Rattle.message.proofs.put_front.Goals as goal

pub returns : goal.returns
returns c = front_stores _ _ _ _ _ _ _ _ _ c.put_u8.ensures c.put_u8-2.ensures c.put_u8-3.ensures c.put_u8-4.ensures c.put_u32.ensures c.put_u32-2.ensures c.put_u32-3.ensures
