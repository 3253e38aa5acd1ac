-- `message::put_up` meets its contract. `up-stores` joins the front, the set and the zeros behind it.
use Rattle.message.specs.Stores.{up_stores}
use Rattle.message.proofs.put_up.Goals as goal

pub returns : goal.returns
returns c = up_stores _ _ _ _ _ _ _ _ _ c.put_front.ensures c.put_u8.ensures c.zero.ensures
