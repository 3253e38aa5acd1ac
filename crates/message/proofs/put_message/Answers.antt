-- `message::put_message` meets its contract. `message-stores` joins the front and the zeros behind it.
use Rattle.message.specs.Stores.{message_stores}
use Rattle.message.proofs.put_message.Goals as goal

pub returns : goal.returns
returns c = message_stores _ _ _ _ _ _ _ _ _ c.put_front.ensures c.zero.ensures
