-- `server_actions::put_callback` meets its contract.
use Rattle.server_actions.specs.Stores.{callback_put}
use Rattle.server_actions.proofs.put_callback.Goals as goal

pub returns : goal.returns
returns c = callback_put _ _ _ c.requires.0 _ _ c.requires.2 c.latest-t.ensures c.put_message.ensures c.copy_in.ensures
