-- `server_actions::put_page` meets its contract. The calls are the definition by one law (`page-put`).
use Rattle.server_actions.specs.Stores.{page_put}
use Rattle.server_actions.proofs.put_page.Goals as goal

pub returns : goal.returns
returns c = page_put _ _ _ c.requires.0 _ _ _ _ c.requires.2 c.latest-t.ensures c.put_message.ensures c.put_u8.ensures c.copy_in.ensures c.copy_in-2.ensures
