-- `server_actions::abort` meets its contract.
use Rattle.server_actions.specs.Chains.{abort_fits, abort_chain}
use borrow.Author.Rules.{rules}
use Rattle.server_actions.proofs.abort.Goals as goal

pub put_message-requires : goal.put_message-requires
put_message-requires c = let h = abort_fits _ _ _ _ _ _ c.requires.2 in search rules

pub returns : goal.returns
returns c = abort_chain _ _ _ _ _ _ c.leave.ensures c.keeps_age.ensures c.finish.ensures c.latest-t.ensures c.put_message.ensures c.one_more.ensures
