-- `server_actions::send_page` meets its contract.
use Rattle.server_actions.specs.Chains.{page_fits, page_chain}
use borrow.Author.Rules.{rules}
use Rattle.server_actions.proofs.send_page.Goals as goal

pub put_page-requires : goal.put_page-requires
put_page-requires c = let h = page_fits _ _ _ _ _ _ _ _ c.requires.3 in search rules

pub returns : goal.returns
returns c = page_chain _ _ _ _ _ _ _ _ c.put_page.ensures c.list.ensures c.one_more.ensures
