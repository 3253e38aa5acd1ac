-- `server_actions::inform` meets its contract.
use mathlib.Core.Path.{sym, ◌∙◌}
use Rattle.server_actions.specs.Chains.{inform_fits, inform_chain, inform_none}
use borrow.Author.Rules.{rules}
use Rattle.server_actions.proofs.inform.Goals as goal

pub put_message-requires : goal.put_message-requires
put_message-requires c = let h = inform_fits _ _ _ _ _ _ _ (sym c.has_bit8.ensures ∙ c.if-has_bit8.true) c.requires.3 in search rules

pub copy_in-requires : goal.copy_in-requires
copy_in-requires c = let h = inform_fits _ _ _ _ _ _ _ (sym c.has_bit8.ensures ∙ c.if-has_bit8.true) c.requires.3 in search rules

pub returns-then-has_bit8 : goal.returns-then-has_bit8
returns-then-has_bit8 c = inform_chain _ _ _ _ _ _ _ c.requires.1 (sym c.has_bit8.ensures ∙ c.if-has_bit8.true) c.put_message.ensures c.copy_in.ensures c.one_more.ensures

pub returns : goal.returns
returns c = inform_none _ _ _ _ _ _ _ (sym c.has_bit8.ensures ∙ c.if-has_bit8.false)
