-- `server_visit::ask` meets its contract.
use mathlib.Core.Path.{sym, ◌∙◌}
use Rattle.server_visit.specs.Visits.{ask_held, ask_fits, ask_chain, ask_none}
use borrow.Author.Rules.{rules}
use Rattle.server_visit.proofs.ask.Goals as goal

pub whole_holder-h-requires : goal.whole_holder-h-requires
whole_holder-h-requires c = (search rules, search rules, ask_held _ _ _ _ (sym c.due.ensures ∙ c.if-due.true), c.requires.3)

pub put_message-requires : goal.put_message-requires
put_message-requires c = let h = ask_fits _ _ _ _ _ _ _ (sym c.due.ensures ∙ c.if-due.true) c.requires.4 in search rules

pub returns-then-due : goal.returns-then-due
returns-then-due c = ask_chain _ _ _ _ _ _ _ (sym c.due.ensures ∙ c.if-due.true) c.whole_holder-h.ensures.0 c.whole_for-t.ensures c.put_message.ensures c.asked.ensures c.one_more.ensures

pub returns : goal.returns
returns c = ask_none _ _ _ _ _ _ _ (sym c.due.ensures ∙ c.if-due.false)
