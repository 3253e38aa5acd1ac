-- `server_visit::call_one` meets its contract.
use mathlib.Core.Path.{sym, ◌∙◌}
use Rattle.server_visit.specs.Visits.{call_fits, call_chain, call_none}
use borrow.Author.Rules.{rules}
use Rattle.server_visit.proofs.call_one.Goals as goal

pub put_callback-requires : goal.put_callback-requires
put_callback-requires c = let h = call_fits _ _ _ _ _ _ _ (sym c.has_bit8.ensures ∙ c.if-has_bit8.true) c.requires.3 in search rules

pub returns-then-has_bit8 : goal.returns-then-has_bit8
returns-then-has_bit8 c = call_chain _ _ _ _ _ _ _ (sym c.has_bit8.ensures ∙ c.if-has_bit8.true) c.put_callback.ensures c.one_more.ensures

pub returns : goal.returns
returns c = call_none _ _ _ _ _ _ _ (sym c.has_bit8.ensures ∙ c.if-has_bit8.false)
