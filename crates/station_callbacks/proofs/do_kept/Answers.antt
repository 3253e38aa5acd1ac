-- `station_callbacks::do_kept` meets its contract.
use mathlib.Core.Path.{sym, ◌∙◌}
use Rattle.station_callbacks.specs.Posting.{kept_other}
use borrow.Author.Rules.{rules}
use Rattle.station_callbacks.proofs.do_kept.Goals as goal

pub do_callback-requires : goal.do_callback-requires
do_callback-requires c = (search rules, c.requires.1 (kept_other _ _ _ (sym c.not_kept.ensures ∙ c.if-not_kept.false)), search rules)
