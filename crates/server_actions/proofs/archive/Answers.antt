-- `server_actions::archive` meets its contract.
use mathlib.Core.Path.{◌∙◌}
use Rattle.server_actions.specs.Chains.{archive_chain, archive_room}
use borrow.Author.Rules.{rules}
use Rattle.server_actions.proofs.archive.Goals as goal

pub put_record-k-requires : goal.put_record-k-requires
put_record-k-requires c = (search rules, search rules, search rules, search rules, archive_room _ _ _ _ c.last-n.ensures c.work-t.ensures (c.from-kind.ensures ∙ c.kind.ensures) c.requires.2, search rules, search rules)

pub returns : goal.returns
returns c = archive_chain _ _ _ _ c.last-n.ensures c.work-t.ensures (c.from-kind.ensures ∙ c.kind.ensures) c.put_record-k.ensures.0
