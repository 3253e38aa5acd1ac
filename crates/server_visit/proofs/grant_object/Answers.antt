-- `server_visit::grant_object` meets its contract.
use mathlib.Core.Path.{ap, ◌∙◌}
use Rattle.server_actions.specs.Posting.{post}
use Rattle.server_visit.specs.Visits.{object_is}
use borrow.Author.Rules.{rules}
use Rattle.server_visit.proofs.grant_object.Goals as goal

pub send_page-requires : goal.send_page-requires
send_page-requires c = (search rules, search rules, c.request-a.ensures.1, rw (object_is _ _ c.request-a.ensures.0 c.unavailable-u.ensures c.leave.ensures c.written_set-x.ensures c.lock_set.ensures) c.requires.2)

pub returns : goal.returns
returns c = c.send_page.ensures ∙ ap (post _ _ _) (object_is _ _ c.request-a.ensures.0 c.unavailable-u.ensures c.leave.ensures c.written_set-x.ensures c.lock_set.ensures)
