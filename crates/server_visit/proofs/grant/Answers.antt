-- `server_visit::grant` meets its contract.
use mathlib.Core.Path.{sym, ◌∙◌}
use Rattle.server_actions.specs.Pass.{grant_b}
use Rattle.server_visit.specs.Visits.{yes_room, no_room, yes_post, no_post}
use borrow.Author.Rules.{rules}
use Rattle.server_visit.proofs.grant.Goals as goal

pub grant_object-requires : goal.grant_object-requires
unfolding grant_b
grant_object-requires c = (search rules, search rules, yes_room _ _ _ _ _ _ (rw c.request.ensures.0 at (sym c.hindered.ensures ∙ c.if-hindered.true)) c.requires.2)

pub returns-then-hindered : goal.returns-then-hindered
unfolding grant_b
returns-then-hindered c = yes_post _ _ _ _ _ _ (rw c.request.ensures.0 at (sym c.hindered.ensures ∙ c.if-hindered.true)) c.grant_object.ensures

pub grant_page-requires : goal.grant_page-requires
unfolding grant_b
grant_page-requires c = (search rules, search rules, no_room _ _ _ _ _ _ (rw c.request.ensures.0 at (sym c.hindered.ensures ∙ c.if-hindered.false)) c.requires.2)

pub returns : goal.returns
unfolding grant_b
returns c = no_post _ _ _ _ _ _ (rw c.request.ensures.0 at (sym c.hindered.ensures ∙ c.if-hindered.false)) c.grant_page.ensures
