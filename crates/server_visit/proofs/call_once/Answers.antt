-- `server_visit::call_once` meets its contract.
use borrow.Author.Tests.{ne_eqb}
use Rattle.server_actions.specs.Pass.{call_once_b}
use Rattle.server_actions.specs.Posting.{post_none}
use Rattle.server_visit.specs.Visits.{no_post}
use Rattle.server_visit.proofs.call_once.Goals as goal

pub returns : goal.returns
unfolding call_once_b
returns c = no_post _ _ _ _ _ _ (ne_eqb _ _ c.if-s-i-eq0.false) (post_none _ _ _ _)
