-- `server_pass::pass` meets its contract.
use mathlib.Core.Path.{ap, ◌∙◌}
use Rattle.server_actions.specs.Posting.{post}
use Rattle.server_pass.specs.Calls.{passed_is, noted_passed}
use borrow.Author.Rules.{rules}
use Rattle.server_pass.proofs.pass.Goals as goal

pub pass_places-requires : goal.pass_places-requires
pass_places-requires c = (search rules, c.requires.1, c.requires.2, rw (passed_is _ _ c.order-l.ensures.0 c.order-l.ensures.1) c.requires.3)

pub returns : goal.returns
returns c = (c.pass_places.ensures.0 ∙ ap (post _ _ _) (passed_is _ _ c.order-l.ensures.0 c.order-l.ensures.1), noted_passed _ _ _ c.order-l.ensures.0 c.order-l.ensures.1 c.pass_places.ensures.1)
