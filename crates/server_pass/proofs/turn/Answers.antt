-- `server_pass::turn` meets its contract.
use borrow.Author.Tests.{lt-ltb, le-ltb}
use Rattle.server_actions.specs.Posting.{post_none}
use Rattle.server_visit.specs.Visits.{yes_room, yes_post, no_post}
use Rattle.server_pass.specs.Sane.{held}
use Rattle.server_pass.specs.Seats.{turn_b}
use Rattle.server_pass.specs.Edges.{noted_yes, noted_no}
use borrow.Author.Rules.{rules}
use Rattle.server_pass.proofs.turn.Goals as goal

pub visit-requires : goal.visit-requires
unfolding turn_b
visit-requires c = (search rules, search rules, held c.requires.2, c.requires.2.wanting _ c.if-i-lt8.true, c.blockers_by-b.ensures, c.shut_out_by-x.ensures, yes_room _ _ _ _ _ _ (lt-ltb _ _ c.if-i-lt8.true) c.requires.3, c.page_alone-p.ensures.1)

pub returns-then-i-lt8 : goal.returns-then-i-lt8
unfolding turn_b
returns-then-i-lt8 c = (yes_post _ _ _ _ _ _ (lt-ltb _ _ c.if-i-lt8.true) c.visit.ensures, noted_yes _ _ _ c.if-i-lt8.true c.edges_by-d.ensures c.put_u8.ensures)

pub returns : goal.returns
unfolding turn_b
returns c = (no_post _ _ _ _ _ _ (le-ltb _ _ c.if-i-lt8.false) (post_none _ _ _ _), noted_no _ _ _ c.if-i-lt8.false)
