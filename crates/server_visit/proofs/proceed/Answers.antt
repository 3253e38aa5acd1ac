-- `server_visit::proceed` meets its contract.
use borrow.Author.Tests.{eq-eqb}
use Rattle.server_actions.specs.Pass.{proceed_b}
use Rattle.server_visit.specs.Visits.{yes_room, yes_post, once_last, proceed_first, proceed_next, proceed_chain}
use borrow.Author.Rules.{rules}
use Rattle.server_visit.proofs.proceed.Goals as goal

pub serve_read-requires : goal.serve_read-requires
unfolding proceed_b
serve_read-requires c = (search rules, search rules, yes_room _ _ _ _ _ _ (eq-eqb _ _ c.if-w.true) c.requires.3)

pub returns-then-w : goal.returns-then-w
unfolding proceed_b
returns-then-w c = yes_post _ _ _ _ _ _ (eq-eqb _ _ c.if-w.true) c.serve_read.ensures

pub call_once-b-requires : goal.call_once-b-requires
call_once-b-requires c = (search rules, search rules, proceed_first _ _ _ _ _ _ c.if-w.false c.requires.3)

pub after_calls-requires : goal.after_calls-requires
after_calls-requires c = (search rules, search rules, λ n. rw (once_last _ _ _ _ _ c.call_once-b.ensures) (c.requires.2 c.if-w.false n), proceed_next _ _ _ _ _ _ c.if-w.false c.call_once-b.ensures c.requires.3)

pub returns : goal.returns
returns c = proceed_chain _ _ _ _ _ _ c.if-w.false c.call_once-b.ensures c.after_calls.ensures
