-- `server_visit::visit` meets its contract.
use mathlib.Core.Path.{sym, ◌∙◌}
use native.Mathlib.Omega.{arith}
use borrow.Author.Tests.{eq-eqb}
use Rattle.server_actions.specs.Pass.{visit_b}
use Rattle.server_actions.specs.Posting.{post_none}
use Rattle.server_visit.specs.Visits.{yes_post, commit_room_lem, commit_post, other_room, other_post}
use borrow.Author.Rules.{rules}
use Rattle.server_visit.proofs.visit.Goals as goal

pub returns-then-w : goal.returns-then-w
unfolding visit_b
returns-then-w c = yes_post _ _ _ _ _ _ (eq-eqb _ _ (sym c.want-w.ensures ∙ c.if-w.true)) (post_none _ _ _ _)

pub visit_commit-requires : goal.visit_commit-requires
visit_commit-requires c = (search rules, search rules, c.requires.2, c.requires.4, c.requires.5, commit_room_lem _ _ _ _ _ (sym c.want-w.ensures ∙ c.if-w-2.true) c.requires.6, c.requires.7)

pub returns-then-w-2 : goal.returns-then-w-2
returns-then-w-2 c = commit_post _ _ _ _ _ (sym c.want-w.ensures ∙ c.if-w-2.true) c.visit_commit.ensures

pub visit_request-requires : goal.visit_request-requires
visit_request-requires c = (search rules, search rules, c.requires.2, c.requires.4, c.requires.5, omega (arith, c.if-w.false), omega (arith, c.want-w.ensures, c.if-w-2.false, c.requires.3), rw c.want-w.ensures (other_room _ _ _ _ _ (λ e. c.if-w.false (c.want-w.ensures ∙ e)) (λ e. c.if-w-2.false (c.want-w.ensures ∙ e)) c.requires.6))

pub returns : goal.returns
returns c = other_post _ _ _ _ _ (λ e. c.if-w.false (c.want-w.ensures ∙ e)) (λ e. c.if-w-2.false (c.want-w.ensures ∙ e)) (rw (← c.want-w.ensures) c.visit_request.ensures)
