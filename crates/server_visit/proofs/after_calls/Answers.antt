-- `server_visit::after_calls` meets its contract.
use mathlib.Core.Path.{sym, ◌∙◌}
use borrow.Author.Tests.{eq-eqb, ne_eqb}
use Rattle.server_actions.specs.Pass.{after_calls_b}
use Rattle.server_actions.specs.Posting.{post_none}
use Rattle.server_visit.specs.Visits.{yes_room, no_room, yes_post, no_post}
use borrow.Author.Rules.{rules}
use Rattle.server_visit.proofs.after_calls.Goals as goal

pub returns-then-pend-ne0 : goal.returns-then-pend-ne0
unfolding after_calls_b
returns-then-pend-ne0 c = no_post _ _ _ _ _ _ (ne_eqb _ _ (λ e. c.if-pend-ne0.true (c.pend.ensures ∙ e))) (post_none _ _ _ _)

pub grant-requires : goal.grant-requires
unfolding after_calls_b
grant-requires c = (search rules, search rules, yes_room _ _ _ _ _ _ (eq-eqb _ _ c.if-w.true) (yes_room _ _ _ _ _ _ (eq-eqb _ _ (sym c.pend.ensures ∙ c.if-pend-ne0.false)) c.requires.3))

pub returns-then-w : goal.returns-then-w
unfolding after_calls_b
returns-then-w c = yes_post _ _ _ _ _ _ (eq-eqb _ _ (sym c.pend.ensures ∙ c.if-pend-ne0.false)) (yes_post _ _ _ _ _ _ (eq-eqb _ _ c.if-w.true) c.grant.ensures)

pub install-requires : goal.install-requires
unfolding after_calls_b
install-requires c = (search rules, search rules, c.requires.2 c.if-w.false, no_room _ _ _ _ _ _ (ne_eqb _ _ c.if-w.false) (yes_room _ _ _ _ _ _ (eq-eqb _ _ (sym c.pend.ensures ∙ c.if-pend-ne0.false)) c.requires.3))

pub returns : goal.returns
unfolding after_calls_b
returns c = yes_post _ _ _ _ _ _ (eq-eqb _ _ (sym c.pend.ensures ∙ c.if-pend-ne0.false)) (no_post _ _ _ _ _ _ (ne_eqb _ _ c.if-w.false) c.install.ensures)
