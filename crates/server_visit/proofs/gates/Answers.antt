-- `server_visit::gates` meets its contract.
use mathlib.Core.Path.{refl, sym, ◌∙◌}
use native.Mathlib.Omega.{arith}
use Rattle.server_actions.specs.Pass.{gates_b}
use Rattle.server_visit.specs.Visits.{blocked_not, yes_room, no_room, yes_post, no_post}
use borrow.Author.Rules.{rules}
use Rattle.server_visit.proofs.gates.Goals as goal

pub ask_all-requires : goal.ask_all-requires
unfolding gates_b
ask_all-requires c = (search rules, search rules, c.requires.2, yes_room _ _ _ _ _ _ (sym c.requires.4 ∙ c.if-x.true) (no_room _ _ _ _ _ _ (blocked_not _ _ _ refl (λ j. omega (arith, c.slice_known-1.given j)) c.requires.3) c.requires.6))

pub returns-then-x : goal.returns-then-x
unfolding gates_b
returns-then-x c = no_post _ _ _ _ _ _ (blocked_not _ _ _ refl (λ j. omega (arith, c.slice_known-1.given j)) c.requires.3) (yes_post _ _ _ _ _ _ (sym c.requires.4 ∙ c.if-x.true) c.ask_all.ensures)

pub proceed-requires : goal.proceed-requires
unfolding gates_b
proceed-requires c = (search rules, search rules, c.requires.5, no_room _ _ _ _ _ _ (sym c.requires.4 ∙ c.if-x.false) (no_room _ _ _ _ _ _ (blocked_not _ _ _ refl (λ j. omega (arith, c.slice_known-1.given j)) c.requires.3) c.requires.6))

pub returns : goal.returns
unfolding gates_b
returns c = no_post _ _ _ _ _ _ (blocked_not _ _ _ refl (λ j. omega (arith, c.slice_known-1.given j)) c.requires.3) (no_post _ _ _ _ _ _ (sym c.requires.4 ∙ c.if-x.false) c.proceed.ensures)
