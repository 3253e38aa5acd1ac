-- `server_visit::judge` meets its contract.
use mathlib.Core.Path.{sym, ◌∙◌}
use native.Mathlib.Omega.{arith}
use borrow.Author.Tests.{eq-eqb}
use Rattle.server_actions.specs.Pass.{judge_b}
use Rattle.server_visit.specs.Visits.{fault_last, blocked_by, blocked_post, yes_room, yes_post}
use borrow.Author.Rules.{rules}
use Rattle.server_visit.proofs.judge.Goals as goal

pub gates-requires : goal.gates-requires
unfolding judge_b
gates-requires c = (search rules, search rules, c.requires.2, sym c.requires.3 ∙ c.if-b-eq0.true, c.requires.4, λ _ _. fault_last _ _ (λ j. omega (arith, c.slice_known-1.given j)) (sym c.requires.5), yes_room _ _ _ _ _ _ (eq-eqb _ _ (sym c.requires.5)) c.requires.6)

pub returns-then-b-eq0 : goal.returns-then-b-eq0
unfolding judge_b
returns-then-b-eq0 c = yes_post _ _ _ _ _ _ (eq-eqb _ _ (sym c.requires.5)) c.gates.ensures

pub returns : goal.returns
unfolding judge_b
returns c = yes_post _ _ _ _ _ _ (eq-eqb _ _ (sym c.requires.5)) (blocked_post _ _ _ 3 _ _ (blocked_by _ _ _ c.requires.3 (λ j. omega (arith, c.slice_known-1.given j)) c.if-b-eq0.false))
