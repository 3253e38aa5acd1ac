-- `server_pass::break_cycle` meets its contract.
use Rattle.server_visit.specs.Visits.{yes_post}
use Rattle.server_pass.specs.Calls.{victim_room, victim_posted}
use mathlib.Core.Path.{sym}
use native.Mathlib.Omega.{arith}
use borrow.Author.Tests.{eq-eqb}
use Rattle.server_actions.specs.Posting.{post_none}
use Rattle.server_pass.specs.Rounds.{broken_b}
use borrow.Author.Rules.{rules}
use Rattle.server_pass.proofs.break_cycle.Goals as goal

pub victim-requires : goal.victim-requires
victim-requires c = (search rules, c.requires.1)

pub returns-in-None : goal.returns-in-None
unfolding broken_b
returns-in-None c = yes_post _ _ _ _ _ _ (eq-eqb _ _ (sym c.in-None.ensures.station)) (post_none _ _ _ _)

pub abort-requires : goal.abort-requires
abort-requires c = (search rules, c.in-Some.ensures.below, victim_room _ _ _ _ c.in-Some.ensures.station (λ e. omega (arith, c.in-Some.ensures.below, e)) c.requires.2)

pub returns-in-Some : goal.returns-in-Some
returns-in-Some c = victim_posted _ _ _ _ c.in-Some.ensures.station (λ e. omega (arith, c.in-Some.ensures.below, e)) c.abort.ensures
