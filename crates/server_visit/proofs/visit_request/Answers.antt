-- `server_visit::visit_request` meets its contract.
use mathlib.Core.Path.{sym, ◌∙◌}
use native.Mathlib.Omega.{arith}
use Rattle.server_actions.specs.Posting.{room_first}
use Rattle.server_actions.specs.Parts.{acts_gates}
use Rattle.server_visit.specs.Visits.{blocked_by, blocked_post, keepers_held, keepers_blockers, keepers_shut, keepers_room, keepers_chain}
use borrow.Author.Rules.{rules}
use Rattle.server_visit.proofs.visit_request.Goals as goal

pub ask_keepers-d-requires : goal.ask_keepers-d-requires
ask_keepers-d-requires c = (search rules, search rules, c.requires.2, c.requires.4, room_first _ _ _ (acts_gates _ _) _ c.requires.7)

pub returns-then-b-ne0 : goal.returns-then-b-ne0
returns-then-b-ne0 c = keepers_chain _ _ _ _ _ c.ask_keepers-d.ensures (acts_gates _ _) (blocked_post _ _ _ _ _ _ (blocked_by _ _ _ (keepers_blockers _ _ _ _ _ c.ask_keepers-d.ensures c.requires.1 c.requires.3) (λ j. omega (arith, c.slice_known-4-1.given j)) c.if-b-ne0.true))

pub gates-requires : goal.gates-requires
gates-requires c = (search rules, search rules, keepers_held _ _ _ _ _ c.ask_keepers-d.ensures c.requires.2, sym (keepers_blockers _ _ _ _ _ c.ask_keepers-d.ensures c.requires.1 c.requires.3) ∙ c.if-b-ne0.false, keepers_shut _ _ _ _ _ c.ask_keepers-d.ensures c.requires.4, λ n m. omega (arith, n, m, c.requires.5, c.requires.6), keepers_room _ _ _ _ _ c.ask_keepers-d.ensures (acts_gates _ _) c.requires.7)

pub returns : goal.returns
returns c = keepers_chain _ _ _ _ _ c.ask_keepers-d.ensures (acts_gates _ _) c.gates.ensures
