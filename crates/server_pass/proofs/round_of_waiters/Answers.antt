-- `server_pass::round_of_waiters` meets its contract.
use Rattle.server_order.specs.Known.{known_none}
use Rattle.server_pass.specs.Calls.{round_passes, round_sends, round_known, round_breaks, round_broken}
use borrow.Author.Rules.{rules}
use Rattle.server_pass.proofs.round_of_waiters.Goals as goal

pub pass-b-requires : goal.pass-b-requires
pass-b-requires c = (search rules, known_none _, c.requires.1, round_passes _ _ _ _ c.requires.2)

pub returns-then-b-c : goal.returns-then-b-c
returns-then-b-c c = round_sends _ _ _ _ c.pass-b.ensures.0 c.if-b-c.true

pub break_cycle-requires : goal.break_cycle-requires
break_cycle-requires c = (search rules, round_known _ _ _ _ c.pass-b.ensures.0 c.if-b-c.false c.pass-b.ensures.1, round_breaks _ _ _ _ c.pass-b.ensures.0 c.if-b-c.false c.requires.2)

pub returns : goal.returns
returns c = round_broken _ _ _ _ c.pass-b.ensures.0 c.if-b-c.false c.break_cycle.ensures
