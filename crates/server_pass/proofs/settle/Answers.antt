use borrow.Author.Rules.{rules}
use Rattle.server_pass.specs.Sane.{state_of}
use Rattle.server_pass.specs.Rounds.{sane_round}
use Rattle.server_pass.specs.Goes.{goes_first, goes_room, goes_next, goes_less, goes_end}
use Rattle.server_pass.proofs.settle.Goals as goal

pub loop-going-init : goal.loop-going-init
loop-going-init c = (search rules, search rules, search rules, c.requires.1, goes_first _ _ _ _ c.requires.2)

pub round-e-requires : goal.round-e-requires
round-e-requires c = (search rules, c.loop-going.invariant.3, goes_room _ _ _ _ (rw c.loop-going-test.true at c.loop-going.invariant.4))

pub loop-going-smaller : goal.loop-going-smaller
loop-going-smaller c = rw c.loop-going-test.true (goes_less _ _ _ _ c.round-e.ensures c.loop-going.invariant.3)

pub loop-going-preserved : goal.loop-going-preserved
loop-going-preserved c = (search rules, search rules, search rules, rw (state_of _ _ _ _ c.round-e.ensures) (sane_round c.loop-going.invariant.3), goes_next _ _ _ _ c.round-e.ensures c.loop-going.invariant.3 (rw c.loop-going-test.true at c.loop-going.invariant.4))

pub returns : goal.returns
returns c = goes_end (rw c.loop-going-test.false at c.loop-going.invariant.4)
