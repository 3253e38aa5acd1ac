-- `station_owner::write_as` meets its contract.
use mathlib.Core.Path.{sym}
use borrow.Author.Tests.{eq-eqb, ne_eqb}
use Rattle.station_answer.specs.Handed.{hand_none, hand_one}
use Rattle.station_owner.specs.Owner.{write_as_b, write_ask_b}
use Rattle.station_owner.proofs.write_as.Goals as goal

pub returns-then-n-eq0 : goal.returns-then-n-eq0
unfolding write_as_b
returns-then-n-eq0 c = simp (sym c.named-n.ensures, eq-eqb _ _ c.if-n-eq0.true) (hand_none _ _ _ c.write_all.ensures c.say.ensures)

pub returns : goal.returns
unfolding write_as_b write_ask_b
returns c = simp (sym c.named-n.ensures, ne_eqb _ _ c.if-n-eq0.false) (hand_one _ _ _ _ c.for_write.ensures c.ask.ensures c.say-2.ensures)
